-- When each number applies, by itself and in the words of document 02 (C-16), apart from the readers of Numbers.
use Rattle.std.specs.Prelude.{ℕ, ◌<◌, ◌≡◌, ◌⊎◌, List, [], ◌∷◌}
use Rattle.rules.specs.declared.Scheme.TheVariants.{Gdti113}
use Rattle.rules.specs.Grammar.{Tag, TagFits}
use Rattle.rules.specs.Conditions.{Rule, rule}
use Rattle.identities.specs.declared.Family.TheVariants.{Gid}
use Rattle.identities.specs.Grammar.{Identity, IdentityText, identity_text}
use Rattle.identities.specs.OfTags.{identity_of}

-- a tag of a scheme other than gdti-113, which is never chosen, has the identity of the text t
pub record Holds (t : List ℕ) (τ : Tag) : Type 0 where
  pub fits : TagFits τ
  pub identity : t ≡ identity_text (identity_of τ)
  pub not_113 : ¬ (τ.scheme ≡ Gdti113)

unfoldable pub identity_rules : ℕ → List ℕ → List Rule
identity_rules f t =
    -- not a text of a listed family by the grammar
    rule 23 (¬ ((ι : Identity) × IdentityText t ι)) (◌≡ 0) ∷
    -- filter above 7, or not 0 for gid
    rule 24 ((7 < f) ⊎ ((¬ (f ≡ 0)) × (ι : Identity) × IdentityText t ι × (ι.family ≡ Gid))) (◌≡ 0) ∷
    -- no scheme we have holds it
    rule 25 (¬ ((τ : Tag) × Holds t τ)) (◌≡ 0) ∷ []
