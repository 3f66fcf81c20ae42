-- What document 02 (C-16) promises of the two calls, in its words; Calls has the one answer that keeps it (proofs/OneAnswer).
use Rattle.std.specs.Prelude.{ℕ, ◌≡◌, List, ◌∷◌}
use Rattle.rules.specs.Schemes.{about}
use Rattle.rules.specs.ControlFields.{no_fields}
use Rattle.rules.specs.Grammar.{Tag, TagText}
use Rattle.rules.specs.Calls.{Call}
use Rattle.rules.specs.Conditions.{text_rules}
use Rattle.rules.specs.Promises.{Promised, Short}
use Rattle.identities.specs.Grammar.{identity_text}
use Rattle.identities.specs.OfTags.{identity_of, filter_of}
use Rattle.identities.specs.Conditions.{Holds, identity_rules}

-- the identity of the tag whose text is lent
abbrev pub TagToIdentity : List ℕ → List ℕ → Call → Type 0
TagToIdentity t out = Promised (Short 160 out ∷ text_rules t) (λ W w. (W ≡ 0) × (τ : Tag) × TagText t τ × (w ≡ identity_text (identity_of τ))) out

abbrev pub In96 : Tag → Type 0
In96 τ = (about τ.scheme).bits ≡ 96

-- The tag that is given for an identity and a filter: it has them, and no control fields, and it is of the 96-bit scheme if a tag of that
-- scheme has this identity.
pub record Given (f : ℕ) (t : List ℕ) (τ : Tag) : Type 0 where
  pub holds : Holds t τ
  pub filter : filter_of τ ≡ f
  pub control : τ.control ≡ no_fields
  pub shortest : (σ : Tag) → Holds t σ → In96 σ → In96 τ

abbrev pub IdentityToTag : ℕ → List ℕ → List ℕ → Call → Type 0
IdentityToTag f t out = Promised (Short 160 out ∷ identity_rules f t) (λ W w. (W ≡ 0) × (τ : Tag) × TagText w τ × Given f t τ) out
