-- The texts taken as identities are those of the grammar, and each divides in one way.
use Prim.Native.Nat.{ℕ}
use mathlib.Core.Path.{◌≡◌, refl, ◌∙◌, ap}
use mathlib.Core.Logic.{◌↔◌}
use mathlib.Core.List.{List, [], ◌∷◌, ◌++◌}
use Rattle.std.specs.Prelude.{Option, None, Some, option_map}
use Rattle.rules.specs.TextNumbers.{after}
use Rattle.rules.proofs.Answers.{Gives, Decides, decided}
use Rattle.rules.proofs.Starts.{after_is, after_of}
use Rattle.identities.specs.declared.Family.{Family}
use Rattle.identities.specs.declared.Family.TheVariants.{Sgtin, Sscc, Sgln, Grai, Giai, Gsrn, Gsrnp, Gdti, Gid, Sgcn, Cpi}
use Rattle.identities.specs.Families.{families}
use Rattle.identities.specs.Grammar.{Identity, IdentityFits, joined, start, label, identity_text, IdentityText}
use Rattle.identities.specs.Numbers.{Named, choose, named, body_in, identified, and_then, identity_in}
use Rattle.identities.proofs.Divisions.{body_is, body_of}

pub named_is : (fs : List Family) (u : List ℕ) → Gives (λ c. u ≡ label c.family ++ c.rest) (named fs u)
named_is [] u = tt
named_is (f ∷ fs) u = go (after (label f) u) (after_is (label f) u) (named fs u) (named_is fs u)
  where
    go : (o : Option (List ℕ)) → Gives (λ v. u ≡ label f ++ v) o → (q : Option Named) → Gives (λ c. u ≡ label c.family ++ c.rest) q
        → Gives (λ c. u ≡ label c.family ++ c.rest) (choose f o q)
    go None h q i = i
    go (Some v) h q i = h

-- each name and colon are the family's alone
pub named_of : (f : Family) (v : List ℕ) → named families (label f ++ v) ≡ Some (record { family = f; rest = v })
unfolding families
named_of Sgtin v = refl
named_of Sscc v = refl
named_of Sgln v = refl
named_of Grai v = refl
named_of Giai v = refl
named_of Gsrn v = refl
named_of Gsrnp v = refl
named_of Gdti v = refl
named_of Gid v = refl
named_of Sgcn v = refl
named_of Cpi v = refl

identified_is : (c : Named) → Gives (λ ι. IdentityFits ι × (label c.family ++ c.rest ≡ label ι.family ++ joined ι.parts)) (identified c)
identified_is c = go (body_in c.family c.rest) (body_is c.family c.rest)
  where
    go : (o : Option (List (List ℕ))) → Gives (λ xs. IdentityFits (record { family = c.family; parts = xs }) × (c.rest ≡ joined xs)) o
        → Gives (λ ι. IdentityFits ι × (label c.family ++ c.rest ≡ label ι.family ++ joined ι.parts))
        (option_map (λ (xs : List (List ℕ)). record { family = c.family; parts = xs }) o)
    go None g = tt
    go (Some xs) g = (g.0, ap (label c.family ++◌) g.1)

pub identity_is : (t : List ℕ) → Gives (IdentityText t) (identity_in t)
unfolding identity_in identity_text
identity_is t = started (after start t) (after_is start t)
  where
    text : (u : List ℕ) (c : Named) → t ≡ start ++ u → u ≡ label c.family ++ c.rest → (o : Option Identity)
        → Gives (λ ι. IdentityFits ι × (label c.family ++ c.rest ≡ label ι.family ++ joined ι.parts)) o → Gives (IdentityText t) o
    text u c e r None g = tt
    text u c e r (Some ι) g = record { fits = g.0; text = e ∙ ap (start ++◌) (r ∙ g.1) }

    begun : (u : List ℕ) → t ≡ start ++ u → (o : Option Named) → Gives (λ c. u ≡ label c.family ++ c.rest) o → Gives (IdentityText t) (and_then o identified)
    begun u e None r = tt
    begun u e (Some c) r = text u c e r (identified c) (identified_is c)

    started : (o : Option (List ℕ)) → Gives (λ u. t ≡ start ++ u) o → Gives (IdentityText t) (and_then o λ u. and_then (named families u) identified)
    started None e = tt
    started (Some u) e = begun u e (named families u) (named_is families u)

-- what a text of a family is read as
pub identity_named : (f : Family) (v : List ℕ) → identity_in (start ++ (label f ++ v)) ≡ identified (record { family = f; rest = v })
unfolding identity_in
identity_named f v = rw (after_of start (label f ++ v), named_of f v)

pub identity_of_lem : (t : List ℕ) (ι : Identity) → IdentityText t ι → identity_in t ≡ Some ι
unfolding identity_text
identity_of_lem t ι r = ap identity_in r.text ∙ identity_named ι.family (joined ι.parts) ∙ rw (body_of ι r.fits)

-- the texts taken are those of the grammar, each as the identity that it is the text of
pub identities : (t : List ℕ) (ι : Identity) → (identity_in t ≡ Some ι) ↔ IdentityText t ι
identities t ι = (λ e. rw e at (identity_is t), identity_of_lem t ι)

-- each divides in one way
pub one_identity : (t : List ℕ) (ι ι' : Identity) → IdentityText t ι → IdentityText t ι' → ι ≡ ι'
one_identity t ι ι' r r' = cc (identity_of_lem t ι r, identity_of_lem t ι' r')

pub identity_decides : (t : List ℕ) → Decides (¬ ((ι : Identity) × IdentityText t ι)) (IdentityText t) (identity_in t)
identity_decides t = decided ((ι : Identity) × IdentityText t ι) (IdentityText t) (identity_in t) (identity_is t) (λ ι r. (ι, r)) λ r. (r.0, identity_of_lem t r.0 r.1)
