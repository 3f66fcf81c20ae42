-- Identity text and filter to tag: the number (document 02, C-16: 23 to 25). All places are 0.
use Rattle.std.specs.Prelude.{ℕ, List, [], ◌∷◌, ◌++◌, Bool, true, false, ◌&&◌, ◌||◌, cond, leb, ltb, eqb, length}
use Prim.Native.Char.{code}
use Rattle.std.specs.Prelude.{Option, None, Some, option_map}
use Rattle.rules.specs.declared.Scheme.{Scheme}
use Rattle.rules.specs.declared.Parts.{Parts}
use Rattle.rules.specs.declared.Parts.TheVariants.{F, Integers}
use Rattle.rules.specs.Answers.{Answer, refused, taken, ◌>>=◌, ◌>>◌, demand, given, kept}
use Rattle.rules.specs.Bytes.{among, upto, behind, dot, percent, digits_text}
use Rattle.rules.specs.Schemes.{about as aboutScheme}
use Rattle.rules.specs.Grammar.{plain_number, Tag, start as tagStart, label as schemeLabel}
use Rattle.rules.specs.TextNumbers.{after, digits_in, characters_in, tag_of_text}
use Rattle.identities.specs.declared.Family.{Family}
use Rattle.identities.specs.declared.Component.{Component}
use Rattle.identities.specs.declared.Component.TheVariants.{Padded, PaddedOrEmpty, UpTo, Number, Characters, PartReference}
use Rattle.identities.specs.Families.{about, families, short, long, most_filter}
use Rattle.identities.specs.Grammar.{part_characters, totals, Identity, start, label, joined}

-- there is a value, and it passes a test
abbrev pub holds : {X : Type 0} → (X → Bool) → Option X → Bool
holds test None = false
holds test (Some x) = test x

-- a text has nothing but characters of a part reference and the escapes of `/` and `#`
abbrev pub slash_or_hash : ℕ → ℕ → Bool
slash_or_hash h l = eqb h (code "2") && (eqb l (code "F") || eqb l (code "3"))

abbrev pub parts_only : List ℕ → Bool
parts_only [] = true
parts_only (c ∷ []) = among c part_characters
parts_only (c ∷ h ∷ []) = among c part_characters && parts_only (h ∷ [])
parts_only (c ∷ h ∷ l ∷ t) =
    let e = slash_or_hash h l && parts_only t in
    let p = among c part_characters && parts_only (h ∷ l ∷ t) in
    cond (eqb c percent) e p

abbrev pub some_of : List ℕ → Bool
some_of xs = ltb 0 (length xs)

-- a text is such a component
abbrev pub is : Component → List ℕ → Bool
is Padded x = holds some_of (digits_in x)
is PaddedOrEmpty x = holds (λ _. true) (digits_in x)
is (UpTo n) x = holds (λ ds. some_of ds && leb (length ds) n) (digits_in x)
is Number x = holds plain_number (digits_in x)
is Characters x = holds some_of (characters_in x)
is PartReference x = parts_only x && some_of x

-- the parts that a text of these components has: each up to the next dot, the last the rest
abbrev pub divided_by : List Component → List ℕ → Option (List (List ℕ))
divided_by [] t = None
divided_by (c ∷ []) t = cond (is c t) (Some (t ∷ [])) None
divided_by (c ∷ d ∷ cs) t =
    let r = option_map (upto dot t ∷◌) (divided_by (d ∷ cs) (behind dot t)) in
    cond (among dot t && is c (upto dot t)) r None

abbrev pub body_in : Family → List ℕ → Option (List (List ℕ))
body_in f t = kept (totals (about f).total) (divided_by (about f).components t)

-- the family whose name and colon u begins with, and the text behind them
pub record Named : Type 0 where
  pub family : Family
  pub rest : List ℕ

abbrev pub choose : Family → Option (List ℕ) → Option Named → Option Named
choose f None o = o
choose f (Some v) o = Some (record { family = f; rest = v })

abbrev pub named : List Family → List ℕ → Option Named
named [] u = None
named (f ∷ fs) u = choose f (after (label f) u) (named fs u)

abbrev pub identified : Named → Option Identity
identified c = option_map (λ ps. record { family = c.family; parts = ps }) (body_in c.family c.rest)

abbrev pub and_then : {X Y : Type 0} → Option X → (X → Option Y) → Option Y
and_then None k = None
and_then (Some x) k = k x

unfoldable pub identity_in : List ℕ → Option Identity
identity_in t = and_then (after start t) λ u. and_then (named families u) identified

-- a scheme's tag with this filter, the parts of an identity, and no control fields: its text, if the codec takes it
abbrev pub filter_text : Parts → ℕ → List ℕ
filter_text (F body) f = digits_text (f ∷ []) ++ dot ∷ []
filter_text (Integers a b c) f = []

abbrev pub tag_text : ℕ → List ℕ → Scheme → List ℕ
tag_text f body s = tagStart ++ (schemeLabel s ++ (filter_text (aboutScheme s).parts f ++ body))

abbrev pub if_taken : {X : Type 0} → Answer X → Option X
if_taken (refused n p) = None
if_taken (taken x) = Some x

unfoldable pub held_by : ℕ → List ℕ → Scheme → Option Tag
held_by f body s = if_taken (tag_of_text (tag_text f body s))

abbrev pub or_else : {X : Type 0} → Option X → Option X → Option X
or_else None o = o
or_else (Some x) o = Some x

-- the 96-bit scheme if the serial fits it, else the long one
abbrev pub chosen : ℕ → Family → List ℕ → Option Tag
chosen f family body = or_else (held_by f body (short family)) (and_then (long family) (held_by f body))

-- 23 for a text that is no identity, 24 for the filter, 25 where no scheme holds it
abbrev pub tag_of : ℕ → Option Identity → Answer Tag
tag_of f o = do
  ι ← given o 23 0
  demand (leb f (most_filter ι.family)) 24 0
  given (chosen f ι.family (joined ι.parts)) 25 0

unfoldable pub tag_of_identity : ℕ → List ℕ → Answer Tag
tag_of_identity f t = tag_of f (identity_in t)
