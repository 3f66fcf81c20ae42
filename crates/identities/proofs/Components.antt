-- A text in one of the components: the test of the reader says what the grammar says, and none but characters may hold a dot.
use Prim.Native.Nat.{ℕ, ◌<◌}
use Prim.Native.Char.{code}
use mathlib.Core.Path.{◌≡◌}
use mathlib.Core.List.{List, [], ◌∷◌}
use Rattle.std.specs.Prelude.{Option, None, Some}
use mathlib.Core.Bool.{Bool, true, false, ◌&&◌, ◌||◌, not, cond}
use lib.Dec.{T, leb, eqb, leb→le, le→leb, ltb→lt, lt→ltb, eqb→eq}
use lib.ListN.{length}
use Rattle.rules.specs.Bytes.{all, among, dot, percent, digits_text}
use Rattle.rules.specs.Grammar.{digit, plain_number}
use Rattle.rules.specs.TextNumbers.{digits_in, characters_in}
use Rattle.rules.specs.Conditions.{Decimal, Spelled}
use Rattle.rules.proofs.Tests.{is_false, both, and, all_among}
use Rattle.rules.proofs.Answers.{Gives}
use Rattle.rules.proofs.Runs.{without}
use Rattle.rules.proofs.Decimals.{all_digits, digits_all, digits_is, digits_of_lem, no_dots}
use Rattle.rules.proofs.Spellings.{CharactersIs, characters_is, characters_of_lem}
use Rattle.rules.proofs.Forms.{whole_of, whole_is}
use Rattle.identities.specs.declared.Component.{Component}
use Rattle.identities.specs.declared.Component.TheVariants.{Padded, PaddedOrEmpty, UpTo, Number, Characters, PartReference}
use Rattle.identities.specs.Grammar.{part_characters, PartText, done, itself, slash, hash, Is}
use Rattle.identities.specs.Numbers.{holds, slash_or_hash, parts_only, some_of, is}

-- Digits that pass a test, and characters.
digits_passed : (test : List ℕ → Bool) (x : List ℕ) → T (holds test (digits_in x)) → (ds : List ℕ) × Decimal x ds × T (test ds)
digits_passed test x h = go (digits_in x) (digits_is x) h
  where
    go : (o : Option (List ℕ)) → Gives (λ ds. T (all digit ds) × (x ≡ digits_text ds)) o → T (holds test o) → (ds : List ℕ) × Decimal x ds × T (test ds)
    go None g h = absurd h
    go (Some ds) g h = (ds, (all_digits ds g.0, g.1), h)

digits_pass : (test : List ℕ → Bool) (x ds : List ℕ) → Decimal x ds → T (test ds) → T (holds test (digits_in x))
digits_pass test x ds d h = rw (d.1, digits_of_lem ds (digits_all ds d.0)) h

characters_passed : (x : List ℕ) → T (holds some_of (characters_in x)) → (cs : List ℕ) × Spelled x cs × (0 < length cs)
characters_passed x h = go (characters_in x) (characters_is x) h
  where
    go : (o : Option (List ℕ)) → CharactersIs x o → T (holds some_of o) → (cs : List ℕ) × Spelled x cs × (0 < length cs)
    go None g h = absurd h
    go (Some cs) g h = (cs, g, ltb→lt 0 (length cs) h)

-- A part reference.
percent_apart : T (all (λ c. not (eqb c percent)) part_characters)
unfolding part_characters
percent_apart = tt

itself_step : (c : ℕ) (t : List ℕ) → T (among c part_characters) → T (parts_only t) → T (parts_only (c ∷ t))
itself_step c [] h k = h
itself_step c (x ∷ []) h k = and (among c part_characters) (parts_only (x ∷ [])) h k
itself_step c (x ∷ y ∷ t) h k =
    rw (is_false (eqb c percent) (all_among (λ c. not (eqb c percent)) part_characters c percent_apart h)) (and (among c part_characters) (parts_only (x ∷ y ∷ t)) h k)

pub parts_of_lem : {x : List ℕ} → PartText x → T (parts_only x)
parts_of_lem done = tt
parts_of_lem (itself {c = c} {t = t} h r) = itself_step c t h (parts_of_lem r)
parts_of_lem (slash r) = parts_of_lem r
parts_of_lem (hash r) = parts_of_lem r

escape_is : (c x l : ℕ) (t : List ℕ) → c ≡ percent → T (slash_or_hash x l) → PartText t → PartText (c ∷ x ∷ l ∷ t)
escape_is c x l t e h r =
    let (a, b) = both (eqb x (code "2")) (eqb l (code "F") || eqb l (code "3")) h in
    rw (e, eqb→eq x (code "2") a) (go (eqb l (code "F")) (eqb→eq l (code "F")) b)
  where
    go : (q : Bool) → (T q → l ≡ code "F") → T (q || eqb l (code "3")) → PartText (percent ∷ code "2" ∷ l ∷ t)
    go true f b = rw (f tt) (slash r)
    go false f b = rw (eqb→eq l (code "3") b) (hash r)

pub parts_is : (x : List ℕ) → T (parts_only x) → PartText x
parts_is [] h = done
parts_is (c ∷ []) h = itself h done
parts_is (c ∷ x ∷ []) h =
    let (a, b) = both (among c part_characters) (parts_only (x ∷ [])) h in
    itself a (parts_is (x ∷ []) b)
parts_is (c ∷ x ∷ l ∷ t) h = go (eqb c percent) (eqb→eq c percent) (parts_is t) (parts_is (x ∷ l ∷ t)) h
  where
    go : (q : Bool) → (T q → c ≡ percent) → (T (parts_only t) → PartText t) → (T (parts_only (x ∷ l ∷ t)) → PartText (x ∷ l ∷ t))
        → T (cond q (slash_or_hash x l && parts_only t) (among c part_characters && parts_only (x ∷ l ∷ t))) → PartText (c ∷ x ∷ l ∷ t)
    go true e i j h = let (a, b) = both (slash_or_hash x l) (parts_only t) h in escape_is c x l t (e tt) a (i b)
    go false e i j h = let (a, b) = both (among c part_characters) (parts_only (x ∷ l ∷ t)) h in itself a (j b)

-- The components.
pub component_is : (c : Component) (x : List ℕ) → T (is c x) → Is c x
component_is Padded x h = let (ds, d, k) = digits_passed some_of x h in (ds, d, ltb→lt 0 (length ds) k)
component_is PaddedOrEmpty x h = let (ds, d, _) = digits_passed (λ _. true) x h in (ds, d)
component_is (UpTo n) x h =
    let (ds, d, k) = digits_passed (λ ds. some_of ds && leb (length ds) n) x h in
    let (a, b) = both (some_of ds) (leb (length ds) n) k in
    (ds, d, ltb→lt 0 (length ds) a, leb→le (length ds) n b)
component_is Number x h = let (ds, d, k) = digits_passed plain_number x h in (ds, d, whole_of ds k)
component_is Characters x h = characters_passed x h
component_is PartReference x h = let (a, b) = both (parts_only x) (some_of x) h in (parts_is x a, ltb→lt 0 (length x) b)

pub component_of : (c : Component) (x : List ℕ) → Is c x → T (is c x)
component_of Padded x (ds, d, l) = digits_pass some_of x ds d (lt→ltb 0 (length ds) l)
component_of PaddedOrEmpty x (ds, d) = digits_pass (λ _. true) x ds d tt
component_of (UpTo n) x (ds, d, l, m) =
    digits_pass (λ ds. some_of ds && leb (length ds) n) x ds d (and (some_of ds) (leb (length ds) n) (lt→ltb 0 (length ds) l) (le→leb (length ds) n m))
component_of Number x (ds, d, w) = digits_pass plain_number x ds d (whole_is w)
component_of Characters x (cs, s, l) = rw (s.1, characters_of_lem cs s.0) (lt→ltb 0 (length cs) l)
component_of PartReference x (p, l) = and (parts_only x) (some_of x) (parts_of_lem p) (lt→ltb 0 (length x) l)

-- Dots.
abbrev pub Dotless : Component → Type 0
Dotless Padded = Unit
Dotless PaddedOrEmpty = Unit
Dotless (UpTo n) = Unit
Dotless Number = Unit
Dotless Characters = ⊥
Dotless PartReference = Unit

dot_apart : T (all (λ c. not (eqb dot c)) part_characters)
unfolding part_characters
dot_apart = tt

part_clear : {x : List ℕ} → PartText x → T (without dot x)
part_clear done = tt
part_clear (itself {c = c} {t = t} h r) = and (not (eqb dot c)) (without dot t) (all_among (λ c. not (eqb dot c)) part_characters c dot_apart h) (part_clear r)
part_clear (slash r) = part_clear r
part_clear (hash r) = part_clear r

digits_clear : (x ds : List ℕ) → Decimal x ds → T (without dot x)
digits_clear x ds d = rw d.1 (no_dots ds (digits_all ds d.0))

pub clear : (c : Component) (x : List ℕ) → Dotless c → Is c x → T (without dot x)
clear Padded x d i = digits_clear x i.0 i.1
clear PaddedOrEmpty x d i = digits_clear x i.0 i.1
clear (UpTo n) x d i = digits_clear x i.0 i.1
clear Number x d i = digits_clear x i.0 i.1
clear Characters x d i = absurd d
clear PartReference x d i = part_clear i.0
