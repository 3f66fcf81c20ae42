-- The verdict on a counted family: its schemes share a table whose rows have the family's total, and the last part decides between them.
use Prim.Native.Nat.{ℕ, suc, ◌+◌, ◌-◌, ◌/◌, ◌≤◌}
use mathlib.Core.Path.{◌≡◌, refl, sym, ap, ◌∙◌}
use mathlib.Core.Bool.{Bool, true, false, ◌&&◌, cond}
use mathlib.Core.List.{List, [], ◌∷◌}
use Rattle.std.specs.Prelude.{Err, Ok, Option, None, Some, option_map}
use native.Mathlib.Omega.{arith}
use lib.Dec.{T, leb, ltb, lit≤}
use lib.ListN.{length}
use borrow.Author.Tests.{ne_eqb, eq-eqb, lt-ltb}
use Rattle.rules.specs.declared.Scheme.{Scheme}
use Rattle.rules.specs.declared.Scheme.TheVariants.{Sgtin198, Sgln195, Grai170, Gdti174}
use Rattle.rules.specs.declared.Table.{Table}
use Rattle.rules.specs.declared.Table.TheVariants.{A, B, C, D}
use Rattle.rules.specs.declared.Last.{Last}
use Rattle.rules.specs.declared.Last.TheVariants.{Integer, String, Numeric}
use Rattle.rules.specs.declared.Body.TheVariants.{Then, Zeros}
use Rattle.rules.specs.declared.Parts.TheVariants.{F}
use Rattle.rules.specs.Answers.{kept}
use Rattle.rules.specs.Bytes.{behind, dot}
use Rattle.rules.specs.Schemes.{exact, integer, string, numeric, last_form}
use Rattle.rules.specs.Schemes.{about as aboutScheme}
use Rattle.rules.specs.Grammar.{shaped, sized}
use Rattle.rules.specs.Conditions.{Formed}
use Rattle.rules.specs.TextNumbers.{digits_in, characters_in, formed}
use Rattle.rules.proofs.Tests.{is_true}
use Rattle.rules.proofs.Answers.{Decides}
use Rattle.rules.proofs.Forms.{Symbols, formed_decides}
use Rattle.alphabet.specs.Strings.{string_part}
use Rattle.identities.specs.declared.Family.{Family}
use Rattle.identities.specs.declared.Family.TheVariants.{Sgtin, Sscc, Sgln, Grai, Gsrn, Gsrnp, Gdti, Sgcn}
use Rattle.identities.specs.declared.Component.{Component}
use Rattle.identities.specs.declared.Component.TheVariants.{Padded, PaddedOrEmpty, UpTo, Characters}
use Rattle.identities.specs.Families.{short, long}
use Rattle.identities.specs.Numbers.{holds, some_of, is, or_else, and_then}
use Rattle.identities.proofs.Components.{component_of}
use Rattle.identities.proofs.TagTexts.{Sums, sums_a, sums_b, sums_c, sums_d, integer_characters}
use Rattle.identify.specs.declared.counted.Fault.TheVariants.{WrongText, Unheld}
use Rattle.identify.specs.Words.{is_body, is_divided, held, held_in, holder, judged_as, judged, fitting, in_row, by_row, last_bits, by_count, by_last, Serialised, Bare}
use Rattle.identify.proofs.Divided.{Cut, third_wrong, triple_right, pair_right, body_divided}
use Rattle.identify.proofs.Pieces.{held_body, with_last_fits, alone_fits}
use Rattle.identify.proofs.Verdicts.{Digital, never_empty, maybe_empty, digits_of_cut, digits_of_text}

-- A family whose serial is an integer in the one scheme and a string in the other; and one that has one scheme.
pub data Schemes (f : Family) (b c : Component) (N : ℕ) : Type 0 where
  two_schemes : (t : Table) (bits k : ℕ) (l : Scheme) → exact t ≡ true → Sums t N → (aboutScheme (short f)).parts ≡ F (Then t (Integer bits)) → long f ≡ Some l
      → (aboutScheme l).parts ≡ F (Then t (String k)) → bits ≤ 63 → c ≡ Characters → Digital b → Schemes f b c N
  one_scheme : (t : Table) (l : Last) → exact t ≡ true → Sums t N → (aboutScheme (short f)).parts ≡ F (Then t l) → long f ≡ None
      → ((z : List ℕ) → fitting (last_form l) z ≡ is c z) → last_bits (F (Then t l)) ≤ 63 → Digital b → Schemes f b c N

-- a numeric string of at most n digits is what one to n digits are
numeric_is : (b n : ℕ) (z : List ℕ) → fitting (numeric b n) z ≡ is (UpTo n) z
numeric_is b n z = go (digits_in z)
  where
    some_digits : (ds : List ℕ) (q : Bool) → holds (λ (ds : List ℕ). leb (length ds) n) (cond q (Some ds) None) ≡ q && leb (length ds) n
    some_digits ds true = refl
    some_digits ds false = refl

    go : (o : Option (List ℕ)) → holds (λ (ds : List ℕ). leb (length ds) n) (kept (λ ds. ltb 0 (length ds)) o) ≡ holds (λ (ds : List ℕ). some_of ds && leb (length ds) n) o
    go None = refl
    go (Some ds) = some_digits ds (ltb 0 (length ds))

pub schemes_of : (f : Family) (b c : Component) (N : ℕ) → Serialised f b c N → Schemes f b c N
schemes_of Sgtin b c N s =
    let eb : b ≡ Padded = cc s.components in
    let ec : c ≡ Characters = cc s.components in
    let e_n : N ≡ 13 = cc s.total in
    rw (eb, ec, e_n) (two_schemes A 38 140 Sgtin198 refl sums_a refl refl refl (lit≤ tt) refl never_empty)
schemes_of Sgln b c N s =
    let eb : b ≡ PaddedOrEmpty = cc s.components in
    let ec : c ≡ Characters = cc s.components in
    let e_n : N ≡ 12 = cc s.total in
    rw (eb, ec, e_n) (two_schemes D 41 140 Sgln195 refl sums_d refl refl refl (lit≤ tt) refl maybe_empty)
schemes_of Grai b c N s =
    let eb : b ≡ PaddedOrEmpty = cc s.components in
    let ec : c ≡ Characters = cc s.components in
    let e_n : N ≡ 12 = cc s.total in
    rw (eb, ec, e_n) (two_schemes C 38 112 Grai170 refl sums_c refl refl refl (lit≤ tt) refl maybe_empty)
schemes_of Gdti b c N s =
    let eb : b ≡ PaddedOrEmpty = cc s.components in
    let ec : c ≡ Characters = cc s.components in
    let e_n : N ≡ 12 = cc s.total in
    rw (eb, ec, e_n) (two_schemes D 41 119 Gdti174 refl sums_d refl refl refl (lit≤ tt) refl maybe_empty)
schemes_of Sgcn b c N s =
    let eb : b ≡ PaddedOrEmpty = cc s.components in
    let ec : c ≡ UpTo 12 = cc s.components in
    let e_n : N ≡ 12 = cc s.total in
    rw (eb, ec, e_n) (one_scheme D (Numeric 41 12) refl sums_d refl refl (numeric_is 41 12) (lit≤ tt) maybe_empty)
schemes_of _ b c N s = cc

-- an integer is characters, too
integer_is : (b : ℕ) (z : List ℕ) → fitting (integer b) z ≡ true → is Characters z ≡ true
integer_is b z e = go (formed (integer b) z) (formed_decides (integer b) z) e
  where
    go : (o : Option (List ℕ)) → Decides (¬ (Formed (integer b) z)) (λ p. Symbols (integer b) z p × T (shaped (integer b) p)) o → holds (sized (integer b)) o ≡ true → is Characters z ≡ true
    go None h e = cc
    go (Some p) h e =
        let (s, k) = h.1 in
        is_true (is Characters z) (component_of Characters z (rw s.1 (integer_characters {b = b} p (record { symbols = s.0; shape = k; size = rw e tt }))))

-- The serial decides: an integer, or so many characters.
module _ (n : ℕ) (s l : Scheme) (k : ℕ) (row : Bool) (same : in_row n ≡ row) where
  first_holds : (fs : Bool) → by_row n s ≡ judged_as true (or_else (cond (row && true) (Some s) None) (cond (row && fs) (Some l) None))
  first_holds fs = rw same (go row)
    where
      go : (r : Bool) → cond r (Ok s) (Err Unheld) ≡ judged_as true (or_else (cond (r && true) (Some s) None) (cond (r && fs) (Some l) None))
      go true = refl
      go false = refl

  by_characters : (o : Option (List ℕ))
      → by_count n k l (option_map length (kept some_of o)) ≡ judged_as (holds some_of o) (or_else (cond (row && false) (Some s) None) (cond (row && holds (λ (cs : List ℕ). leb (length cs) k) (kept some_of o)) (Some l) None))
  by_characters None = wrong row
    where
      wrong : (r : Bool) → (Err WrongText) ≡ judged_as false (or_else (cond (r && false) (Some s) None) (cond (r && false) (Some l) None))
      wrong true = refl
      wrong false = refl
  by_characters (Some []) = wrong row
    where
      wrong : (r : Bool) → (Err WrongText) ≡ judged_as false (or_else (cond (r && false) (Some s) None) (cond (r && false) (Some l) None))
      wrong true = refl
      wrong false = refl
  by_characters (Some (c ∷ cs)) = rw (lt-ltb 0 (suc (length cs)) (omega arith), same) (go row (leb (suc (length cs)) k))
    where
      go : (r q : Bool) → cond q (cond r (Ok l) (Err Unheld)) (Err Unheld) ≡ judged_as true (or_else (cond (r && false) (Some s) None) (cond (r && q) (Some l) None))
      go true true = refl
      go true false = refl
      go false true = refl
      go false false = refl

-- THREE PARTS
module _ (f : Family) (b c : Component) (N : ℕ) (x : List ℕ) (serialised : Serialised f b c N) where
  -- the form, by its parts
  body_is : is_divided (Some N) (Padded ∷ b ∷ c ∷ []) x ≡ is_body f x
  body_is = body_divided f (Some N) (Padded ∷ b ∷ c ∷ []) x (sym serialised.components) (sym serialised.total)

  pub wrong_form : false ≡ is_divided (Some N) (Padded ∷ b ∷ c ∷ []) x → (Err WrongText) ≡ judged f x
  wrong_form e = sym (ap (λ q. judged_as q (holder f x)) (sym body_is ∙ sym e))

  module _ (n m : ℕ) (i : Cut Padded x n) (j : Cut b (behind dot x) m) where
    formed_by_last : n + m ≡ N → is_body f x ≡ is c (behind dot (behind dot x))
    formed_by_last sum = sym body_is ∙ go (is c (behind dot (behind dot x))) refl
      where
        go : (q : Bool) → is c (behind dot (behind dot x)) ≡ q → is_divided (Some N) (Padded ∷ b ∷ c ∷ []) x ≡ q
        go true e = sym (triple_right (Some N) Padded b x n i c m j e) ∙ eq-eqb (n + m) N sum
        go false e = sym (third_wrong (Some N) Padded b x n i c m j e)

    pub wrong_total : ¬ (n + m ≡ N) → (Err WrongText) ≡ judged f x
    wrong_total k = wrong_form (go (is c (behind dot (behind dot x))) refl)
      where
        go : (q : Bool) → is c (behind dot (behind dot x)) ≡ q → false ≡ is_divided (Some N) (Padded ∷ b ∷ c ∷ []) x
        go true e = sym (ne_eqb (n + m) N k) ∙ triple_right (Some N) Padded b x n i c m j e
        go false e = third_wrong (Some N) Padded b x n i c m j e

    -- what a scheme of the family's table holds
    held_by_lem : (sums : (t : Table) × (exact t ≡ true) × Sums t N) → Digital b → n + m ≡ N → (s : Scheme) (l : Last) → (aboutScheme s).parts ≡ F (Then sums.0 l) → held x s ≡ in_row n && fitting (last_form l) (behind dot (behind dot x))
    held_by_lem (t, e, h) d sum s l parts =
        let (ds, read, k) = digits_of_cut never_empty x n i in
        let (rs, read_again, r) = digits_of_cut d (behind dot x) m j in
        held_body s (Then t l) x parts
        ∙ with_last_fits t N e h x ds rs i.dotted read l j.dotted read_again (omega (arith, sum, k, r))
        ∙ ap (λ n. in_row n && fitting (last_form l) (behind dot (behind dot x))) k

    -- the form is that of the last part
    counts_and_forms : n + m ≡ N → judged f x ≡ judged_as (is c (behind dot (behind dot x))) (holder f x)
    counts_and_forms sum = ap (λ q. judged_as q (holder f x)) (formed_by_last sum)

    -- one scheme
    sole : (r q : Bool) → cond q (cond r (Ok (short f)) (Err Unheld)) (Err WrongText) ≡ judged_as q (or_else (cond (r && q) (Some (short f)) None) None)
    sole true true = refl
    sole false true = refl
    sole true false = refl
    sole false false = refl

    -- two schemes
    either : (l : Scheme) (bits k : ℕ) (fi : Bool) → fitting (integer bits) (behind dot (behind dot x)) ≡ fi
        → cond fi (by_row n (short f)) (by_count n (k / 7) l (option_map length (string_part (behind dot (behind dot x)))))
        ≡ judged_as (is Characters (behind dot (behind dot x))) (or_else (cond (in_row n && fi) (Some (short f)) None) (cond (in_row n && fitting (string k) (behind dot (behind dot x))) (Some l) None))
    either l bits k true e =
        first_holds n (short f) l (k / 7) (in_row n) refl (fitting (string k) (behind dot (behind dot x)))
        ∙ ap (λ q. judged_as q (or_else (cond (in_row n && true) (Some (short f)) None) (cond (in_row n && fitting (string k) (behind dot (behind dot x))) (Some l) None))) (sym (integer_is bits (behind dot (behind dot x)) e))
    either l bits k false e = by_characters n (short f) l (k / 7) (in_row n) refl (characters_in (behind dot (behind dot x)))

    pub last_decides : n + m ≡ N → by_last n (short f) (long f) c (behind dot (behind dot x)) ≡ judged f x
    last_decides sum = go (schemes_of f b c N serialised)
      where
        go : Schemes f b c N → by_last n (short f) (long f) c (behind dot (behind dot x)) ≡ judged f x
        go (one_scheme t l e h parts alone is_last small d) =
            let q = is c (behind dot (behind dot x)) in
            let r = in_row n in
            ap (λ g. by_last n (short f) g c (behind dot (behind dot x))) alone ∙ sole r q
            ∙ sym (counts_and_forms sum
            ∙ ap (λ h. judged_as q (or_else (cond h (Some (short f)) None) (and_then (long f) (held_in x)))) (held_by_lem (t, e, h) d sum (short f) l parts ∙ ap (r &&◌) (is_last (behind dot (behind dot x))))
            ∙ ap (λ g. judged_as q (or_else (cond (r && q) (Some (short f)) None) (and_then g (held_in x)))) alone)
        go (two_schemes t bits k l e h parts long_is long-parts small chars d) =
            let u = behind dot (behind dot x) in
            let r = in_row n in
            ap (λ g. by_last n (short f) g c u) long_is
            ∙ ap (λ p. cond (fitting (integer (last_bits p)) u) (by_row n (short f)) (by_count n (last_bits (aboutScheme l).parts / 7) l (option_map length (string_part u)))) parts
            ∙ ap (λ p. cond (fitting (integer bits) u) (by_row n (short f)) (by_count n (last_bits p / 7) l (option_map length (string_part u)))) long-parts
            ∙ either l bits k (fitting (integer bits) u) refl
            ∙ sym (counts_and_forms sum ∙ ap (λ y. judged_as (is y u) (holder f x)) chars
            ∙ ap (λ h. judged_as (is Characters u) (or_else (cond h (Some (short f)) None) (and_then (long f) (held_in x)))) (held_by_lem (t, e, h) d sum (short f) (Integer bits) parts)
            ∙ ap (λ g. judged_as (is Characters u) (or_else (cond (r && fitting (integer bits) u) (Some (short f)) None) (and_then g (held_in x)))) long_is
            ∙ ap (λ h. judged_as (is Characters u) (or_else (cond (r && fitting (integer bits) u) (Some (short f)) None) (cond h (Some l) None))) (held_by_lem (t, e, h) d sum l (String k) long-parts))

-- the bits of the 96-bit scheme's last part
pub few_bits : (f : Family) (b c : Component) (N : ℕ) → Serialised f b c N → (last_bits (aboutScheme (short f)).parts ≤ 63) × Digital b
few_bits f b c N s = go (schemes_of f b c N s)
  where
    go : Schemes f b c N → (last_bits (aboutScheme (short f)).parts ≤ 63) × Digital b
    go (two_schemes t bits k l e h parts long_is long-parts small chars d) = (rw parts small, d)
    go (one_scheme t l e h parts alone is_last small d) = (rw parts small, d)

-- TWO PARTS: one scheme, and nothing behind the reference
pub record Alone (f : Family) (a b : Component) (N : ℕ) : Type 0 where
  pub table : Table
  pub zeros : ℕ
  pub is_exact : exact table ≡ true
  pub sums : Sums table N
  pub parts : (aboutScheme (short f)).parts ≡ F (Zeros table zeros)
  pub no_long : long f ≡ None
  pub first : a ≡ Padded
  pub second : b ≡ Padded

pub alone_of : (f : Family) (a b : Component) (N : ℕ) → Bare f a b N → Alone f a b N
alone_of Sscc a b N s = let e_n : N ≡ 17 = cc s.total in rw e_n (record { table = B; zeros = 24; is_exact = refl; sums = sums_b; parts = refl; no_long = refl; first = cc s.components; second = cc s.components })
alone_of Gsrn a b N s = let e_n : N ≡ 17 = cc s.total in rw e_n (record { table = B; zeros = 24; is_exact = refl; sums = sums_b; parts = refl; no_long = refl; first = cc s.components; second = cc s.components })
alone_of Gsrnp a b N s = let e_n : N ≡ 17 = cc s.total in rw e_n (record { table = B; zeros = 24; is_exact = refl; sums = sums_b; parts = refl; no_long = refl; first = cc s.components; second = cc s.components })
alone_of _ a b N s = cc

module _ (f : Family) (a b : Component) (N : ℕ) (x : List ℕ) (bare : Bare f a b N) where
  alone : Alone f a b N
  alone = alone_of f a b N bare

  pair_is : is_divided (Some N) (Padded ∷ b ∷ []) x ≡ is_body f x
  pair_is = body_divided f (Some N) (Padded ∷ b ∷ []) x (ap (λ y. y ∷ b ∷ []) (sym alone.first) ∙ sym bare.components) (sym bare.total)

  pub wrong_pair : false ≡ is_divided (Some N) (Padded ∷ b ∷ []) x → (Err WrongText) ≡ judged f x
  wrong_pair e = sym (ap (λ q. judged_as q (holder f x)) (sym pair_is ∙ sym e))

  module _ (n : ℕ) (i : Cut Padded x n) (right : is b (behind dot x) ≡ true) where
    pub wrong_sum : ¬ (length x - 1 ≡ N) → (Err WrongText) ≡ judged f x
    wrong_sum k = wrong_pair (sym (ne_eqb (length x - 1) N k) ∙ pair_right (Some N) Padded b x n i right (length x - 1) refl)

    pub row_decides : length x - 1 ≡ N → by_row n (short f) ≡ judged f x
    row_decides sum =
        let h = alone in
        let (ds, read, k) = digits_of_cut never_empty x n i in
        let (rs, read_again, r) = digits_of_text (behind dot x) (rw h.second at right) in
        let fits = held_body (short f) (Zeros h.table h.zeros) x h.parts
        ∙ alone_fits h.table N h.is_exact h.sums x ds rs i.dotted read h.zeros read_again (omega (arith, sum, k, r, i.sizes)) ∙ ap in_row k in
        go (in_row n)
        ∙ sym (ap (λ q. judged_as q (holder f x)) (sym pair_is ∙ sym (pair_right (Some N) Padded b x n i right (length x - 1) refl) ∙ eq-eqb (length x - 1) N sum)
        ∙ ap (λ h. judged_as true (or_else (cond h (Some (short f)) None) (and_then (long f) (held_in x)))) fits
        ∙ ap (λ g. judged_as true (or_else (cond (in_row n) (Some (short f)) None) (and_then g (held_in x)))) h.no_long)
      where
        go : (r : Bool) → cond r (Ok (short f)) (Err Unheld) ≡ judged_as true (or_else (cond r (Some (short f)) None) None)
        go true = refl
        go false = refl
