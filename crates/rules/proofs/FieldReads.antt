-- The bits of a part that is read: refused by the rules of its form, or right.
use Prim.Native.Nat.{ℕ, ◌+◌, ◌-◌, ◌*◌, ◌/◌, ◌^◌, ◌≤◌, ◌<◌}
use mathlib.Core.Path.{◌≡◌, refl, sym, ◌∙◌, ap}
use mathlib.Core.Logic.{inl, inr}
use mathlib.Core.List.{List, [], ◌∷◌, ◌++◌, append_assoc}
use mathlib.Core.Bool.{not}
use native.Mathlib.Omega.{arith}
use lib.Dec.{T, leb, eqb, le→leb, lt→ltb, eqb→eq, eqb_refl, lit<}
use lib.ListN.{length, get_or, take, drop, length-append, length-replicate, length-drop, take-append-drop}
use lib.Seq.{length-take-le}
use Rattle.numeral.specs.Numeral.{value, Digits, spread, gather, shortest}
use Rattle.numeral.proofs.Values.{digits_take, digits_drop}
use Rattle.numeral.proofs.Shortest.{value_shortest, length_shortest, size_le}
use Rattle.numeral.proofs.Spreads.{length_gather, spread_gather, gather_at}
use Rattle.rules.specs.Answers.{demand, given}
use Rattle.rules.specs.Schemes.{Form, company, digits, integer, string, at_most, numeric, row_at, partition, prefix_bits, prefix_digits}
use Rattle.rules.specs.Grammar.{plain_number, Fit}
use Rattle.rules.specs.Coding.{part_bits}
use Rattle.rules.specs.BankNumbers.{Field, field, field_in, decimal, string_in, numeric_in}
use Rattle.rules.specs.Conditions.{Rule, rule, WrongGroups, OneThen}
use Rattle.rules.proofs.Tests.{and, apart, not_not}
use Rattle.rules.proofs.Answers.{Reads, settled_demand, settled_given, settled_as, check, step, reads_weaken}
use Rattle.rules.proofs.Decimals.{digits_all}
use Rattle.rules.proofs.Rows.{row_fair}
use Rattle.rules.proofs.Numbers.{front, few_digits_reads, DecimalIs, decimal_reads, whole_digits, whole_is}
use Rattle.rules.proofs.Groups.{StringIs, string_decides}
use Rattle.rules.proofs.Numerics.{NumericIs, numeric_decides}
use Rattle.rules.proofs.Fields.{width, Roomy, filled_is}

-- what is read of l, which begins at address a: a part that fits, its bits in front of the rest, and the address behind them
abbrev pub FieldIs : ℕ → Form → List ℕ → Field → Type 0
FieldIs a f l c = Fit f c.symbols × (l ≡ part_bits f c.symbols ++ c.rest) × (c.next ≡ a + width f c.symbols)

-- the groups of a string
abbrev pub group_of : List ℕ → ℕ → ℕ
group_of l i = value 2 (take 7 (drop (7 * i) l))

abbrev pub field_rules : ℕ → Form → List ℕ → List Rule
field_rules a company l =
    let r = row_at (value 2 (take 3 l)) in
    rule 16 (value 2 (take 3 l) ≡ 7) (◌≡ a) ∷ rule 17 (10 ^ prefix_digits r ≤ value 2 (take (prefix_bits r) (drop 3 l))) (◌≡ a + 3) ∷ []
field_rules a (digits b n) l = rule 18 (10 ^ n ≤ value 2 (take b l)) (◌≡ a) ∷ []
field_rules a (integer b) l = []
field_rules a (string b) l = rule 19 (WrongGroups (b / 7) (group_of (take b l))) (◌≡ a) ∷ []
field_rules a (at_most b n) l = rule 18 (10 ^ n ≤ value 2 (take b l)) (◌≡ a) ∷ []
field_rules a (numeric b n) l = rule 19 (¬ (OneThen n (value 2 (take b l)))) (◌≡ a) ∷ []

-- the bits that must be there
abbrev pub widest : Form → ℕ
widest company = 43
widest (digits b n) = b
widest (integer b) = b
widest (string b) = b
widest (at_most b n) = b
widest (numeric b n) = b

-- groups that agree below their number are wrong alike
pub wrong_alike : (k : ℕ) (g h : ℕ → ℕ) → 0 < k → ((i : ℕ) → i < k → g i ≡ h i) → WrongGroups k g → WrongGroups k h
wrong_alike k g h z e (inl w) = inl (sym (e 0 z) ∙ w)
wrong_alike k g h z e (inr (inl w)) =
    inr (inl (w.0, w.1, w.2, w.3, sym (e w.0 (omega arith)) ∙ w.4, λ q. w.5 (e w.1 w.3 ∙ q)))
wrong_alike k g h z e (inr (inr w)) = inr (inr (w.0, w.1, (λ q. w.2 (e w.0 w.1 ∙ q)), rw (e w.0 w.1) at w.3))

string_reads : (a b : ℕ) (l : List ℕ) → Roomy (string b) → Digits 2 l → b ≤ length l → Reads (field_rules a (string b) l) (FieldIs a (string b) l) (field_in a (string b) l)
string_reads a b l r d w =
    step [] (FieldIs a (string b) l) 19 (WrongGroups k (group_of x)) (◌≡ a) (StringIs gs) (given (string_in gs) 19 a) _ (lit< tt)
    (settled_as 19 _ (WrongGroups k (group_of x)) (◌≡ a) (StringIs gs) (given (string_in gs) 19 a) (forth, back) (settled_given 19 a _ (StringIs gs) (string_in gs) (string_decides gs))) λ cs i. (tt, right cs i)
  where
    x : List ℕ
    x = take b l

    k : ℕ
    k = b / 7

    gs : List ℕ
    gs = gather 2 7 k x

    agree : (i : ℕ) → i < k → get_or gs i 0 ≡ group_of x i
    agree i h = gather_at 2 7 k i x (lit< tt) (digits_take 2 b l d) (length-take-le b l w ∙ r.0) h

    forth : WrongGroups (length gs) (λ i. get_or gs i 0) → WrongGroups k (group_of x)
    forth h = wrong_alike k (λ i. get_or gs i 0) (group_of x) r.1 agree (rw (length_gather 2 7 k x) at h)

    back : WrongGroups k (group_of x) → WrongGroups (length gs) (λ i. get_or gs i 0)
    back h = rw (length_gather 2 7 k x) (wrong_alike k (group_of x) (λ i. get_or gs i 0) r.1 (λ i h. sym (agree i h)) h)

    right : (cs : List ℕ) → StringIs gs cs → FieldIs a (string b) l (field cs a b l)
    right cs (z, e, s, h) =
        let n : length cs + z ≡ b / 7 = omega (arith, simp (length-append, length-replicate, length_gather) at (ap length e)) in
        let m : b / 7 - length cs ≡ z = omega arith in
        let q : spread 2 7 (gather 2 7 (b / 7) (take b l)) ≡ take b l = spread_gather 2 7 (b / 7) (take b l) (lit< tt) (digits_take 2 b l d) (length-take-le b l w ∙ r.0) in (
          record { symbols = h; shape = s; size = le→leb (length cs) (b / 7) (omega arith) },
          rw (filled_is b cs r.0 (omega arith), m, ← e, q) (sym (take-append-drop b l)),
          refl,
        )

pub field_reads : (a : ℕ) (f : Form) (l : List ℕ) → Roomy f → Digits 2 l → widest f ≤ length l → Reads (field_rules a f l) (FieldIs a f l) (field_in a f l)
field_reads a (string b) l r d w = string_reads a b l r d w
field_reads a (integer b) l r d w =
    let v = value 2 (take b l) in
    let (e, u) = front b l d w in
    (tt, (record { symbols = digits_all (shortest 10 v) (whole_digits v); shape = whole_is v; size = rw (value_shortest 10 (lit< tt)) (lt→ltb v (2 ^ b) u) }, rw (value_shortest 10 (lit< tt), e) (sym (take-append-drop b l)), refl))
field_reads a (digits b n) l r d w =
    reads_weaken (rule 18 (10 ^ n ≤ value 2 (take b l)) (◌≡ a) ∷ []) (DecimalIs a b n l) (FieldIs a (digits b n) l) (decimal 18 a b n l) (decimal_reads 18 a b n l (lit< tt) d w) λ c i.
    (record { symbols = i.0; shape = rw i.1 (eqb_refl n); size = tt }, i.2, i.3)
field_reads a (at_most b n) l r d w =
    let v = value 2 (take b l) in
    let p = shortest 10 v in
    few_digits_reads 18 a n v (FieldIs a (at_most b n) l) (field p a b l) (lit< tt) λ s.
    let m : length p ≤ n = omega (arith, length_shortest 10 (lit< tt) v, size_le 10 (lit< tt) v n r.1 s) in
    (record { symbols = digits_all p (whole_digits v); shape = and (plain_number p) (leb (length p) n) (whole_is v) (le→leb (length p) n m); size = tt }, rw (value_shortest 10 (lit< tt), (front b l d w).0) (sym (take-append-drop b l)), refl)
field_reads a (numeric b n) l r d w =
    let v = value 2 (take b l) in
    let o = numeric_in n (shortest 10 v) in
    step [] (FieldIs a (numeric b n) l) 19 (¬ (OneThen n v)) (◌≡ a) (NumericIs n v) (given o 19 a) _ (lit< tt) (settled_given 19 a _ (NumericIs n v) o (numeric_decides n v)) λ ds i.
    (tt, (record { symbols = digits_all ds i.0; shape = i.1; size = i.2 }, rw (← i.3, (front b l d w).0) (sym (take-append-drop b l)), refl))
field_reads a company l r d w =
    check (rule 17 (10 ^ prefix_digits (row_at P) ≤ value 2 (take (prefix_bits (row_at P)) (drop 3 l))) (◌≡ a + 3) ∷ []) (FieldIs a company l) 16 (P ≡ 7) (◌≡ a) (T (not (eqb P 7))) (demand (not (eqb P 7)) 16 a) _ (lit< tt)
    (settled_demand 16 a (P ≡ 7) (not (eqb P 7)) (λ h. eqb→eq P 7 (not_not (eqb P 7) h)) (apart P 7)) λ t.
    row (omega (arith, apart P 7 t, (front 3 l d (omega arith)).1))
  where
    P : ℕ
    P = value 2 (take 3 l)

    row : P < 7
        → Reads (rule 17 (10 ^ prefix_digits (row_at P) ≤ value 2 (take (prefix_bits (row_at P)) (drop 3 l))) (◌≡ a + 3) ∷ []) (FieldIs a company l) (decimal 17 (a + 3) (prefix_bits (row_at P)) (prefix_digits (row_at P)) (drop 3 l))
    row u =
        let f = row_fair (value 2 (take 3 l)) u in
        let b = prefix_bits (row_at (value 2 (take 3 l))) in
        let n = prefix_digits (row_at (value 2 (take 3 l))) in
        reads_weaken (rule 17 (10 ^ n ≤ value 2 (take b (drop 3 l))) (◌≡ a + 3) ∷ []) (DecimalIs (a + 3) b n (drop 3 l)) (FieldIs a company l) (decimal 17 (a + 3) b n (drop 3 l))
        (decimal_reads 17 (a + 3) b n (drop 3 l) (lit< tt) (digits_drop 2 3 l d) (rw length-drop (omega arith))) λ c i.
        let p : partition (length c.symbols) ≡ value 2 (take 3 l) = ap partition i.1 ∙ f.picked in (
          record { symbols = i.0; shape = and (leb 6 (length c.symbols)) (leb (length c.symbols) 12) (le→leb 6 (length c.symbols) (omega arith)) (le→leb (length c.symbols) 12 (omega arith)); size = tt },
          rw (p, append_assoc, ← i.2, (front 3 l d (omega arith)).0) (sym (take-append-drop 3 l)),
          rw p (omega (arith, i.3)),
        )
