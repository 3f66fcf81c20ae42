-- The bits of a part in each form: what is read is refused by the form's rules or is right, and what is right is read.
use Prim.Native.Nat.{ℕ, zero, suc, ◌+◌, ◌-◌, ◌*◌, ◌/◌, ◌^◌, ◌≤◌, ◌<◌}
use mathlib.Core.Path.{◌≡◌, refl, sym, ◌∙◌, ap}
use mathlib.Core.List.{List, [], ◌∷◌, ◌++◌, append_assoc}
use mathlib.Core.Bool.{Bool, ◌&&◌, not}
use native.Mathlib.Omega.{arith}
use native.Mathlib.Nat.{pow-le-pow_right}
use lib.Dec.{T, leb, ltb, eqb, leb→le, ltb→lt, lt→ltb, eqb→eq, lit<, not_T}
use lib.ListN.{length, replicate, length-append, length-replicate}
use lib.Seq.{take_at, drop_at}
use Rattle.numeral.specs.Numeral.{value, numeral, Digits, spread}
use Rattle.numeral.proofs.Values.{length_numeral, value_lt, digits_numeral, digits_append, digits_zeros}
use Rattle.numeral.proofs.Spreads.{length_spread, digits_spread, spread_append, gather_spread}
use Rattle.rules.specs.Answers.{taken}
use Rattle.rules.specs.Bytes.{all}
use Rattle.rules.specs.declared.Table.{Table}
use Rattle.rules.specs.Schemes.{Form, company, digits, integer, string, at_most, numeric, counted, row_of, partition, prefix_bits, prefix_digits}
use Rattle.rules.specs.Characters.{table_a1, character}
use Rattle.rules.specs.Grammar.{plain_number, Fit}
use Rattle.rules.specs.Coding.{binary, filled, part_bits}
use Rattle.rules.specs.BankNumbers.{field_in}
use Rattle.rules.proofs.Tests.{is_true, both, and, all_among}
use Rattle.rules.proofs.Decimals.{all_digits}
use Rattle.rules.proofs.Rows.{by_count_lem, row_fair, row_picked}
use Rattle.rules.proofs.Numbers.{read, decimal_of, whole_of}
use Rattle.rules.proofs.Groups.{nonzero, string_of_lem}
use Rattle.rules.proofs.Numerics.{numeric_fits, numeric_of_lem}

-- The bits that a part takes; that a form holds what it should.
abbrev pub width : Form → List ℕ → ℕ
width company ds = 3 + prefix_bits (row_of (length ds))
width (digits b n) ds = b
width (integer b) ds = b
width (string b) cs = b
width (at_most b n) ds = b
width (numeric b n) ds = b

-- a reference takes the bits of its cell
pub row_width : (t : Table) (b n : ℕ) (p : List ℕ) → width (counted t b n) p ≡ b
row_width t b n p = by_count_lem (λ f. width f p ≡ b) t b n refl refl

abbrev pub Roomy : Form → Type 0
Roomy company = Unit
Roomy (digits b n) = 10 ^ n ≤ 2 ^ b
Roomy (integer b) = Unit
Roomy (string b) = (b ≡ 7 * (b / 7)) × (0 < b / 7)
Roomy (at_most b n) = (10 ^ n ≤ 2 ^ b) × (0 < n)
Roomy (numeric b n) = 2 * 10 ^ n ≤ 2 ^ b

-- Characters: 7 bits are enough, and none is 0.
abbrev seven_bits : ℕ → Bool
seven_bits c = nonzero c && ltb c 128

all_seven : T (all seven_bits table_a1)
unfolding table_a1
all_seven = tt

pub characters_are : (cs : List ℕ) → T (all character cs) → T (all nonzero cs) × Digits (2 ^ 7) cs
characters_are [] h = (tt, tt)
characters_are (c ∷ cs) h =
    let (a, b) = both (character c) (all character cs) h in
    let (x, y) = both (nonzero c) (ltb c 128) (all_among seven_bits table_a1 c all_seven a) in
    let (xs, ys) = characters_are cs b in
    (and (nonzero c) (all nonzero cs) x xs, (ltb→lt c 128 y, ys))

spread_zeros : (k : ℕ) → spread 2 7 (replicate k 0) ≡ replicate (7 * k) 0
unfolding spread numeral
spread_zeros zero = refl
spread_zeros (suc k) =
    let e : 7 * suc k ≡ suc (suc (suc (suc (suc (suc (suc (7 * k))))))) = omega arith in
    rw (e, spread_zeros k)

-- a string's bits are the groups of its characters and of zeros
pub filled_is : (b : ℕ) (cs : List ℕ) → b ≡ 7 * (b / 7) → length cs ≤ b / 7 → filled b (spread 2 7 cs) ≡ spread 2 7 (cs ++ replicate (b / 7 - length cs) 0)
filled_is b cs e r =
    let n : b - 7 * length cs ≡ 7 * (b / 7 - length cs) = omega arith in
    rw (spread_append, spread_zeros, length_spread, n)

pub part_length : (f : Form) (p : List ℕ) → Roomy f → Fit f p → length (part_bits f p) ≡ width f p
part_length company ds r h = rw (length-append, length_numeral, length_numeral)
part_length (digits b n) ds r h = length_numeral 2 b (value 10 ds)
part_length (integer b) ds r h = length_numeral 2 b (value 10 ds)
part_length (string b) cs r h =
    let s = leb→le (length cs) (b / 7) h.size in
    simp (length-append, length-replicate, length_spread) (omega (arith, r))
part_length (at_most b n) ds r h = length_numeral 2 b (value 10 ds)
part_length (numeric b n) ds r h = length_numeral 2 b _

pub part_bits_lem : (f : Form) (p : List ℕ) → Digits 2 (part_bits f p)
part_bits_lem company ds =
    let n = length ds in
    digits_append 2 (binary 3 (partition n)) (binary (prefix_bits (row_of n)) (value 10 ds)) (digits_numeral 2 3 (partition n) (lit< tt)) (digits_numeral 2 (prefix_bits (row_of n)) (value 10 ds) (lit< tt))
part_bits_lem (digits b n) ds = digits_numeral 2 b (value 10 ds) (lit< tt)
part_bits_lem (integer b) ds = digits_numeral 2 b (value 10 ds) (lit< tt)
part_bits_lem (string b) cs =
    digits_append 2 (spread 2 7 cs) (replicate (b - length (spread 2 7 cs)) 0) (digits_spread 2 7 cs (lit< tt)) (digits_zeros 2 (b - length (spread 2 7 cs)) (lit< tt))
part_bits_lem (at_most b n) ds = digits_numeral 2 b (value 10 ds) (lit< tt)
part_bits_lem (numeric b n) ds = digits_numeral 2 b _ (lit< tt)

-- What is right is read.
pub field_of : (a : ℕ) (f : Form) (p z : List ℕ) → Roomy f → Fit f p → field_in a f (part_bits f p ++ z) ≡ taken (record { symbols = p; next = a + width f p; rest = z })
field_of a (digits b n) ds z r h = decimal_of 18 a b n ds z (all_digits ds h.symbols) (eqb→eq (length ds) n h.shape) r
field_of a (integer b) ds z r h =
    let v = value 10 ds in
    let (u, d) = read b v z (ltb→lt v (2 ^ b) h.size) in
    rw (u, d, whole_of ds (all_digits ds h.symbols) h.shape)
field_of a (at_most b n) ds z r h =
    let v = value 10 ds in
    let e = all_digits ds h.symbols in
    let (p, l) = both (plain_number ds) (leb (length ds) n) h.shape in
    let m = leb→le (length ds) n l in
    let k : 10 ^ length ds ≤ 10 ^ n = pow-le-pow_right (lit< tt) m in
    let s : v < 10 ^ n = omega (arith, value_lt 10 ds e) in
    let (u, d) = read b v z (omega (arith, r.0)) in
    rw (u, d, is_true (ltb v (10 ^ n)) (lt→ltb v (10 ^ n) s), whole_of ds e p)
field_of a (numeric b n) ds z r h =
    let e = all_digits ds h.symbols in
    let (u, d) = read b (value 10 (1 ∷ ds)) z (numeric_fits b n ds e (leb→le (length ds) n h.size) r) in
    rw (u, d, numeric_of_lem n ds e h.shape h.size)
field_of a company ds z r h =
    let n = length ds in
    let (x, y) = both (leb 6 n) (leb n 12) h.shape in
    let (l, e) = row_picked n (leb→le 6 n x) (leb→le n 12 y) in
    let P = partition n in
    let b = prefix_bits (row_of n) in
    let t = binary b (value 10 ds) ++ z in
    let (u, d) = read 3 P t (omega arith) in
    let q : a + (3 + b) ≡ a + 3 + b = omega arith in
    rw (append_assoc (binary 3 P) (binary b (value 10 ds)) z, u, d, is_true (not (eqb P 7)) (not_T (eqb P 7) λ q. omega (arith, eqb→eq P 7 q)), q)
    (decimal_of 17 (a + 3) b (prefix_digits (row_of n)) ds z (all_digits ds h.symbols) (sym e) (row_fair P l).roomy)
field_of a (string b) cs z r h =
    let (x, y) = characters_are cs h.symbols in
    let s = leb→le (length cs) (b / 7) h.size in
    let k = b / 7 - length cs in
    let gs = cs ++ replicate k 0 in
    let n : length gs ≡ b / 7 = rw (length-append, length-replicate) (omega arith) in
    let w : length (spread 2 7 gs) ≡ b = length_spread 2 7 gs ∙ ap (7 *◌) n ∙ sym r.0 in
    let d = digits_append 128 cs (replicate k 0) y (digits_zeros 128 k (lit< tt)) in
    rw (filled_is b cs r.0 s, take_at (spread 2 7 gs) z b w, drop_at (spread 2 7 gs) z b w, gather_spread 2 7 (b / 7) gs d n, string_of_lem cs k x h.shape h.symbols)
