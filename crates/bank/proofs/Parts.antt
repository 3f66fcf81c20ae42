-- The parts of a scheme with a partition table: refused by rule 18 or 19, or taken, in the numbers that stand at their code bits.
use Prim.Native.Nat.{ℕ, ◌+◌, ◌*◌, ◌/◌, ◌^◌, ◌≤◌, ◌<◌}
use mathlib.Core.Path.{◌≡◌, refl, sym, ap, ◌∙◌}
use mathlib.Core.List.{List, [], ◌∷◌}
use native.Mathlib.Omega.{arith}
use lib.Dec.{ltb, lit<}
use lib.ListN.{length, take, drop}
use lib.Seq.{drop-drop}
use borrow.Author.Tests.{lt-ltb, le-ltb}
use Rattle.numeral.specs.Numeral.{value, numeral, shortest, spread, gather}
use Rattle.numeral.proofs.Values.{value_nil, value_numeral_lt}
use Rattle.numeral.proofs.Shortest.{value_shortest}
use Rattle.rules.specs.Answers.{Answer, refused, taken, ◌>>=◌, ◌>>◌, demand, given}
use Rattle.rules.specs.declared.Table.{Table}
use Rattle.rules.specs.declared.Last.TheVariants.{Integer, String, Numeric}
use Rattle.rules.specs.declared.Body.{Body}
use Rattle.rules.specs.declared.Body.TheVariants.{Then, Zeros, E}
use Rattle.rules.specs.declared.Parts.TheVariants.{F}
use Rattle.rules.specs.Schemes.{Form, row_digits, asset_bits, cell, row_at, row_of, prefix_bits, prefix_digits}
use Rattle.rules.specs.Grammar.{laid}
use Rattle.rules.specs.Coding.{word_count, bank_size}
use Rattle.rules.specs.Conditions.{partition_in, row_in}
use Rattle.rules.specs.BankNumbers.{field, field_in, fields_in, string_in, numeric_in, code_in}
use Rattle.rules.proofs.Rows.{by_count_lem, row_fair}
use Rattle.rules.proofs.CodeReads.{take_inside}
use Rattle.rules.proofs.BankReads.{code_seen}
use Rattle.scheme.specs.Outlines.{Narrow}
use Rattle.fields.specs.BitReaders.{code_field}
use Rattle.bank.specs.Reading.{prefix_end, shape_of, groups_at}
use Rattle.bank.proofs.Sizes.{Roomy}
use Rattle.bank.proofs.Numbers.{reference_address, decimal_at, at_most_at, small_prefix}

-- the groups of a string that begins at code bit c
groups_seen : (b : List ℕ) (c n : ℕ) → n ≡ 7 * (n / 7) → c + n ≤ 16 * word_count b → gather 2 7 (n / 7) (take n (drop c (code_in b))) ≡ groups_at b c (n / 7)
groups_seen b c n e h = rw (take_inside c n (16 * word_count b) (drop 16 (spread 2 8 b)) h, drop-drop c 16 (spread 2 8 b), ← e)

pub no_bits : (b : List ℕ) (c : ℕ) → code_field b c 0 ≡ 0
no_bits b c = value_nil 2

-- a string behind three parts
at_last : (x y z : List ℕ) (p n : ℕ) (l : List ℕ) (a : Answer (List ℕ))
    → ((((a >>= λ cs. taken (field cs p n l)) >>= λ c. taken (c.symbols ∷ [])) >>= λ ps. taken (z ∷ ps)) >>= λ ps. taken (x ∷ y ∷ ps)) ≡ (a >>= λ cs. taken (x ∷ y ∷ z ∷ cs ∷ []))
at_last x y z p n l (refused m q) = refl
at_last x y z p n l (taken cs) = refl

-- The code bit of the reference.
abbrev pub start : List ℕ → ℕ
start b = prefix_end b

-- The reference of table t, and the code bit behind it.
abbrev pub reference : List ℕ → Table → ℕ
reference b t = code_field b (start b) (cell t (row_in b)).0

abbrev pub behind : List ℕ → Table → ℕ
behind b t = start b + (cell t (row_in b)).0

-- The address of what stands behind the reference.
abbrev pub last_address : List ℕ → Body → ℕ
last_address b body = reference_address b + (shape_of body (row_in b)).cell.bits

-- All parts, where the reference is the digits ds, and a string the characters or digits cs.
abbrev shown : List ℕ → Body → List ℕ → List ℕ → List (List ℕ)
shown b (Then t (Integer n)) ds cs = ds ∷ shortest 10 (code_field b (behind b t) n) ∷ []
shown b (Then t (String n)) ds cs = ds ∷ cs ∷ []
shown b (Then t (Numeric n k)) ds cs = ds ∷ cs ∷ []
shown b (Zeros t n) ds cs = ds ∷ []
shown b E ds cs = shortest 10 (code_field b (start b) (asset_bits (row_in b))) ∷ []

abbrev pub parts_of : List ℕ → Body → List ℕ → List ℕ → List (List ℕ)
parts_of b body ds cs = shortest 10 (code_field b 8 3) ∷ numeral 10 (prefix_digits (row_in b)) (code_field b 14 (prefix_bits (row_in b))) ∷ shown b body ds cs

-- What is read of all parts, once the string is read.
abbrev pub answered : List ℕ → Body → List ℕ → Answer (List ℕ) → Answer (List (List ℕ))
answered b body ds a = a >>= λ cs. taken (parts_of b body ds cs)

abbrev pub string_of : List ℕ → Body → Answer (List ℕ)
string_of b (Then t (Integer n)) = taken []
string_of b (Then t (String n)) = given (string_in (groups_at b (behind b t) (n / 7))) 19 (last_address b (Then t (String n)))
string_of b (Then t (Numeric n k)) = given (numeric_in k (shortest 10 (code_field b (behind b t) n))) 19 (last_address b (Then t (Numeric n k)))
string_of b (Zeros t n) = taken []
string_of b E = taken []

module _ (b : List ℕ) (long : bank_size (word_count b) ≤ length b) (row : partition_in b < 7) (small : code_field b 14 (prefix_bits (row_in b)) < 10 ^ prefix_digits (row_in b)) where
  -- the digits of the prefix pick the row
  picked : row_of (prefix_digits (row_in b)) ≡ row_in b
  picked = ap row_at (row_fair (partition_in b) row).picked

  module _ (t : Table) (inside : behind b t ≤ 16 * word_count b) where
    -- the reference is read as digits ds of its value, as many as the row has or at most so many
    abbrev ReadAs : List ℕ → Form → Type 0
    ReadAs ds f =
        (reference b t < 10 ^ (cell t (row_in b)).1 → value 10 ds ≡ reference b t)
        × (field_in (reference_address b) f (drop (start b) (code_in b)) ≡ (demand (ltb (reference b t) (10 ^ (cell t (row_in b)).1)) 18 (reference_address b) >> taken (record { symbols = ds; next = reference_address b + (cell t (row_in b)).0; rest = drop (behind b t) (code_in b) })))

    cell_at : (ds : List ℕ) × ReadAs ds (row_digits t (row_of (prefix_digits (row_in b))))
    cell_at =
        let v = reference b t in
        let w = (cell t (row_in b)).0 in
        let n = (cell t (row_in b)).1 in
        rw picked
        (by_count_lem (λ f. (ds : List ℕ) × ReadAs ds f) t w n (numeral 10 n v, (value_numeral_lt 10 n v, decimal_at b long (start b) w inside 18 (reference_address b) n)) (shortest 10 v, ((λ h. value_shortest 10 (lit< tt) v), at_most_at b long (start b) w inside (reference_address b) n)))

    cell_large : 10 ^ (cell t (row_in b)).1 ≤ reference b t → field_in (reference_address b) (row_digits t (row_of (prefix_digits (row_in b)))) (drop (start b) (code_in b)) ≡ refused 18 (reference_address b)
    cell_large h = cell_at.1.1 ∙ rw (le-ltb (reference b t) (10 ^ (cell t (row_in b)).1) h)

    cell_small : reference b t < 10 ^ (cell t (row_in b)).1
        → (ds : List ℕ) × (value 10 ds ≡ reference b t) × (field_in (reference_address b) (row_digits t (row_of (prefix_digits (row_in b)))) (drop (start b) (code_in b)) ≡ taken (record { symbols = ds; next = reference_address b + (cell t (row_in b)).0; rest = drop (behind b t) (code_in b) }))
    cell_small h = (cell_at.0, cell_at.1.0 h, cell_at.1.1 ∙ rw (lt-ltb (reference b t) (10 ^ (cell t (row_in b)).1) h))

  pub large_reference : (body : Body) → Roomy (word_count b) (row_in b) (shape_of body (row_in b))
      → 10 ^ (shape_of body (row_in b)).cell.digits ≤ code_field b (start b) (shape_of body (row_in b)).cell.bits → fields_in 0x28 (laid (F body)) (drop 8 (code_in b)) ≡ refused 18 (reference_address b)
  large_reference (Then t l) r h = small_prefix b long (Then t l) (omega arith) (omega arith) small ∙ rw (cell_large t (omega arith) h)
  large_reference (Zeros t n) r h = small_prefix b long (Zeros t n) (omega arith) (omega arith) small ∙ rw (cell_large t (omega arith) h)
  large_reference E r h = absurd (omega (arith, no_bits b (start b)))

  pub small_reference : (body : Body) → Roomy (word_count b) (row_in b) (shape_of body (row_in b)) → Narrow (F body)
      → code_field b (start b) (shape_of body (row_in b)).cell.bits < 10 ^ (shape_of body (row_in b)).cell.digits
      → (ds : List ℕ) × (value 10 ds ≡ code_field b (start b) (shape_of body (row_in b)).cell.bits) × (fields_in 0x28 (laid (F body)) (drop 8 (code_in b)) ≡ answered b body ds (string_of b body))
  small_reference (Then t (Integer n)) r w h =
      let (ds, v, e) = cell_small t (omega arith) h in
      (ds, v, small_prefix b long (Then t (Integer n)) (omega arith) (omega arith) small ∙ rw (e, ← code_seen b long (behind b t) n (omega arith)))
  small_reference (Then t (String n)) r w h =
      let (ds, v, e) = cell_small t (omega arith) h in (
        ds,
        v,
        small_prefix b long (Then t (String n)) (omega arith) (omega arith) small
            ∙ rw (e, groups_seen b (behind b t) n w.0 (omega arith)) (at_last _ _ _ _ n (drop (behind b t) (code_in b)) (string_of b (Then t (String n)))),
      )
  small_reference (Then t (Numeric n k)) r w h =
      let (ds, v, e) = cell_small t (omega arith) h in (
        ds,
        v,
        small_prefix b long (Then t (Numeric n k)) (omega arith) (omega arith) small
            ∙ rw (e, ← code_seen b long (behind b t) n (omega arith)) (at_last _ _ _ _ n (drop (behind b t) (code_in b)) (string_of b (Then t (Numeric n k)))),
      )
  small_reference (Zeros t n) r w h =
      let (ds, v, e) = cell_small t (omega arith) h in
      (ds, v, small_prefix b long (Zeros t n) (omega arith) (omega arith) small ∙ rw e)
  small_reference E r w h =
      ([], value_nil 10 ∙ sym (no_bits b (start b)), small_prefix b long E (omega arith) (omega arith) small ∙ rw (picked, ← code_seen b long (start b) (asset_bits (row_in b)) (omega arith)))
