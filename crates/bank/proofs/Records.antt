-- The record of a tag whose parts are read, in the numbers that stand at their code bits.
use Prim.Native.Nat.{ℕ, ◌+◌, ◌-◌, ◌/◌, ◌^◌, ◌≤◌, ◌<◌}
use mathlib.Core.Path.{◌≡◌, refl, sym, ap, ◌∙◌}
use mathlib.Core.List.{List, [], ◌++◌, append_assoc}
use Rattle.std.specs.Prelude.{Option, None, Some, Result, Ok, option_map}
use native.Mathlib.Nat.{add-zero}
use native.Mathlib.Omega.{arith}
use lib.Dec.{lit<}
use lib.ListN.{length, take, replicate, length-append, length-replicate, replicate-append-replicate}
use lib.Seq.{take-take, take_at}
use Rattle.numeral.specs.Numeral.{value, shortest}
use Rattle.numeral.proofs.Values.{length_numeral, value_numeral_lt}
use Rattle.numeral.proofs.Shortest.{value_shortest}
use Rattle.rules.specs.Answers.{Answer, taken, ◌>>=◌, given}
use Rattle.rules.specs.declared.Scheme.{Scheme}
use Rattle.rules.specs.declared.ControlFields.{ControlFields}
use Rattle.rules.specs.declared.Last.TheVariants.{Integer, String, Numeric}
use Rattle.rules.specs.declared.Body.{Body}
use Rattle.rules.specs.declared.Body.TheVariants.{Then, Zeros, E}
use Rattle.rules.specs.declared.Parts.{Parts}
use Rattle.rules.specs.declared.Parts.TheVariants.{F}
use Rattle.rules.specs.Schemes.{about, cell, prefix_bits, prefix_digits}
use Rattle.rules.specs.Conditions.{row_in}
use Rattle.rules.specs.BankNumbers.{string_in, numeric_in, control_fields}
use Rattle.alphabet.proofs.Kept.{first_characters}
use Rattle.rules.proofs.Groups.{StringIs, string_decides}
use Rattle.scheme.specs.declared.record.Record.{Record}
use Rattle.scheme.specs.declared.refusal.Refusal.{Refusal}
use Rattle.scheme.specs.Refusals.{refusal}
use Rattle.scheme.specs.Records.{filter_of, prefix_of, digits_of, reference_of, serial_of, characters_of, count_of as countIn, padded, record_of, reading_of}
use Rattle.fields.specs.BitReaders.{code_field}
use Rattle.bank.specs.declared.reading.Ending.{Ending}
use Rattle.bank.specs.Reading.{shape_of, groups_at, ending_at, string_ending, numeric_ending}
use Rattle.bank.proofs.Groups.{length_groups}
use Rattle.bank.proofs.Parts.{start, parts_of, answered, last_address, string_of, no_bits}

-- the record of parts p
pub record_by : (s : Scheme) (c : ControlFields) (p : Parts) (ps : List (List ℕ)) → (about s).parts ≡ p
    → record_of (record { scheme = s; control = c; parts = ps }) ≡ record { scheme = s; control = c; filter = filter_of p ps; prefix = prefix_of p ps; digits = digits_of p ps; reference = reference_of p ps; serial = serial_of p ps; characters = padded (characters_of p ps); count = countIn p ps }
unfolding record_of
record_by s c p ps e = rw e

-- the groups of a string that is taken are its characters and zeros
padded_groups : (gs cs : List ℕ) (k : ℕ) → length gs ≡ k → k ≤ 20 → string_in gs ≡ Some cs → padded cs ≡ gs ++ replicate (20 - k) 0
padded_groups gs cs k n h e = let is : StringIs gs cs = (rw e at (string_decides gs)).1 in go is.0 is.1
  where
    go : (z : ℕ) → gs ≡ cs ++ replicate z 0 → padded cs ≡ gs ++ replicate (20 - k) 0
    go z q =
        let size : length cs + z ≡ k = omega (arith, simp (length-append, length-replicate) at (ap length q)) in
        let zeros : 20 - length cs ≡ z + (20 - k) = omega arith in
        sym (take-take 20 20 (cs ++ replicate 20 0) (omega arith)) ∙ first_characters cs 20 (omega arith) (omega arith) ∙ rw (zeros, q, append_assoc, replicate-append-replicate)

-- a string that is counted in the groups is them, and has so many characters
pub counted : (b : List ℕ) (c k : ℕ) → k ≤ 20 → (gs : List ℕ) → gs ≡ groups_at b c k ++ replicate (20 - k) 0 → (n : ℕ) → Some n ≡ option_map length (string_in (take k gs))
    → Some (record { serial = 0; characters = gs; count = n }) ≡ option_map string_ending (string_in (groups_at b c k))
counted b c k h gs e n some = rw e (go (string_in (groups_at b c k)) refl (some ∙ rw (e, take_at (groups_at b c k) (replicate (20 - k) 0) k (length_groups b c k))))
  where
    go : (s : Option (List ℕ)) → string_in (groups_at b c k) ≡ s → Some n ≡ option_map length s → Some (record { serial = 0; characters = groups_at b c k ++ replicate (20 - k) 0; count = n }) ≡ option_map string_ending s
    go None s q = cc
    go (Some cs) s q = let size : n ≡ length cs = cc in rw (← padded_groups (groups_at b c k) cs k (length_groups b c k) h s, size)

-- The record of the parts behind a prefix that is not too large, whose reference is the digits ds.
module _ (b : List ℕ) (s : Scheme) (small : code_field b 14 (prefix_bits (row_in b)) < 10 ^ prefix_digits (row_in b)) where
  abbrev pub made : ℕ → Ending → Record
  made v e =
      record {
        scheme = s;
        control = control_fields b;
        filter = code_field b 8 3;
        prefix = code_field b 14 (prefix_bits (row_in b));
        digits = prefix_digits (row_in b);
        reference = v;
        serial = e.serial;
        characters = e.characters;
        count = e.count;
      }

  -- the filter and the prefix are the same in each
  front : (body : Body) (ds cs : List ℕ) → (about s).parts ≡ F body
      → let ps = parts_of b body ds cs in record_of (record { scheme = s; control = control_fields b; parts = ps }) ≡ made (reference_of (F body) ps) (record { serial = serial_of (F body) ps; characters = padded (characters_of (F body) ps); count = countIn (F body) ps })
  front body ds cs e = rw (record_by s (control_fields b) (F body) (parts_of b body ds cs) e, value_shortest 10 (lit< tt), value_numeral_lt 10 _ _ small, length_numeral)

  -- what is read, where the string is a
  abbrev pub read_with : Body → List ℕ → Answer (List ℕ) → Result Record Refusal
  read_with body ds a = reading_of (answered b body ds a >>= λ ps. taken (record { scheme = s; control = control_fields b; parts = ps }))

  -- and by the last part, whose address is p
  abbrev pub read_to : ℕ → ℕ → Option Ending → Result Record Refusal
  read_to v p None = refusal 19 p
  read_to v p (Some e) = Ok (made v e)

  pub record_made : (body : Body) → (about s).parts ≡ F body → (ds : List ℕ) → value 10 ds ≡ code_field b (start b) (shape_of body (row_in b)).cell.bits
      → let h = shape_of body (row_in b) in read_with body ds (string_of b body) ≡ read_to (code_field b (start b) h.cell.bits) (last_address b body) (ending_at b (start b + h.cell.bits) h.last)
  record_made (Then t (Integer n)) e ds v = rw (front (Then t (Integer n)) ds [] e, v, value_shortest 10 (lit< tt))
  record_made (Then t (String n)) e ds v = go (string_in (groups_at b (start b + (cell t (row_in b)).0) (n / 7)))
    where
      go : (a : Option (List ℕ)) → let p = last_address b (Then t (String n)) in read_with (Then t (String n)) ds (given a 19 p) ≡ read_to (code_field b (start b) (cell t (row_in b)).0) p (option_map string_ending a)
      go None = refl
      go (Some cs) = rw (front (Then t (String n)) ds cs e, v)
  record_made (Then t (Numeric n k)) e ds v = go (numeric_in k (shortest 10 (code_field b (start b + (cell t (row_in b)).0) n)))
    where
      go : (a : Option (List ℕ)) → let p = last_address b (Then t (Numeric n k)) in read_with (Then t (Numeric n k)) ds (given a 19 p) ≡ read_to (code_field b (start b) (cell t (row_in b)).0) p (option_map numeric_ending a)
      go None = refl
      go (Some cs) = rw (front (Then t (Numeric n k)) ds cs e, v)
  record_made (Zeros t n) e ds v = rw (front (Zeros t n) ds [] e, v, no_bits)
  record_made E e ds v = rw (front E ds [] e, value_shortest 10 (lit< tt), no_bits, add-zero (start b))
