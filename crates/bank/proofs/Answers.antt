-- What a bank reads as, once its scheme is known: refused by one of the rules 16 to 19, or the record of its tag.
use Prim.Native.Nat.{ℕ, ◌+◌, ◌*◌, ◌^◌, ◌≤◌, ◌<◌}
use mathlib.Core.Path.{◌≡◌, sym, ap, ◌∙◌}
use mathlib.Core.List.{List}
use native.Mathlib.Omega.{arith}
use lib.Dec.{lit<}
use lib.ListN.{length, drop, replicate}
use lib.Seq.{drop-drop}
use Rattle.numeral.specs.Numeral.{value}
use Rattle.numeral.proofs.Shortest.{value_shortest}
use Rattle.rules.specs.Answers.{Answer, refused, taken, ◌>>=◌}
use Rattle.rules.specs.declared.Scheme.{Scheme}
use Rattle.rules.specs.declared.Last.{Last}
use Rattle.rules.specs.declared.Last.TheVariants.{Integer, String, Numeric}
use Rattle.rules.specs.declared.Body.{Body}
use Rattle.rules.specs.declared.Parts.{Parts}
use Rattle.rules.specs.declared.Parts.TheVariants.{F, Integers}
use Rattle.rules.specs.Schemes.{row_at, words, prefix_bits, prefix_digits}
use Rattle.rules.specs.Grammar.{laid, Tag}
use Rattle.rules.specs.Coding.{word_count, bank_size}
use Rattle.rules.specs.Conditions.{partition_in, row_in}
use Rattle.rules.specs.BankNumbers.{control_in, fields_in, code_in, control_fields, tag_of_bank}
use Rattle.rules.proofs.Codes as Codes
use Rattle.rules.proofs.BankReads.{Clean, clean_of, code_seen}
use Rattle.std.specs.Prelude.{Option, None, Ok, Err, ok_or}
use Rattle.scheme.specs.declared.refusal.Refusal.{Refusal}
use Rattle.scheme.specs.Refusals.{rule_of, by, in_code}
use Rattle.scheme.specs.Outlines.{Narrow}
use Rattle.scheme.specs.Records.{reading_of}
use Rattle.scheme.proofs.Widths.{parts_narrow}
use Rattle.fields.specs.BitReaders.{LiesInCode, code_field}
use Rattle.bank.specs.Reading.{Coded, shape_of, LastLies, ending_at}
use Rattle.bank.proofs.Sizes.{width, Readable, sizes, Roomy, roomy, roomier}
use Rattle.bank.proofs.Stages.{coded_tag}
use Rattle.bank.proofs.Numbers.{reference_address}
use Rattle.bank.proofs.Numbers as Numbers
use Rattle.bank.proofs.Parts.{start, answered, last_address, string_of, small_reference}
use Rattle.bank.proofs.Parts as Parts'
use Rattle.bank.proofs.Records.{record_by, read_to, record_made}

-- a refusal by rule n at p is the code's, of an answer that is refused so
pub refuses : {x : Refusal} {n p q : ℕ} {a : Answer Tag} → x ≡ by (rule_of n) p → p ≡ q → a ≡ refused n q → Err x ≡ reading_of a
refuses {n = n} e here h = ap Err (e ∙ ap (by (rule_of n)) here) ∙ sym (ap reading_of h)

-- what is missing is refused
pub missing : {A : Type 0} {o : Option A} {x : Refusal} (e : Refusal) → Err e ≡ ok_or o x → o ≡ None → e ≡ x
missing {x = x} e is none = let z = is ∙ ap (λ o. ok_or o x) none in cc

-- a control word that is refused
early : (a : Answer ℕ) (f : ℕ → Answer Tag) (x : Refusal) → Err x ≡ in_code a → Err x ≡ reading_of (a >>= f)
early (refused n p) f x e = cc
early (taken W) f x e = cc

pub refused_early : (b : List ℕ) (x : Refusal) → Err x ≡ in_code (control_in b) → Err x ≡ reading_of (tag_of_bank b)
unfolding tag_of_bank
refused_early b x = early (control_in b) _ x

module _ (b : List ℕ) (s : Scheme) (p : Parts) (c : Coded b s p) where
  clean : Clean b (word_count b)
  clean = clean_of b (word_count b) c.clean

  pub long : bank_size (word_count b) ≤ length b
  long = clean.long

  -- the words are few, and a field in them can be read
  few_words : words s < 32
  few_words = (Codes.sizes s).few_words

  bytes : bank_size (words s) ≤ length b
  bytes = omega (arith, c.enough, long)

  pub lies : (at width : ℕ) → width ≤ 64 → at + width ≤ 16 * words s → LiesInCode at width (length b)
  lies at width n h = record { narrow = n; first = omega arith; small = omega (arith, few_words); inside = omega (arith, bytes) }

  pub last_lies : (l : Last) → Readable l → (at : ℕ) → at + width l ≤ 16 * words s → LastLies at l (length b)
  last_lies (Integer n) r at h = lies at n r h
  last_lies (String n) r at h = record { most = r; small = omega (arith, few_words); inside = omega (arith, bytes) }
  last_lies (Numeric n k) r at h = (lies at n r.0 h, r.1)

  parts_tag : tag_of_bank b ≡ (fields_in 0x28 (laid p) (drop 8 (code_in b)) >>= λ ps. taken (record { scheme = s; control = control_fields b; parts = ps }))
  parts_tag = coded_tag b s p c ∙ rw c.parts

-- A partition table.
module _ (b : List ℕ) (s : Scheme) (body : Body) (c : Coded b s (F body)) where
  -- the room, in the bank's own word count
  room : (P : ℕ) → P < 7 → Roomy (word_count b) (row_at P) (shape_of body (row_at P))
  room P h = roomier c.enough (roomy s body c.parts P h)

  pub no_row : partition_in b ≡ 7 → tag_of_bank b ≡ refused 16 0x2B
  no_row e = parts_tag b s (F body) c ∙ rw (Numbers.no_row b (long b s (F body) c) body (omega (arith, (clean b s (F body) c).some_words)) e)

  module _ (row : partition_in b < 7) where
    pub large_prefix : 10 ^ prefix_digits (row_in b) ≤ code_field b 14 (prefix_bits (row_in b)) → tag_of_bank b ≡ refused 17 0x2E
    large_prefix h = parts_tag b s (F body) c ∙ rw (Numbers.large_prefix b (long b s (F body) c) body (omega (arith, room (partition_in b) row)) (omega arith) h)

    module _ (small : code_field b 14 (prefix_bits (row_in b)) < 10 ^ prefix_digits (row_in b)) where
      pub large_reference : 10 ^ (shape_of body (row_in b)).cell.digits ≤ code_field b (start b) (shape_of body (row_in b)).cell.bits → tag_of_bank b ≡ refused 18 (reference_address b)
      large_reference h = parts_tag b s (F body) c ∙ rw (Parts'.large_reference b (long b s (F body) c) row small body (room (partition_in b) row) h)

      module _ (below : code_field b (start b) (shape_of body (row_in b)).cell.bits < 10 ^ (shape_of body (row_in b)).cell.digits) where
        narrow : Narrow (F body)
        narrow = rw c.parts at (parts_narrow s)

        -- the digits of the reference, and what is read once the string is
        read_on : (ds : List ℕ) × (value 10 ds ≡ code_field b (start b) (shape_of body (row_in b)).cell.bits) × (tag_of_bank b ≡ (answered b body ds (string_of b body) >>= λ ps. taken (record { scheme = s; control = control_fields b; parts = ps })))
        read_on =
            let (ds, v, e) = small_reference b (long b s (F body) c) row small body (room (partition_in b) row) narrow below in
            (ds, v, parts_tag b s (F body) c ∙ rw e)

        -- the record, or 19, by the last part
        pub read_last : let h = shape_of body (row_in b) in reading_of (tag_of_bank b) ≡ read_to b s small (code_field b (start b) h.cell.bits) (last_address b body) (ending_at b (start b + h.cell.bits) h.last)
        read_last = ap reading_of read_on.2 ∙ record_made b s small body c.parts read_on.0 read_on.1

-- The three integers of gid-96.
pub three_integers : (b : List ℕ) (s : Scheme) (x y z : ℕ) → Coded b s (Integers x y z)
    → reading_of (tag_of_bank b) ≡ Ok (record { scheme = s; control = control_fields b; filter = 0; prefix = code_field b 8 x; digits = 0; reference = code_field b (8 + x) y; serial = code_field b (8 + x + y) z; characters = replicate 20 0; count = 0 })
three_integers b s x y z c =
    let p = Integers x y z in
    let w : 8 + x + y + z ≤ 16 * word_count b = omega (arith, c.enough, rw c.parts at (sizes s).inside) in
    let l = long b s p c in
    ap reading_of (parts_tag b s p c)
    ∙ rw (record_by s (control_fields b) p _ c.parts, drop-drop x 8 (code_in b), drop-drop y (8 + x) (code_in b), ← code_seen b l 8 x (omega arith), ← code_seen b l (8 + x) y (omega arith), ← code_seen b l (8 + x + y) z (omega arith), value_shortest 10 (lit< tt), value_shortest 10 (lit< tt), value_shortest 10 (lit< tt))
