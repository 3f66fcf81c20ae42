-- The parts of a code are refused by the first of the rules 16 to 19 that applies at its address, or are right.
use Prim.Native.Nat.{ℕ, zero, suc, ◌+◌, ◌-◌, ◌*◌, ◌/◌, ◌^◌, ◌≤◌, ◌<◌}
use mathlib.Core.Path.{◌≡◌, refl, sym, ◌∙◌, ap}
use mathlib.Core.Logic.Iff
use mathlib.Core.Logic.{◌↔◌}
use mathlib.Core.List.{List, [], ◌∷◌, ◌++◌, append_assoc}
use native.Mathlib.Omega.{arith}
use lib.ListN.{length, take, drop, length-drop}
use lib.Seq.{drop_at, drop-drop, take-take}
use Rattle.numeral.specs.Numeral.{value, Digits}
use Rattle.numeral.proofs.Values.{digits_drop}
use Rattle.rules.specs.declared.Table.{Table}
use Rattle.rules.specs.declared.Last.{Last}
use Rattle.rules.specs.declared.Last.TheVariants.{Integer, String, Numeric}
use Rattle.rules.specs.declared.Body.{Body}
use Rattle.rules.specs.declared.Body.TheVariants.{Then, Zeros, E}
use Rattle.rules.specs.declared.Parts.{Parts}
use Rattle.rules.specs.declared.Parts.TheVariants.{F, Integers}
use Rattle.rules.specs.Schemes.{Form, company, integer, counted, row_at, row_of, cell, asset_bits, prefix_bits, prefix_digits, partition, last_form, digits, at_most}
use Rattle.rules.specs.Grammar.{Role, Layout, part, end, laid, body_layout, Fits, more, one}
use Rattle.rules.specs.Coding.{part_bits, coded, at}
use Rattle.rules.specs.BankNumbers.{Field, field_in, fields_in}
use Rattle.rules.specs.Conditions.{Rule, rule, partition_in, row_in, NoRow, LargePrefix, LargeCell, LargeReference, WrongGroups, OneThen, WrongLast, LastAt}
use Rattle.rules.proofs.Answers.{Reads, reads_map, reads_bind, Covers, done, same, extra, alike, stays, reads_covers}
use Rattle.rules.proofs.Numbers.{read}
use Rattle.rules.proofs.Rows.{by_count_lem, narrow_row}
use Rattle.rules.proofs.Fields.{width, Roomy, part_length}
use Rattle.rules.proofs.FieldReads.{FieldIs, field_rules, widest, field_reads, group_of, wrong_alike}
use Rattle.rules.proofs.Codes.{Ends, RowSizes, PartSizes, has_row, row_sizes}

-- what is read of the bits: parts that fit, and their bits in front of the rest
abbrev FieldsAre : Layout → List ℕ → List (List ℕ) → Type 0
FieldsAre y l ps = (z : List ℕ) × Fits y ps × (l ≡ coded y ps ++ z)

pub record CodeReads (rs : List Rule) (a : ℕ) (y : Layout) (l : List ℕ) : Type 0 where
  pub reads : Reads rs (FieldsAre y l) (fields_in a y l)

covered : {rs qs : List Rule} {a : ℕ} {y : Layout} {l : List ℕ} → Covers rs qs → CodeReads rs a y l → CodeReads qs a y l
covered {a = a} {y = y} {l = l} c h = record { reads = reads_covers (FieldsAre y l) (fields_in a y l) c h.reads }

goes_on : {r : Role} {f : Form} {k : List ℕ → Layout} {a : ℕ} {l : List ℕ} {qs : List Rule} → Roomy f → Digits 2 l → widest f ≤ length l
    → ((c : Field) → FieldIs a f l c → CodeReads qs c.next (k c.symbols) c.rest) → CodeReads (field_rules a f l ++ qs) a (part r f k) l
goes_on {r} {f} {k} {a} {l} {qs} roomy d w h = record {
  reads = reads_bind (field_rules a f l) qs (FieldIs a f l) (FieldsAre (part r f k) l) (field_in a f l) _ (field_reads a f l roomy d w) λ c i.
      reads_map qs (FieldsAre (k c.symbols) c.rest) (FieldsAre (part r f k) l) (c.symbols ∷◌) (fields_in c.next (k c.symbols) c.rest) (h c i).reads λ ps j.
      (j.0, more i.0 j.1, rw append_assoc (i.1 ∙ ap (part_bits f c.symbols ++◌) j.2));
}

ends : {r : Role} {f : Form} {a : ℕ} {l : List ℕ} → Roomy f → Digits 2 l → widest f ≤ length l → CodeReads (field_rules a f l) a (end r f) l
ends {r} {f} {a} {l} roomy d w = record {
  reads = reads_map (field_rules a f l) (FieldIs a f l) (FieldsAre (end r f) l) (λ c. c.symbols ∷ []) (field_in a f l) (field_reads a f l roomy d w) λ c i.
      (c.rest, one i.0, i.1);
}

rest_is : (a : ℕ) (f : Form) (l : List ℕ) (c : Field) → Roomy f → FieldIs a f l c → c.rest ≡ drop (width f c.symbols) l
rest_is a f l c r i =
    sym (ap (drop (width f c.symbols)) i.1 ∙ drop_at (part_bits f c.symbols) c.rest (width f c.symbols) (part_length f c.symbols r i.0))

-- the reference of a table: rule 18, and what follows its bits
row_goes_on : {r : Role} {k : List ℕ → Layout} {a : ℕ} {l : List ℕ} {qs : List Rule} (t : Table) (b n : ℕ) → Roomy (counted t b n) → Digits 2 l → b ≤ length l
    → ((p : List ℕ) → CodeReads qs (a + b) (k p) (drop b l)) → CodeReads (rule 18 (10 ^ n ≤ value 2 (take b l)) (◌≡ a) ∷ qs) a (part r (counted t b n) k) l
row_goes_on {r} {k} {a} {l} {qs} t b n roomy d w h =
    by_count_lem (λ f. Roomy f → CodeReads (rule 18 (10 ^ n ≤ value 2 (take b l)) (◌≡ a) ∷ qs) a (part r f k) l) t b n
    (λ y. goes_on y d w λ c i. rw (rest_is a (digits b n) l c y i, i.2) (h c.symbols))
    (λ y. goes_on y d w λ c i. rw (rest_is a (at_most b n) l c y i, i.2) (h c.symbols))
    roomy

row_ends : {r : Role} {a : ℕ} {l : List ℕ} (t : Table) (b n : ℕ) → Roomy (counted t b n) → Digits 2 l → b ≤ length l
    → CodeReads (rule 18 (10 ^ n ≤ value 2 (take b l)) (◌≡ a) ∷ []) a (end r (counted t b n)) l
row_ends {r} {a} {l} t b n roomy d w =
    by_count_lem (λ f. Roomy f → CodeReads (rule 18 (10 ^ n ≤ value 2 (take b l)) (◌≡ a) ∷ []) a (end r f) l) t b n (λ y. ends y d w) (λ y. ends y d w) roomy

-- bits within the first m of a list
pub take_inside : (p w m : ℕ) (l : List ℕ) → p + w ≤ m → take w (drop p (take m l)) ≡ take w (drop p l)
take_inside zero w m l h = take-take w m l (omega arith)
take_inside (suc p) w zero l h = absurd (omega arith)
take_inside (suc p) w (suc m) [] h = refl
take_inside (suc p) w (suc m) (x ∷ l) h = take_inside p w m l (omega arith)

-- The bits behind the header are those of the bank from address 28h on.
module _ (b l : List ℕ) (n : ℕ) (d : Digits 2 l) (long : n ≤ length l) (seen : (p w : ℕ) → p + w ≤ n → at b (0x28 + p) w ≡ value 2 (take w (drop p l))) where
  tail_bits : (p : ℕ) → Digits 2 (drop p l)
  tail_bits p = digits_drop 2 p l d

  tail_long : (p w : ℕ) → p + w ≤ n → w ≤ length (drop p l)
  tail_long p w h = rw length-drop (omega arith)

  -- the groups of a string that ends the code
  groups_seen : (q w i : ℕ) → w ≡ n - q → q ≤ n → i < w / 7 → group_of (take w (drop q l)) i ≡ at b (0x20 + (8 + n - w) + 7 * i) 7
  groups_seen q w i e k h =
      let a : 0x20 + (8 + n - w) + 7 * i ≡ 0x28 + (q + 7 * i) = omega arith in
      rw (a, seen (q + 7 * i) 7 (omega arith), take_inside (7 * i) 7 w (drop q l) (omega arith), drop-drop (7 * i) q l)

  -- a last part of w bits that ends the code
  last_at : (q w p : ℕ) → w ≡ n - q → q ≤ n → p ≡ 0x28 + q → p ≡ 0x20 + (8 + n - w)
  last_at q w p e k h = omega arith

  end_reads : (t : Table) (r : Role) (q : ℕ) (x : Last) → Ends x (n - q) → q ≤ n
      → CodeReads (rule 19 (WrongLast b (8 + n) (F (Then t x))) (LastAt (8 + n) (F (Then t x))) ∷ []) (0x28 + q) (end r (last_form x)) (drop q l)
  end_reads t r q (Integer w) h k = covered (extra (λ e. e) done) (ends tt (tail_bits q) (tail_long q w (omega arith)))
  end_reads t r q (String w) h k = covered (same refl (forth, back) (λ p. last_at q w p h.0 k) done) (ends (h.1, h.2) (tail_bits q) (tail_long q w (omega arith)))
    where
      forth : WrongGroups (w / 7) (group_of (take w (drop q l))) → WrongLast b (8 + n) (F (Then t (String w)))
      forth = wrong_alike (w / 7) (group_of (take w (drop q l))) (λ i. at b (0x20 + (8 + n - w) + 7 * i) 7) h.2 λ i v. groups_seen q w i h.0 k v

      back : WrongLast b (8 + n) (F (Then t (String w))) → WrongGroups (w / 7) (group_of (take w (drop q l)))
      back = wrong_alike (w / 7) (λ i. at b (0x20 + (8 + n - w) + 7 * i) 7) (group_of (take w (drop q l))) h.2 λ i v. sym (groups_seen q w i h.0 k v)
  end_reads t r q (Numeric w m) h k = covered (same refl seen_alike (λ p. last_at q w p h.0 k) done) (ends h.1 (tail_bits q) (tail_long q w (omega arith)))
    where
      seen_alike : (¬ (OneThen m (value 2 (take w (drop q l))))) ↔ WrongLast b (8 + n) (F (Then t (Numeric w m)))
      seen_alike =
          let a : 0x20 + (8 + n - w) ≡ 0x28 + q = omega arith in
          rw (a, seen q w (omega arith)) Iff.rfl

  -- behind a company prefix of m digits, whose row is the bank's
  cell_seen : (t : Table) (m : ℕ) → partition_in b ≡ partition m → 6 + prefix_bits (row_of m) + (cell t (row_of m)).0 ≤ n
      → (10 ^ (cell t (row_of m)).1 ≤ value 2 (take (cell t (row_of m)).0 (drop (6 + prefix_bits (row_of m)) l))) ↔ LargeCell b (cell t (row_in b))
  cell_seen t m e k =
      let p = prefix_bits (row_of m) in
      let a : 0x2E + p ≡ 0x28 + (6 + p) = omega arith in
      rw (e, a, seen (6 + p) (cell t (row_of m)).0 k) Iff.rfl

  cell_at : (m : ℕ) → partition_in b ≡ partition m → (p : ℕ) → p ≡ 0x28 + (6 + prefix_bits (row_of m)) → p ≡ 0x2E + prefix_bits (row_in b)
  cell_at m e p h = rw e (omega (arith, h))

  abbrev body_rules : Body → List Rule
  body_rules body =
      rule 18 (LargeReference b (F body)) (◌≡ 0x2E + prefix_bits (row_in b)) ∷
      rule 19 (WrongLast b (8 + n) (F body)) (LastAt (8 + n) (F body)) ∷ []

  body_reads : (body : Body) (m : ℕ) → partition_in b ≡ partition m → RowSizes body n (row_of m)
      → CodeReads (body_rules body) (0x28 + (6 + prefix_bits (row_of m))) (body_layout body m) (drop (6 + prefix_bits (row_of m)) l)
  body_reads (Then t x) m e h =
      let p = 6 + prefix_bits (row_of m) in
      let w = (cell t (row_of m)).0 in
      let a : 0x28 + p + w ≡ 0x28 + (p + w) = omega arith in
      covered (same refl (cell_seen t m e h.1) (cell_at m e) (stays done))
      (row_goes_on t w (cell t (row_of m)).1 h.0 (tail_bits p) (tail_long p w h.1) λ _.
      rw (drop-drop w p l, a) (end_reads t _ (p + w) x h.2 h.1))
  body_reads (Zeros t z) m e h =
      let p = 6 + prefix_bits (row_of m) in
      let c = cell t (row_of m) in
      covered (same refl (cell_seen t m e (omega arith)) (cell_at m e) (extra (λ e. e) done)) (row_ends t c.0 c.1 h.0 (tail_bits p) (tail_long p c.0 (omega arith)))
  body_reads E m e h =
      let p = 6 + prefix_bits (row_of m) in
      covered (extra (λ e. e) (extra (λ e. e) done)) (ends tt (tail_bits p) (tail_long p (asset_bits (row_of m)) (omega arith)))

  -- the parts of a scheme
  abbrev code_rules : Parts → List Rule
  code_rules p =
      rule 16 (NoRow b p) (◌≡ 0x2B) ∷
      rule 17 (LargePrefix b p) (◌≡ 0x2E) ∷
      rule 18 (LargeReference b p) (◌≡ 0x2E + prefix_bits (row_in b)) ∷
      rule 19 (WrongLast b (8 + n) p) (LastAt (8 + n) p) ∷ []

  pub parts_read : (p : Parts) → PartSizes p n → CodeReads (code_rules p) 0x28 (laid p) l
  parts_read (F body) h =
      goes_on tt d (omega arith) λ c i.
      rw (rest_is 0x28 (integer 3) l c tt i, i.2)
      (covered (alike row_seen (alike prefix_seen (stays (stays done))))
      (goes_on tt (tail_bits 3) (tail_long 3 43 (omega arith)) λ c j.
      let m = length c.symbols in
      let p = 3 + prefix_bits (row_of m) in
      let e : 3 + p ≡ 6 + prefix_bits (row_of m) = omega arith in
      let a : c.next ≡ 0x28 + (6 + prefix_bits (row_of m)) = omega (arith, j.2) in
      rw (rest_is 0x2B company (drop 3 l) c tt j, drop-drop p 3 l, e, a) (body_reads body m (picked c j) (row_sizes body n h c.symbols j.0))))
    where
      P-seen : partition_in b ≡ value 2 (take 3 (drop 3 l))
      P-seen = seen 3 3 (omega arith)

      row_seen : (value 2 (take 3 (drop 3 l)) ≡ 7) ↔ NoRow b (F body)
      row_seen = rw P-seen Iff.rfl

      prefix_seen : (10 ^ prefix_digits (row_at (value 2 (take 3 (drop 3 l)))) ≤ value 2 (take (prefix_bits (row_at (value 2 (take 3 (drop 3 l))))) (drop 3 (drop 3 l)))) ↔ LargePrefix b (F body)
      prefix_seen =
          let w = prefix_bits (row_at (value 2 (take 3 (drop 3 l)))) in
          rw (P-seen, drop-drop 3 3 l, seen 6 w (omega (arith, narrow_row (value 2 (take 3 (drop 3 l)))))) Iff.rfl

      picked : (c : Field) → FieldIs 0x2B company (drop 3 l) c → partition_in b ≡ partition (length c.symbols)
      picked c j =
          let m = length c.symbols in
          P-seen ∙ rw (j.1, append_assoc) (read 3 (partition m) _ (omega (arith, (has_row c.symbols j.0).0))).0
  parts_read (Integers x y z) h =
      covered (extra (λ e. e) (extra (λ e. e) (extra (λ e. e) (extra (λ e. e) done))))
      (goes_on tt d (omega arith) λ c i.
      rw (rest_is 0x28 (integer x) l c tt i, i.2)
      (goes_on tt (tail_bits x) (tail_long x y (omega arith)) λ c j.
      rw (rest_is (0x28 + x) (integer y) (drop x l) c tt j, drop-drop y x l) (ends tt (tail_bits (x + y)) (tail_long (x + y) z (omega arith)))))
