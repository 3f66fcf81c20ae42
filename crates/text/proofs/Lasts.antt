-- A reference and a last part, from what is read of each.
use Prim.Native.Nat.{ℕ, ◌-◌, ◌/◌, ◌≤◌, ◌<◌}
use mathlib.Core.Path.{◌≡◌, refl, sym, ap, ◌∙◌}
use mathlib.Core.Bool.{Bool, true, false, cond}
use mathlib.Core.List.{List, []}
use Rattle.std.specs.Prelude.{Option, None, Some, option_map}
use native.Mathlib.Omega.{arith}
use lib.Dec.{T, lit<}
use lib.ListN.{length, drop, length-drop}
use borrow.Author.Tests.{le-leb, lt-leb}
use Rattle.numeral.specs.Numeral.{value}
use Rattle.rules.specs.Answers.{Answer, refused, taken}
use Rattle.rules.specs.declared.Table.{Table}
use Rattle.rules.specs.declared.Last.{Last}
use Rattle.rules.specs.declared.Last.TheVariants.{Integer, String, Numeric}
use Rattle.rules.specs.Schemes.{Form, digits, integer, string, at_most, numeric, exact, counted, last_form}
use Rattle.rules.specs.Grammar.{reference, end}
use Rattle.rules.specs.TextNumbers.{last_in, parts_in}
use Rattle.rules.proofs.Tests.{is_true}
use Rattle.rules.proofs.Reading.{last_reads}
use Rattle.digits.proofs.Texts.{length_text}
use Rattle.alphabet.specs.declared.Spelled.{Spelled}
use Rattle.alphabet.specs.Strings.{string_part, spelled_of}
use Rattle.std.specs.Prelude.{Ok, Err}
use Rattle.scheme.specs.declared.refusal.Refusal.{Refusal}
use Rattle.scheme.specs.Refusals.{refusal}
use Rattle.scheme.specs.Records.{last_number, last_characters, last_count}
use Rattle.parts.specs.declared.parts.Form.{Form as CodeForm}
use Rattle.parts.specs.declared.parts.Part.{Part}
use Rattle.parts.specs.Parts.{form_of, end_of}
use Rattle.text.specs.declared.reading.Head.{Head}
use Rattle.text.specs.Reading.{tagged, tagged_with, referred, with_last}
use Rattle.text.proofs.Found.{Standing, no_end, an_end}

-- a reference, then a last part
module _ (h : Head) (f : CodeForm) (l : Last) (text : List ℕ) (at : ℕ) (p : Part) (s : Standing 6 f text at p) where
  no_last : (n i : ℕ) → last_in 7 p.next (last_form l) (drop p.next text) ≡ refused n i → refusal n i ≡ with_last h l (parts_in at (referred (form_of f) (last_form l)) (drop at text))
  no_last n i e = rw (s.read, sym s.rest, sym s.next, e)

  with_last_lem : (q : List ℕ) → last_in 7 p.next (last_form l) (drop p.next text) ≡ taken q
      → Ok (tagged h p.value (last_number l q) (last_characters l q) (last_count l q)) ≡ with_last h l (parts_in at (referred (form_of f) (last_form l)) (drop at text))
  with_last_lem q e = rw (s.value_is, s.read, sym s.rest, sym s.next, e)

  -- the same from what the code has read: digits that end the text, k of them where they are a numeric string
  pub not_ended : (r : Refusal) → Err r ≡ end_of (last_in 7 p.next (last_form l) (drop p.next text)) → Err r ≡ with_last h l (parts_in at (referred (form_of f) (last_form l)) (drop at text))
  not_ended r e = let (n, i, q, x) = no_end (last_in 7 p.next (last_form l) (drop p.next text)) r e in ap Err x ∙ no_last n i q

  ended : (v : ℕ) → Ok v ≡ end_of (last_in 7 p.next (last_form l) (drop p.next text)) → (k : ℕ)
      → ((q : List ℕ) → last_in 7 p.next (last_form l) (drop p.next text) ≡ taken q → tagged h p.value (value 10 q) [] k ≡ tagged h p.value (last_number l q) (last_characters l q) (last_count l q))
      → Ok (tagged h p.value v [] k) ≡ with_last h l (parts_in at (referred (form_of f) (last_form l)) (drop at text))
  ended v e k right =
      let (q, r, x) = an_end (last_in 7 p.next (last_form l) (drop p.next text)) v e in
      ap (λ y. Ok (tagged h p.value y [] k)) x ∙ ap Ok (right q r) ∙ with_last_lem q r

-- a numeric string has as many digits as the rest of the text has bytes
all_of_it : (n i : ℕ) (u q : List ℕ) → last_in 7 i (numeric 0 n) u ≡ taken q → length u ≡ length q
all_of_it n i u q e = let r = rw e at (last_reads 7 i (numeric 0 n) u (◌≡ i) (lit< tt) refl) in ap length r.1.1 ∙ length_text q

module _ (h : Head) (f : CodeForm) (n : ℕ) (text : List ℕ) (at : ℕ) (p : Part) (s : Standing 6 f text at p) (v : ℕ) where
  pub integer_ended : Ok v ≡ end_of (last_in 7 p.next (integer n) (drop p.next text))
      → Ok (tagged h p.value v [] 0) ≡ with_last h (Integer n) (parts_in at (referred (form_of f) (integer n)) (drop at text))
  integer_ended read = ended h f (Integer n) text at p s v read 0 λ q r. refl

  pub numeric_ended : Ok v ≡ end_of (last_in 7 p.next (numeric 0 n) (drop p.next text))
      → Ok (tagged h p.value v [] (length text - p.next)) ≡ with_last h (Numeric 0 n) (parts_in at (referred (form_of f) (numeric 0 n)) (drop at text))
  numeric_ended read =
      ended h f (Numeric 0 n) text at p s v read (length text - p.next) λ q r.
      ap (tagged h p.value (value 10 q) []) (sym (length-drop p.next text) ∙ all_of_it n p.next (drop p.next text) q r)

-- a string that is the last part
module _ (b i : ℕ) (w : List ℕ) where
  string_none : None ≡ option_map spelled_of (string_part w) → last_in 7 i (string b) w ≡ refused 7 i
  string_none e = go (string_part w) refl e
    where
      go : (o : Option (List ℕ)) → string_part w ≡ o → None ≡ option_map spelled_of o → last_in 7 i (string b) w ≡ refused 7 i
      go None q e = rw q
      go (Some cs) q e = let x : ◌≡◌ {A = ℕ} 0 1 = cc in absurd (omega arith)

  string_read : (s : Spelled) → Some s ≡ option_map spelled_of (string_part w) → (cs : List ℕ) × (string_part w ≡ Some cs) × (s ≡ spelled_of cs)
  string_read s e = go (string_part w) refl e
    where
      go : (o : Option (List ℕ)) → string_part w ≡ o → Some s ≡ option_map spelled_of o → (cs : List ℕ) × (string_part w ≡ Some cs) × (s ≡ spelled_of cs)
      go None q e = let x : ◌≡◌ {A = ℕ} 0 1 = cc in absurd (omega arith)
      go (Some cs) q e = (cs, q, cc)

  string_long : (cs : List ℕ) → string_part w ≡ Some cs → b / 7 < length cs → last_in 7 i (string b) w ≡ refused 8 i
  string_long cs q l = rw (q, lt-leb (length cs) (b / 7) l)

  string_taken : (cs : List ℕ) → string_part w ≡ Some cs → length cs ≤ b / 7 → last_in 7 i (string b) w ≡ taken cs
  string_taken cs q l = rw (q, le-leb (length cs) (b / 7) l)

-- and behind a reference
module _ (h : Head) (f : CodeForm) (b : ℕ) (text : List ℕ) (at : ℕ) (p : Part) (r : Standing 6 f text at p) where
  pub behind_none : None ≡ option_map spelled_of (string_part (drop p.next text)) → refusal 7 p.next ≡ with_last h (String b) (parts_in at (referred (form_of f) (string b)) (drop at text))
  behind_none e = no_last h f (String b) text at p r 7 p.next (string_none b p.next (drop p.next text) e)

  module _ (s : Spelled) (e : Some s ≡ option_map spelled_of (string_part (drop p.next text))) where
    pub behind_long : b / 7 < s.count → refusal 8 p.next ≡ with_last h (String b) (parts_in at (referred (form_of f) (string b)) (drop at text))
    behind_long l =
        let (cs, q, x) = string_read b p.next (drop p.next text) s e in
        no_last h f (String b) text at p r 8 p.next (string_long b p.next (drop p.next text) cs q (rw x at l))

    pub behind_taken : s.count ≤ b / 7 → Ok (tagged_with h p.value 0 s.characters s.count) ≡ with_last h (String b) (parts_in at (referred (form_of f) (string b)) (drop at text))
    behind_taken l =
        let (cs, q, x) = string_read b p.next (drop p.next text) s e in
        ap (λ (s : Spelled). Ok (tagged_with h p.value 0 s.characters s.count)) x
        ∙ with_last_lem h f (String b) text at p r cs (string_taken b p.next (drop p.next text) cs q (rw x at l))

-- the bits of a reference, and of a numeric string, play no part in the text
row_read : (t : Table) (i b n : ℕ) (g : Form) (u : List ℕ) → parts_in i (referred (counted t 0 n) g) u ≡ parts_in i (referred (counted t b n) g) u
row_read t i b n g u = go (exact t)
  where
    go : (e : Bool) → parts_in i (referred (cond e (digits 0 n) (at_most 0 n)) g) u ≡ parts_in i (referred (cond e (digits b n) (at_most b n)) g) u
    go true = refl
    go false = refl

pub row_behind : (h : Head) (l : Last) (t : Table) (i b n : ℕ) (f g : Form) (u : List ℕ) → f ≡ counted t 0 n
    → with_last h l (parts_in i (referred f g) u) ≡ with_last h l (parts_in i (referred (counted t b n) g) u)
row_behind h l t i b n f g u e = ap (λ f. with_last h l (parts_in i (referred f g) u)) e ∙ ap (with_last h l) (row_read t i b n g u)

pub row_alone : (t : Table) (i b n : ℕ) (u : List ℕ) → T (exact t) → parts_in i (end reference (digits 0 n)) u ≡ parts_in i (end reference (counted t b n)) u
row_alone t i b n u h = rw (is_true (exact t) h)

pub numeric_alike : (h : Head) (b n : ℕ) (a : Answer (List (List ℕ))) → with_last h (Numeric 0 n) a ≡ with_last h (Numeric b n) a
numeric_alike h b n (refused k p) = refl
numeric_alike h b n (taken ps) = refl
