-- How long tagline's replies are: at most 150 bytes, and with its line feed at most four times the line with its own.
use Prim.Native.Nat.{ℕ, ◌+◌, ◌-◌, ◌*◌, ◌≤◌, ◌<◌}
use mathlib.Core.Path.{◌≡◌, refl, ap}
use mathlib.Core.Logic.{◌⊎◌, inl, inr, ⊎_elim}
use mathlib.Core.List.{List, [], ◌++◌}
use Rattle.std.specs.Prelude.{None, Some}
use mathlib.Core.Bool.{Bool, true, false, cond}
use native.Mathlib.Omega.{arith}
use lib.Dec.{leb, eqb, lit<, lit≤}
use lib.ListN.{length, drop, length-append, length-take, length-drop}
use Rattle.numeral.proofs.Arithmetic.{lt_or_ge}
use Rattle.numeral.proofs.Shortest.{size_le, size_small}
use Rattle.rules.specs.Answers.{Answer, refused, taken}
use Rattle.rules.specs.Bytes.{bytes}
use Rattle.rules.specs.Conditions.{First, text_rules, bank_rules, raw_rules}
use Rattle.rules.specs.ControlFields.{control_text}
use Rattle.rules.specs.Grammar.{Tag, TagText, text_of, start, label}
use Rattle.rules.specs.Schemes.{words}
use Rattle.rules.specs.Coding.{at, bank_of, word_count, within}
use Rattle.rules.specs.TextNumbers.{after, tag_of_text}
use Rattle.rules.specs.BankNumbers.{tag_of_bank}
use Rattle.rules.specs.Raw.{raw_text}
use Rattle.rules.specs.Screen.{screen}
use Rattle.rules.proofs.Answers.{Reads}
use Rattle.rules.proofs.Banks.{Shown, bank_length}
use Rattle.rules.proofs.BankReads.{bank_reads, at_lt}
use Rattle.rules.proofs.TextReads.{tag_reads}
use Rattle.rules.proofs.Lengths.{measured, text_length, text_of_words, afi_length, raw_length}
use Rattle.digits.proofs.Texts.{length_hex}
use Rattle.digits.specs.Starts.{begun}
use Rattle.replies.specs.Hex.{is_bank, bytes_in, bank_in}
use Rattle.replies.specs.Replies.{most_characters, reply_n, shown, of_text, of_bank, bank_reply, tagline_reply, reply_x}
use Rattle.replies.proofs.Hexes.{read_count}
use Rattle.replies.proofs.Pieces.{decimal_long}
use Rattle.replies.proofs.Refusals.{first_between, with_raw, without_raw, two_digits_lem, later}

-- r is short enough for a line of n bytes
abbrev pub Short : ℕ → List ℕ → Type 0
Short n r = (length r ≤ 150) × (length r < 4 * (n + 1))

number_short : (n m : ℕ) → n < 10 → Short m (reply_n n)
number_short n m h = let d = decimal_long n in let e = size_small 10 (lit< tt) n h in (omega arith, omega arith)

-- To a text.
text_long : (τ : Tag) → 14 ≤ length (text_of τ)
unfolding text_of start
text_long τ = rw (length-append (control_text τ.control), length-append (label τ.scheme)) (omega (arith, (measured τ.scheme).least_name))

text_number_lem : (t : List ℕ) (n i : ℕ) → First (text_rules t) n i → 0 < n → n ≤ 20
unfolding text_rules
text_number_lem t n i f p = (first_between 2 20 (text_rules t) n i (omega arith) p f).1

-- past the first rule a text has its start
started : (t : List ℕ) → ¬ (¬ ((u : List ℕ) × (t ≡ start ++ u))) → 12 ≤ length t
unfolding start
started t h = ⊎_elim (λ (l : length t < 12). absurd (h λ (u, e). omega (arith, ap length e))) (λ (l : 12 ≤ length t). l) (lt_or_ge (length t) 12)

pub text_refused : (t : List ℕ) (n i : ℕ) → 0 < n → First (text_rules t) n i → Short (length t) (reply_n n)
unfolding text_rules
text_refused t n i p (inl (_, e, _)) = number_short n (length t) (omega arith)
text_refused t n i p (inr (x, f)) =
    let d = decimal_long n in
    let k = size_le 10 (lit< tt) n 2 (lit< tt) (omega (arith, text_number_lem t n i (inr (x, f)) p)) in
    let l = started t x in
    (omega arith, omega arith)

text_short : (t : List ℕ) → Short (length t) (of_text (tag_of_text t))
text_short t = go (tag_of_text t) (tag_reads t)
  where
    go : (a : Answer Tag) → Reads (text_rules t) (TagText t) a → Short (length t) (of_text a)
    go (taken τ) h =
        let W = words τ.scheme in
        let l = length_hex (bank_of W τ) in
        let b = bank_length W τ in
        let s = measured τ.scheme in
        let u = text_long τ in
        let e = ap length h.1.text in
        (omega arith, omega arith)
    go (refused n i) h = text_refused t n i h.1 h.0

-- To a bank: its line has two digits a byte.
raw_short : (b : List ℕ) → length (raw_text b) ≤ 21 + 2 * (length b - 2)
unfolding raw_text
raw_short b =
    let v : ℕ = 16 * word_count b in
    let d = decimal_long v in
    let k = size_le 10 (lit< tt) v 3 (lit< tt) (omega (arith, at_lt b 0x10 5)) in
    let a = afi_length (eqb (at b 0x17 1) 1) (at b 0x18 8) in
    let w : length (drop 2 (within b)) ≤ length b - 2 = simp (length-drop, length-take) (omega arith) in
    simp (length-append, length_hex) (omega arith)

module _ (b : List ℕ) where
  -- the words are there
  there : ¬ ((length b < 2) ⊎ (length b < 2 + 2 * word_count b)) → (2 ≤ length b) × (2 + 2 * word_count b ≤ length b)
  there x =
      let u : ¬ (length b < 2) = λ h. x (inl h) in
      let v : ¬ (length b < 2 + 2 * word_count b) = λ h. x (inr h) in
      (omega arith, omega arith)

  refused_short : (n i : ℕ) → 0 < n → First (bank_rules b) n i → Short (2 * length b) (shown n (screen [] (raw_text b) n))
  unfolding raw_rules bank_rules
  refused_short n i p (inl (_, e, _)) = rw (without_raw b n p (omega arith)) (number_short n (2 * length b) (omega arith))
  refused_short n i p (inr (x, inl (_, e, _))) =
      let d = decimal_long n in
      let k = size_le 10 (lit< tt) n 2 (lit< tt) (omega arith) in
      let c = there x in
      rw (without_raw b n p (omega arith)) (omega arith, omega arith)
  refused_short n i p (inr (x, inr (y, f))) =
      let (l, u) = later b n i p (inr (x, inr (y, f))) (x, (y, tt)) in
      let c = there x in
      let w : ¬ (word_count b ≡ 0) = y in
      let two = two_digits_lem n l u in
      let d = decimal_long n in
      let r = raw_short b in
      let s = raw_length b in
      rw (with_raw b n l u) (simp length-append (omega arith), simp length-append (omega arith))

  bank_short : Short (2 * length b) (of_bank b (tag_of_bank b))
  bank_short = go (tag_of_bank b) (bank_reads b)
    where
      go : (a : Answer Tag) → Reads (bank_rules b) (Shown b) a → Short (2 * length b) (of_bank b a)
      go (taken τ) h =
          let r : TagText (text_of τ) τ = record { fits = h.1.fits; text = refl } in
          let l = text_length (text_of τ) τ r in
          let w = text_of_words (text_of τ) τ r in
          let s = measured τ.scheme in
          let c = h.1.enough in
          let k = h.1.long in
          (omega arith, omega arith)
      go (refused n i) h = refused_short n i h.1 h.0

-- To any line.
hex_short : (l : List ℕ) → Short (length l) (bank_reply (bank_in l))
hex_short l = go (is_bank l) refl
  where
    go : (t : Bool) → is_bank l ≡ t → Short (length l) (bank_reply (cond t (Some (bytes_in l)) None))
    go true e =
        let c = read_count l in
        let b = bank_short (bytes_in l) in
        (b.0, omega (arith, b.1))
    go false e = (lit≤ tt, omega arith)

pub tagline_line : (l : List ℕ) → Short (length l) (tagline_reply l)
unfolding tagline_reply
tagline_line l = go (begun (after (bytes "urn:") l)) (leb (length l) most_characters)
  where
    go : (t u : Bool) → Short (length l) (cond t (cond u (of_text (tag_of_text l)) reply_x) (bank_reply (bank_in l)))
    go true true = text_short l
    go true false = (lit≤ tt, omega arith)
    go false u = hex_short l
