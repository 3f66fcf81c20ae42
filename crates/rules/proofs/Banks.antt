-- The bank of a tag: its length and its bits; what the bits of a bank say of its tag, and the other way round.
use Prim.Native.Nat.{ℕ, ◌+◌, ◌-◌, ◌*◌, ◌≤◌}
use mathlib.Core.Path.{◌≡◌, refl, sym, ◌∙◌, ap, ap₂}
use mathlib.Core.List.{List, [], ◌++◌, append_assoc, append-nil}
use mathlib.Core.Bool.{◌&&◌}
use native.Mathlib.Omega.{arith}
use lib.Dec.{T, leb, ltb, le→leb, lt→ltb, lit<}
use lib.ListN.{length, take, drop, replicate, length-append, length-replicate, length-take, length-drop, take-append-drop}
use lib.Seq.{take_at, drop_at, drop-drop, take-add, take_all, length-take-le}
use Rattle.numeral.specs.Numeral.{value, numeral, Digits, spread}
use Rattle.numeral.proofs.Values.{length_numeral, digits_numeral, digits_append, digits_take, digits_drop, digits_zeros}
use Rattle.numeral.proofs.Spreads.{length_spread, digits_spread, spread_append, take_spread, length_gather, spread_gather, gather_spread}
use Rattle.rules.specs.Answers.{taken}
use Rattle.rules.specs.declared.Scheme.{Scheme}
use Rattle.rules.specs.declared.ControlFields.{ControlFields}
use Rattle.rules.specs.Schemes.{about, words, zero_bits}
use Rattle.rules.specs.ControlFields.{ControlFits}
use Rattle.rules.specs.Grammar.{layout, Tag, Fits, TagFits}
use Rattle.rules.specs.Coding.{binary, coded, code_of, control_bits, bits_of, bank_size, bank_of, at, word_count, EnoughWords, TagBank}
use Rattle.rules.specs.BankNumbers.{all_zero, code_in, control_fields, tag_of_bank}
use Rattle.rules.proofs.Tests.{is_true, and}
use Rattle.rules.proofs.Numbers.{front, read}
use Rattle.rules.proofs.Groups.{zeros_of, zeros_is}
use Rattle.rules.proofs.Codes.{sizes, headed_of, coded_bits, content_length, content_of}

-- The header and the parts, before the fill.
abbrev body : Scheme → List (List ℕ) → List ℕ
body s ps = binary 8 (about s).header ++ coded (layout s) ps

-- the control bits
control_length : (c : ControlFields) → length (control_bits c) ≡ 11
unfolding numeral
control_length c = refl

control_bits_lem : (c : ControlFields) → Digits 2 (control_bits c)
control_bits_lem c =
    digits_append 2 (binary 1 c.umi) (replicate 2 0 ++ binary 8 c.att) (digits_numeral 2 1 c.umi (lit< tt))
    (digits_append 2 (replicate 2 0) (binary 8 c.att) (digits_zeros 2 2 (lit< tt)) (digits_numeral 2 8 c.att (lit< tt)))

module _ (W : ℕ) (s : Scheme) (ps : List (List ℕ)) (enough : EnoughWords W s) (h : Fits (layout s) ps) where
  body_length : length (body s ps) ≡ (about s).bits - zero_bits (about s).parts
  body_length = length-append (binary 8 (about s).header) (coded (layout s) ps) ∙ ap₂ ◌+◌ (length_numeral 2 8 (about s).header) (content_length s h) ∙ sym (sizes s).whole

  code_length : length (code_of W s ps) ≡ 16 * W
  code_length = rw (length-append (body s ps), length-replicate) (omega (arith, body_length, (sizes s).inside, enough.0))

  code_bits_lem : Digits 2 (code_of W s ps)
  code_bits_lem =
      digits_append 2 (body s ps) (replicate (16 * W - length (body s ps)) 0)
      (digits_append 2 (binary 8 (about s).header) (coded (layout s) ps) (digits_numeral 2 8 (about s).header (lit< tt)) (coded_bits h))
      (digits_zeros 2 (16 * W - length (body s ps)) (lit< tt))

  bits_length : (c : ControlFields) → length (bits_of W s c ps) ≡ 8 * bank_size W
  bits_length c =
      rw (length-append (binary 5 W), length_numeral, length-append (control_bits c), code_length) (omega (arith, control_length c))

  bits_bits : (c : ControlFields) → Digits 2 (bits_of W s c ps)
  bits_bits c =
      digits_append 2 (binary 5 W) (control_bits c ++ code_of W s ps) (digits_numeral 2 5 W (lit< tt))
      (digits_append 2 (control_bits c) (code_of W s ps) (control_bits_lem c) code_bits_lem)

  bank_bits : (c : ControlFields) → spread 2 8 (bank_of W (record { scheme = s; control = c; parts = ps })) ≡ bits_of W s c ps
  unfolding bank_of
  bank_bits c = spread_gather 2 8 (bank_size W) (bits_of W s c ps) (lit< tt) (bits_bits c) (bits_length c)

pub bank_length : (W : ℕ) (τ : Tag) → length (bank_of W τ) ≡ bank_size W
unfolding bank_of
bank_length W τ = length_gather 2 8 (bank_size W) (bits_of W τ.scheme τ.control τ.parts)

-- A bank that begins with a tag's bits is read as that tag.
pub record FirstWord (c : ControlFields) (z l : List ℕ) : Type 0 where
  pub toggle : value 2 (take 1 (drop 7 l)) ≡ 0
  pub xpc : value 2 (take 1 (drop 6 l)) ≡ 0
  pub umi : value 2 (take 1 (drop 5 l)) ≡ c.umi
  pub att : value 2 (take 8 (drop 8 l)) ≡ c.att
  pub code : drop 16 l ≡ z

first_word : (W : ℕ) (c : ControlFields) (x z l : List ℕ) → ControlFits c → l ≡ (binary 5 W ++ (control_bits c ++ x)) ++ z → FirstWord c (x ++ z) l
unfolding value numeral
first_word W c x z l fits e = rw e (record { toggle = refl; xpc = refl; umi = omega (arith, fits.0); att = omega (arith, fits.1); code = refl })

module _ (b : List ℕ) (W : ℕ) (s : Scheme) (c : ControlFields) (ps : List (List ℕ)) (enough : EnoughWords W s) (h : Fits (layout s) ps) (fits : ControlFits c) (z : List ℕ) (e : spread 2 8 b ≡ bits_of W s c ps ++ z) where
  count_of : word_count b ≡ W
  count_of = rw (e, append_assoc (binary 5 W)) (read 5 W _ (omega (arith, enough.1))).0

  first_of : FirstWord c (code_of W s ps ++ z) (spread 2 8 b)
  first_of = first_word W c (code_of W s ps) z (spread 2 8 b) fits e

  code_of_lem : code_in b ≡ code_of W s ps
  code_of_lem = rw (count_of, first_of.code) (take_at (code_of W s ps) z (16 * W) (code_length W s ps enough h))

  fill : List ℕ
  fill = replicate (16 * W - length (body s ps)) 0

  header_of : (value 2 (take 8 (code_of W s ps)) ≡ (about s).header) × (drop 8 (code_of W s ps) ≡ coded (layout s) ps ++ fill)
  unfolding fill
  header_of = rw (append_assoc (binary 8 (about s).header) (coded (layout s) ps)) (read 8 (about s).header _ (sizes s).byte)

  fill_of : T (all_zero (drop ((about s).bits - zero_bits (about s).parts) (code_of W s ps)))
  fill_of =
      let k = 16 * W - length (body s ps) in
      rw (drop_at (body s ps) (replicate k 0) ((about s).bits - zero_bits (about s).parts) (body_length W s ps enough h)) (zeros_of k)

  read_of : bank_size W ≤ length b → tag_of_bank b ≡ taken (record { scheme = s; control = c; parts = ps })
  unfolding tag_of_bank
  read_of long =
      rw (
        code_of_lem,
        count_of,
        first_of.toggle,
        first_of.xpc,
        first_of.umi,
        first_of.att,
        is_true (leb 2 (length b) && leb (bank_size W) (length b)) (and (leb 2 (length b)) (leb (bank_size W) (length b)) (le→leb 2 (length b) (omega arith)) (le→leb (bank_size W) (length b) long)),
        is_true (ltb 0 W) (lt→ltb 0 W (omega (arith, enough.0, (sizes s).some_words))),
        header_of.0,
        headed_of s,
        is_true (leb (words s) W) (le→leb (words s) W enough.0),
        is_true (all_zero (drop ((about s).bits - zero_bits (about s).parts) (code_of W s ps))) fill_of,
        header_of.1,
        content_of s h 0x28 fill,
      )

module _ (b : List ℕ) (W : ℕ) (τ : Tag) (r : TagBank b W τ) where
  behind_bank : List ℕ
  behind_bank = spread 2 8 (drop (bank_size (word_count b)) b)

  bank_of_lem : spread 2 8 b ≡ bits_of W τ.scheme τ.control τ.parts ++ behind_bank
  unfolding behind_bank
  bank_of_lem =
      let n = bank_size (word_count b) in
      ap (spread 2 8) (sym (take-append-drop n b)) ∙ spread_append 2 8 (take n b) (drop n b) ∙ ap (◌++ spread 2 8 (drop n b)) (ap (spread 2 8) r.bank ∙ bank_bits W τ.scheme τ.parts r.enough r.fits.parts τ.control)

  pub words_of : word_count b ≡ W
  words_of = count_of b W τ.scheme τ.control τ.parts r.enough r.fits.parts r.fits.control behind_bank bank_of_lem

  pub tag_of : tag_of_bank b ≡ taken τ
  tag_of =
      read_of b W τ.scheme τ.control τ.parts r.enough r.fits.parts r.fits.control behind_bank bank_of_lem
      (omega (arith, simp length-take at (ap length r.bank), bank_length W τ))

-- The other way: the bits of a bank that are a tag's.
pub record Shown (b : List ℕ) (τ : Tag) : Type 0 where
  pub fits : TagFits τ
  pub enough : EnoughWords (word_count b) τ.scheme
  pub long : bank_size (word_count b) ≤ length b
  pub control : take 16 (spread 2 8 b) ≡ binary 5 (word_count b) ++ control_bits τ.control
  pub code : code_in b ≡ code_of (word_count b) τ.scheme τ.parts

pub shown_bank : (b : List ℕ) (τ : Tag) → Digits 256 b → Shown b τ → TagBank b (word_count b) τ
unfolding bank_of
shown_bank b τ d r =
    let s = τ.scheme in
    let W = word_count b in
    let n = bank_size W in
    let S = spread 2 8 b in
    let m : 8 * n ≡ 16 + 16 * W = omega arith in
    let t : spread 2 8 (take n b) ≡ bits_of W s τ.control τ.parts =
    sym (take_spread 2 8 n b) ∙ rw (m, take-add 16 (16 * W) S, r.control, r.code) (append_assoc (binary 5 W) (control_bits τ.control) (code_of W s τ.parts)) in
    record {
      fits = r.fits;
      enough = r.enough;
      bank = sym (rw t at (gather_spread 2 8 n (take n b) (digits_take 256 n b d) (length-take-le n b r.long)));
    }

-- a tag's own bank shows it
pub own_bank : (W : ℕ) (τ : Tag) → EnoughWords W τ.scheme → TagFits τ → TagBank (bank_of W τ) W τ
own_bank W τ enough h =
    let s = τ.scheme in
    let l = bits_of W s τ.control τ.parts in
    let e : spread 2 8 (bank_of W τ) ≡ l ++ [] = bank_bits W s τ.parts enough h.parts τ.control ∙ sym (append-nil l) in
    let n = count_of (bank_of W τ) W s τ.control τ.parts enough h.parts h.control [] e in
    record { fits = h; enough = enough; bank = take_all (bank_size (word_count (bank_of W τ))) (bank_of W τ) (omega (arith, n, bank_length W τ)) }

-- the control word, from its fields
bits_at : (l : List ℕ) (a n v : ℕ) → Digits 2 l → a + n ≤ length l → value 2 (take n (drop a l)) ≡ v → take n (drop a l) ≡ binary n v
bits_at l a n v d r e = rw (← e) (sym (front n (drop a l) (digits_drop 2 a l d) (rw length-drop (omega arith))).0)

control_word : (b : List ℕ) (W u a : ℕ) → 2 ≤ length b → word_count b ≡ W → at b 0x15 1 ≡ u → at b 0x16 1 ≡ 0 → at b 0x17 1 ≡ 0 → at b 0x18 8 ≡ a
    → take 16 (spread 2 8 b) ≡ binary 5 W ++ control_bits (record { umi = u; att = a })
unfolding numeral
control_word b W u a r e m x t v =
    let l = spread 2 8 b in
    let d = digits_spread 2 8 b (lit< tt) in
    let n : 16 ≤ length (spread 2 8 b) = omega (arith, length_spread 2 8 b) in
    rw (
      take-add 5 11 l,
      take-add 1 10 (drop 5 l),
      drop-drop 1 5 l,
      take-add 1 9 (drop 6 l),
      drop-drop 1 6 l,
      take-add 1 8 (drop 7 l),
      drop-drop 1 7 l,
      bits_at l 0 5 W d (omega arith) e,
      bits_at l 5 1 u d (omega arith) m,
      bits_at l 6 1 0 d (omega arith) x,
      bits_at l 7 1 0 d (omega arith) t,
      bits_at l 8 8 a d (omega arith) v,
    )

pub control_is : (b : List ℕ) → 2 ≤ length b → at b 0x16 1 ≡ 0 → at b 0x17 1 ≡ 0 → take 16 (spread 2 8 b) ≡ binary 5 (word_count b) ++ control_bits (control_fields b)
control_is b r x t = control_word b (word_count b) (at b 0x15 1) (at b 0x18 8) r refl refl x t refl

-- the code, from its header, its parts and its fill
pub code_is : (W : ℕ) (s : Scheme) (ps : List (List ℕ)) (c z : List ℕ) → EnoughWords W s → Digits 2 c → length c ≡ 16 * W → value 2 (take 8 c) ≡ (about s).header
    → Fits (layout s) ps → drop 8 c ≡ coded (layout s) ps ++ z → T (all_zero (drop ((about s).bits - zero_bits (about s).parts) c)) → c ≡ code_of W s ps
code_is W s ps c z enough q n e h f t =
    let m = (about s).bits - zero_bits (about s).parts in
    let w : c ≡ body s ps ++ z =
    sym (take-append-drop 8 c) ∙ ap₂ ◌++◌ (bits_at c 0 8 (about s).header q (omega (arith, enough.0, (sizes s).some_words)) e) f ∙ sym (append_assoc (binary 8 (about s).header) (coded (layout s) ps) z) in
    let o : drop m c ≡ z = rw w (drop_at (body s ps) z m (body_length W s ps enough h)) in
    let y : z ≡ replicate (length z) 0 = zeros_is z (rw o at t) in
    let k : length z ≡ 16 * W - length (body s ps) = omega (arith, length-append (body s ps) z, ap length w) in
    w ∙ ap (body s ps ++◌) (y ∙ ap (λ k. replicate k 0) k)
