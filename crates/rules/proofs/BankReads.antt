-- A bank is refused by the first rule that applies; taken, it is the bank of its tag.
use Prim.Native.Nat.{ℕ, zero, suc, ◌+◌, ◌-◌, ◌*◌, ◌^◌, ◌≤◌, ◌<◌}
use mathlib.Core.Path.{◌≡◌, refl, sym, ◌∙◌, ap}
use mathlib.Core.Logic.Iff
use mathlib.Core.Logic.{◌↔◌}
use mathlib.Core.List.{List, [], ◌∷◌, ◌++◌}
use Rattle.std.specs.Prelude.{Option, Some}
use mathlib.Core.Bool.{Bool, true, false, not, cond}
use native.Mathlib.Omega.{arith}
use native.Mathlib.Nat.{le_trans, pow-le-pow_right}
use lib.Dec.{T, leb, ltb, eqb, leb→le, nleb→lt, ltb→lt, eqb→eq, lit<}
use lib.ListN.{length, get_or, take, drop, length-take, length-drop}
use lib.Seq.{drop-drop, length-take-le, drop-cons, get_or-drop}
use Rattle.numeral.specs.Numeral.{value, Digits, spread}
use Rattle.numeral.proofs.Values.{digits_take, digits_drop, value_lt}
use Rattle.numeral.proofs.Spreads.{length_spread, digits_spread}
use Rattle.rules.specs.Answers.{taken, ◌>>=◌, ◌>>◌, demand, given}
use Rattle.rules.specs.Bytes.{upto}
use Rattle.rules.specs.declared.Scheme.{Scheme}
use Rattle.rules.specs.declared.Last.TheVariants.{Integer, String, Numeric}
use Rattle.rules.specs.declared.Body.TheVariants.{Then, Zeros, E}
use Rattle.rules.specs.declared.Parts.{Parts}
use Rattle.rules.specs.declared.Parts.TheVariants.{F, Integers}
use Rattle.rules.specs.Schemes.{schemes, about, words, zero_bits, prefix_bits}
use Rattle.rules.specs.Grammar.{layout, Fits}
use Rattle.rules.specs.Coding.{binary, coded, control_bits, at, word_count, bank_size, EnoughWords}
use Rattle.rules.specs.BankNumbers.{all_zero, headed, code_in, fields_in, words_in, control_in, control_fields, tag_of_bank}
use Rattle.rules.specs.Raw.{raw_text, raw_of_bank}
use Rattle.rules.specs.Conditions.{Rule, rule, OfBank, row_in, zeros_from, MustBeZero, OneAfter, FirstOne, NoRow, LargePrefix, LargeReference, WrongLast, LastAt, raw_rules, bank_rules}
use Rattle.rules.proofs.Tests.{apart, all_at}
use Rattle.rules.proofs.Answers.{Gives, Decides, decided, Reads, settled_demand, settled_at, settled_given, settled_as, step, check, reads_map, reads_bind, done, same, alike, reads_covers}
use Rattle.rules.proofs.ControlRules.{Short, enough, enough_is, settled_9, settled_10, settled_bit}
use Rattle.rules.proofs.Codes.{content, sizes, headed_of}
use Rattle.rules.proofs.Banks.{Shown, control_is, code_is}
use Rattle.rules.proofs.CodeReads.{take_inside, parts_read}

-- n bits are a number below 2 ^ n
pub at_lt : (b : List ℕ) (a n : ℕ) → at b a n < 2 ^ n
at_lt b a n =
    let S = drop (a - 0x10) (spread 2 8 b) in
    let h = value_lt 2 (take n S) (digits_take 2 n S (digits_drop 2 (a - 0x10) (spread 2 8 b) (digits_spread 2 8 b (lit< tt)))) in
    le_trans h (pow-le-pow_right (lit< tt) (rw length-take (omega arith)))

-- Of bits that are not all zero the one behind the run up to the first 1 is 1, and those before it are 0.
abbrev FirstAt : List ℕ → ℕ → Type 0
FirstAt l z = (z < length l) × (get_or l z 0 ≡ 1) × ((i : ℕ) → i < z → get_or l i 0 ≡ 0)

first_at : (l : List ℕ) → Digits 2 l → T (not (all_zero l)) → FirstAt l (length (upto 1 l))
first_at [] d h = absurd h
first_at (x ∷ xs) d h = go (eqb 1 x) refl (first_at xs d.1)
  where
    go : (t : Bool) → eqb 1 x ≡ t → (T (not (all_zero xs)) → FirstAt xs (length (upto 1 xs))) → FirstAt (x ∷ xs) (length (cond t [] (x ∷ upto 1 xs)))
    go true e ih = (omega arith, sym (eqb→eq 1 x (rw e tt)), λ i l. absurd (omega arith))
    go false e ih =
        let zero_bit : x ≡ 0 = omega (arith, d.0, apart 1 x (rw e tt)) in
        let (l, k, z) = ih (rw zero_bit at h) in
        (omega arith, k, earlier zero_bit z)
      where
        earlier : x ≡ 0 → ((i : ℕ) → i < length (upto 1 xs) → get_or xs i 0 ≡ 0) → (i : ℕ) → i < suc (length (upto 1 xs)) → get_or (x ∷ xs) i 0 ≡ 0
        earlier zero_bit z zero l = zero_bit
        earlier zero_bit z (suc i) l = z i (omega arith)

-- the address of the first one bit behind the first n of the code
abbrev one_at : List ℕ → ℕ → ℕ
one_at b n = 0x20 + (n + length (upto 1 (drop n (code_in b))))

-- A bank that has its words: the code is its bits from 20h on.
module _ (b : List ℕ) (long : bank_size (word_count b) ≤ length b) where
  pub code_bits_lem : Digits 2 (code_in b)
  code_bits_lem = digits_take 2 (16 * word_count b) (drop 16 (spread 2 8 b)) (digits_drop 2 16 (spread 2 8 b) (digits_spread 2 8 b (lit< tt)))

  pub code_length : length (code_in b) ≡ 16 * word_count b
  code_length = length-take-le (16 * word_count b) (drop 16 (spread 2 8 b)) (rw length-drop (omega (arith, length_spread 2 8 b)))

  pub code_seen : (p n : ℕ) → p + n ≤ 16 * word_count b → at b (0x20 + p) n ≡ value 2 (take n (drop p (code_in b)))
  code_seen p n h =
      let e : 0x20 + p - 0x10 ≡ 16 + p = omega arith in
      rw (e, take_inside p n (16 * word_count b) (drop 16 (spread 2 8 b)) h, drop-drop p 16 (spread 2 8 b))

  bit_seen : (p : ℕ) → p < 16 * word_count b → at b (0x20 + p) 1 ≡ get_or (code_in b) p 0
  unfolding value
  bit_seen p h =
      rw (code_seen p 1 (omega arith), drop-cons (code_in b) p 0 (rw code_length h)) (omega arith)

  -- Rule 15: a bit behind the first n is 1.
  tail_seen : (n i : ℕ) → i < length (drop n (code_in b)) → at b (0x20 + (n + i)) 1 ≡ get_or (drop n (code_in b)) i 0
  tail_seen n i l = bit_seen (n + i) (omega (arith, length-drop n (code_in b), code_length)) ∙ sym (get_or-drop n (code_in b) i 0)

  first_one_lem : (n : ℕ) → T (not (all_zero (drop n (code_in b)))) → FirstOne b n (one_at b n)
  first_one_lem n h =
      let c = drop n (code_in b) in
      let i = length (upto 1 c) in
      let (l, k, z) = first_at c (digits_drop 2 n (code_in b) code_bits_lem) h in
      let m = length-drop n (code_in b) in
      ((omega arith, omega (arith, m, code_length)), tail_seen n i l ∙ k, before z)
    where
      before : ((i : ℕ) → i < length (upto 1 (drop n (code_in b))) → get_or (drop n (code_in b)) i 0 ≡ 0) → (a : ℕ) → MustBeZero b n a → a < one_at b n → at b a 1 ≡ 0
      before z a must l =
          let i = a - (0x20 + n) in
          let q : a ≡ 0x20 + (n + i) = omega (arith, must.0) in
          rw q (tail_seen n i (omega (arith, must, length-drop n (code_in b), code_length)) ∙ z i (omega (arith, must.0, l)))

  one_after : (n : ℕ) → T (not (all_zero (drop n (code_in b)))) → OneAfter b n × FirstOne b n (one_at b n)
  one_after n h = let f = first_one_lem n h in ((one_at b n, f.0, f.1), f)

  none_after : (n : ℕ) → T (all_zero (drop n (code_in b))) → ¬ (OneAfter b n)
  none_after n h (a, (l, m), e) =
      let c = drop n (code_in b) in
      let i = a - (0x20 + n) in
      let k : i < length c = omega (arith, length-drop n (code_in b), code_length) in
      let q : 0x20 + (n + i) ≡ a = omega arith in
      let z = eqb→eq (get_or c i 0) 0 (all_at (λ x. eqb x 0) c i h k) in
      omega (arith, rw q at (tail_seen n i k))

  -- Rule 13: the header; it is the scheme's own.
  header_seen : 0 < word_count b → at b 0x20 8 ≡ value 2 (take 8 (code_in b))
  header_seen z = code_seen 0 8 (omega arith)

headed_is : (x h : ℕ) → x ≡ h → (ss : List Scheme) → Gives (λ s. x ≡ (about s).header) (headed h ss)
headed_is x h e [] = tt
headed_is x h e (s ∷ ss) = go (eqb h (about s).header) (eqb→eq h (about s).header) (headed h ss) (headed_is x h e ss)
  where
    go : (t : Bool) → (T t → h ≡ (about s).header) → (o : Option Scheme) → Gives (λ s. x ≡ (about s).header) o → Gives (λ s. x ≡ (about s).header) (cond t (Some s) o)
    go true f o i = e ∙ f tt
    go false f o i = i

abbrev Headed : List ℕ → Type 0
Headed b = (s : Scheme) × (at b 0x20 8 ≡ (about s).header)

header_decided : (b : List ℕ) (h : ℕ) → at b 0x20 8 ≡ h → Decides (¬ (Headed b)) (λ s. at b 0x20 8 ≡ (about s).header) (headed h schemes)
header_decided b h e =
    decided (Headed b) (λ s. at b 0x20 8 ≡ (about s).header) (headed h schemes) (headed_is (at b 0x20 8) h e schemes) (λ s r. (s, r)) λ r.
    (r.0, rw (sym e ∙ r.1) (headed_of r.0))

pub of_bank_lem : (b : List ℕ) (s : Scheme) → at b 0x20 8 ≡ (about s).header → (Q : Scheme → Type 0) → Q s ↔ OfBank b Q
of_bank_lem b s e Q = (λ q. (s, e, q), back)
  where
    back : OfBank b Q → Q s
    back r =
        let q : r.0 ≡ s = cc (headed_of r.0, headed_of s, ap (λ h. headed h schemes) (sym r.1 ∙ e)) in
        rw q at r.2

-- the rules of the code, once its scheme is known
abbrev scheme_rules : List ℕ → List Rule
scheme_rules b =
    rule 16 (OfBank b λ s. NoRow b (about s).parts) (◌≡ 0x2B) ∷
    rule 17 (OfBank b λ s. LargePrefix b (about s).parts) (◌≡ 0x2E) ∷
    rule 18 (OfBank b λ s. LargeReference b (about s).parts) (◌≡ 0x2E + prefix_bits (row_in b)) ∷
    rule 19 (OfBank b λ s. WrongLast b (about s).bits (about s).parts) (λ p. OfBank b λ s. LastAt (about s).bits (about s).parts p) ∷ []

-- a last part ends where the parts do
last_alike : (b : List ℕ) (m n : ℕ) (p : Parts) → m - zero_bits p ≡ n → (WrongLast b n p ↔ WrongLast b m p) × ((a : ℕ) → LastAt n p a → LastAt m p a)
last_alike b m n (F (Then t (Integer k))) e = (Iff.rfl, λ a h. h)
last_alike b m n (F (Then t (String k))) e = let q : n ≡ m = omega arith in rw q (Iff.rfl, λ a h. h)
last_alike b m n (F (Then t (Numeric k l))) e = let q : n ≡ m = omega arith in rw q (Iff.rfl, λ a h. h)
last_alike b m n (F (Zeros t z)) e = (Iff.rfl, λ a h. h)
last_alike b m n (F E) e = (Iff.rfl, λ a h. h)
last_alike b m n (Integers x y z) e = (Iff.rfl, λ a h. h)

module _ (b : List ℕ) (s : Scheme) (long : bank_size (word_count b) ≤ length b) (enough : words s ≤ word_count b) (e : at b 0x20 8 ≡ (about s).header) where
  abbrev PartsShown : List (List ℕ) → Type 0
  PartsShown ps = (z : List ℕ) × Fits (layout s) ps × (drop 8 (code_in b) ≡ coded (layout s) ps ++ z)

  scheme_reads : Reads (scheme_rules b) PartsShown (fields_in 0x28 (layout s) (drop 8 (code_in b)))
  scheme_reads =
      let n = content s in
      let of = of_bank_lem b s e in
      let room : 8 + n ≤ 16 * word_count b = omega (arith, (sizes s).inside, (sizes s).whole, enough) in
      let r = parts_read b (drop 8 (code_in b)) n (digits_drop 2 8 (code_in b) (code_bits_lem b long)) (rw length-drop (omega (arith, code_length b long))) (λ p w h. seen p w (omega arith)) (about s).parts (sizes s).parts in
      let (wrong, place) = last_alike b (about s).bits (8 + n) (about s).parts (sizes s).whole in
      reads_covers PartsShown (fields_in 0x28 (layout s) (drop 8 (code_in b)))
      (alike (of λ s. NoRow b (about s).parts)
      (alike (of λ s. LargePrefix b (about s).parts)
      (alike (of λ s. LargeReference b (about s).parts)
      (same refl (Iff.trans wrong (of λ s. WrongLast b (about s).bits (about s).parts)) (λ p h. (s, e, place p h)) done))))
      r.reads
    where
      seen : (p w : ℕ) → 8 + p + w ≤ 16 * word_count b → at b (0x28 + p) w ≡ value 2 (take w (drop p (drop 8 (code_in b))))
      seen p w h =
          let q : 0x28 + p ≡ 0x20 + (8 + p) = omega arith in
          rw (q, code_seen b long (8 + p) w h, drop-drop p 8 (code_in b))

-- Rules 14 to 19, once the header is a scheme's.
abbrev header_rules : List ℕ → List Rule
header_rules b =
    rule 14 (OfBank b λ s. word_count b < words s) (◌≡ 0x10) ∷
    rule 15 (OfBank b λ s. OneAfter b (zeros_from s)) (λ p. OfBank b λ s. FirstOne b (zeros_from s) p) ∷ scheme_rules b

header_reads : (b : List ℕ) (s : Scheme) → bank_size (word_count b) ≤ length b → take 16 (spread 2 8 b) ≡ binary 5 (word_count b) ++ control_bits (control_fields b) → at b 0x20 8 ≡ (about s).header
    → Reads (header_rules b) (Shown b) (demand (leb (words s) (word_count b)) 14 0x10 >> (demand (all_zero (drop (zeros_from s) (code_in b))) 15 (one_at b (zeros_from s)) >> (fields_in 0x28 (layout s) (drop 8 (code_in b)) >>= λ ps. taken (record { scheme = s; control = control_fields b; parts = ps }))))
header_reads b s long control e =
    let W = word_count b in
    let c = code_in b in
    let m = zeros_from s in
    let p = one_at b m in
    check (rule 15 (OfBank b λ s. OneAfter b (zeros_from s)) (λ p. OfBank b λ s. FirstOne b (zeros_from s) p) ∷ scheme_rules b) (Shown b) 14 _ (◌≡ 0x10) (T (leb (words s) W)) (demand (leb (words s) W) 14 0x10) _ (lit< tt)
    (settled_as 14 (W < words s) _ (◌≡ 0x10) _ (demand (leb (words s) W) 14 0x10) (of_bank_lem b s e λ s. W < words s) (settled_demand 14 0x10 (W < words s) (leb (words s) W) (nleb→lt (words s) W) (λ h l. omega (arith, leb→le (words s) W h)))) λ h.
    let enough : EnoughWords W s = (leb→le (words s) W h, omega (arith, at_lt b 0x10 5)) in
    check (scheme_rules b) (Shown b) 15 _ _ (T (all_zero (drop m c))) (demand (all_zero (drop m c)) 15 p) _ (lit< tt)
    (settled_at 15 p (OfBank b λ s. OneAfter b (zeros_from s)) (λ p. OfBank b λ s. FirstOne b (zeros_from s) p) (all_zero (drop m c))
    (λ h. let (o, f) = one_after b long m h in ((s, e, o), (s, e, f))) (λ h o. none_after b long m h ((of_bank_lem b s e (λ s. OneAfter b (zeros_from s))).1 o))) λ z.
    reads_map (scheme_rules b) (PartsShown b s long enough.0 e) (Shown b) (λ ps. record { scheme = s; control = control_fields b; parts = ps }) (fields_in 0x28 (layout s) (drop 8 c)) (scheme_reads b s long enough.0 e) λ ps i.
    record {
      fits = record { parts = i.1; control = (omega (arith, at_lt b 0x15 1), omega (arith, at_lt b 0x18 8)) };
      enough = enough;
      long = long;
      control = control;
      code = code_is W s ps c i.0 enough (code_bits_lem b long) (code_length b long) (sym (header_seen b long (omega (arith, enough.0, (sizes s).some_words))) ∙ e) i.1 i.2 z;
    }

-- Rules 9 and 10: a bank that has its words, and not none.
abbrev pub HasWords : List ℕ → ℕ → Type 0
HasWords b W = (W ≡ word_count b) × (0 < word_count b) × (2 ≤ length b) × (bank_size (word_count b) ≤ length b)

pub words_reads : (b : List ℕ) → Reads (raw_rules b) (HasWords b) (words_in b)
unfolding raw_rules
words_reads b =
    let W = word_count b in
    check (rule 10 (W ≡ 0) (◌≡ 0x10) ∷ []) (HasWords b) 9 (Short b) (◌≡ length b) (T (enough b)) (demand (enough b) 9 (length b)) _ (lit< tt) (settled_9 b) λ h.
    check [] (HasWords b) 10 (W ≡ 0) (◌≡ 0x10) (T (ltb 0 W)) (demand (ltb 0 W) 10 0x10) (taken W) (lit< tt) (settled_10 W) λ w.
    let (two, long) = enough_is b h in
    (tt, (refl, ltb→lt 0 W w, two, long))

pub words_of : (b : List ℕ) (W : ℕ) → words_in b ≡ taken W → HasWords b W
words_of b W e = (rw e at (words_reads b)).1

-- Rules 9 to 12: its control word is in order too.
pub record Clean (b : List ℕ) (W : ℕ) : Type 0 where
  pub count : W ≡ word_count b
  pub some_words : 0 < word_count b
  pub two : 2 ≤ length b
  pub long : bank_size (word_count b) ≤ length b
  pub toggle : at b 0x17 1 ≡ 0
  pub xpc : at b 0x16 1 ≡ 0

abbrev control_rules : List ℕ → List Rule
control_rules b =
    raw_rules b ++
    (rule 11 (at b 0x17 1 ≡ 1) (◌≡ 0x17) ∷
    rule 12 (at b 0x16 1 ≡ 1) (◌≡ 0x16) ∷ [])

pub control_reads : (b : List ℕ) → Reads (control_rules b) (Clean b) (control_in b)
control_reads b =
    let R = Clean b in
    reads_bind (raw_rules b) _ (HasWords b) R (words_in b) _ (words_reads b) λ W (count, full, two, long).
    let t = at b 0x17 1 in
    check (rule 12 (at b 0x16 1 ≡ 1) (◌≡ 0x16) ∷ []) R 11 (t ≡ 1) (◌≡ 0x17) (T (eqb t 0)) (demand (eqb t 0) 11 0x17) _ (lit< tt) (settled_bit 11 0x17 t (at_lt b 0x17 1)) λ toggle.
    let x = at b 0x16 1 in
    check [] R 12 (x ≡ 1) (◌≡ 0x16) (T (eqb x 0)) (demand (eqb x 0) 12 0x16) (taken W) (lit< tt) (settled_bit 12 0x16 x (at_lt b 0x16 1)) λ xpc.
    (tt, record { count = count; some_words = full; two = two; long = long; toggle = eqb→eq t 0 toggle; xpc = eqb→eq x 0 xpc })

pub clean_of : (b : List ℕ) (W : ℕ) → control_in b ≡ taken W → Clean b W
clean_of b W e = (rw e at (control_reads b)).1

pub bank_reads : (b : List ℕ) → Reads (bank_rules b) (Shown b) (tag_of_bank b)
unfolding bank_rules raw_rules tag_of_bank
bank_reads b =
    reads_bind (control_rules b) (rule 13 (¬ (Headed b)) (◌≡ 0x20) ∷ header_rules b) (Clean b) (Shown b) (control_in b) _ (control_reads b) λ W c.
    let h = value 2 (take 8 (code_in b)) in
    step (header_rules b) (Shown b) 13 (¬ (Headed b)) (◌≡ 0x20) _ (given (headed h schemes) 13 0x20) _ (lit< tt)
    (settled_given 13 0x20 (¬ (Headed b)) _ (headed h schemes) (header_decided b h (header_seen b c.long c.some_words))) λ s i.
    rw c.count (header_reads b s c.long (control_is b c.two c.xpc c.toggle) i)

-- The raw line is refused by 9 and 10 alone.
pub raw_reads : (b : List ℕ) → Reads (raw_rules b) (λ w. (w ≡ raw_text b) × (2 ≤ length b) × (bank_size (word_count b) ≤ length b)) (raw_of_bank b)
unfolding raw_of_bank
raw_reads b = reads_map (raw_rules b) (HasWords b) _ (λ W. raw_text b) (words_in b) (words_reads b) λ W h. (refl, h.2, h.3)
