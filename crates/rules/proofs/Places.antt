-- Every place is small, whatever the length of what is read: an offset is at most 116, since what stands before it fits, and an address is one
-- of at most 31 words. So is every W.
use Prim.Native.Nat.{ℕ, suc, ◌+◌, ◌-◌, ◌*◌, ◌^◌, ◌≤◌, ◌<◌}
use mathlib.Core.Path.{◌≡◌, refl, ap}
use mathlib.Core.Logic.{◌⊎◌, inl, inr}
use mathlib.Core.List.{List, [], ◌∷◌}
use Rattle.std.specs.Prelude.{Option, None, Some}
use mathlib.Core.Bool.{Bool, true, false, ◌||◌, cond}
use native.Mathlib.Omega.{arith}
use lib.Dec.{leb, eqb, lit≤}
use lib.ListN.{length}
use Rattle.rules.specs.Answers.{Answer, refused, taken, ◌>>=◌, ◌>>◌, demand, given, place_of}
use Rattle.rules.specs.Bytes.{upto, behind, dot, colon}
use Rattle.rules.specs.declared.Last.TheVariants.{Integer, String, Numeric}
use Rattle.rules.specs.declared.Body.TheVariants.{Then, Zeros, E}
use Rattle.rules.specs.declared.Parts.{Parts}
use Rattle.rules.specs.declared.Parts.TheVariants.{F, Integers}
use Rattle.rules.specs.Schemes.{Form, schemes, about, words}
use Rattle.rules.specs.ControlFields.{fields_text, no_fields}
use Rattle.rules.specs.Grammar.{Layout, part, end, layout, start, label, text_of}
use Rattle.rules.specs.Coding.{word_count, most_words}
use Rattle.rules.specs.TextNumbers.{after, Controlled, bracketed, opens, control_fields_in, named, number_at, part_in, last_in, parts_in, tag_of_text, text_place}
use Rattle.rules.specs.BankNumbers.{tag_of_bank, bank_place}
use Rattle.rules.specs.Raw.{raw_of_bank}
use Rattle.rules.specs.Calls.{Output, call, lent, bank_room, text_room, words_to_write, bank_of_text, text_to_bank, bank_to_text, raw_line}
use Rattle.rules.specs.Conditions.{Rule, Stands, First, partition_in, LastAt, raw_rules, bank_rules, asked_rules}
use Rattle.rules.proofs.Answers.{Settled, Reads, first_of}
use Rattle.rules.proofs.Rows.{narrow_row}
use Rattle.rules.proofs.Codes.{sizes}
use Rattle.rules.proofs.Reading.{PartIs, part_settled, LastIs, last_rules, last_reads, some_number}
use Rattle.rules.proofs.ControlFaults.{behind_both, fields}
use Rattle.rules.proofs.BankReads.{at_lt, bank_reads, raw_reads}
use Rattle.rules.proofs.AskedWords.{Encoded, bank_reads as asked-reads}
use Rattle.rules.proofs.Lengths.{longest, part_length, Within, parts_within, fields_length, characters_few, left, measured}

-- One reader after the other.
placed : {X Y : Type 0} (m : ℕ) (a : Answer X) (go : X → Answer Y) → place_of a ≤ m → ((x : X) → a ≡ taken x → place_of (go x) ≤ m) → place_of (a >>= go) ≤ m
placed m (refused n p) go h k = h
placed m (taken x) go h k = k x refl

given_placed : {X : Type 0} (m : ℕ) (o : Option X) (n p : ℕ) → p ≤ m → place_of (given o n p) ≤ m
given_placed m None n p h = h
given_placed m (Some x) n p h = omega arith

-- The rules of a list have small places where they apply.
abbrev Small : ℕ → List Rule → Type 0
Small m [] = Unit
Small m (r ∷ rs) = ((p : ℕ) → r.applies → r.place p → p ≤ m) × Small m rs

first_small : (m : ℕ) (rs : List Rule) → Small m rs → (n p : ℕ) → First rs n p → p ≤ m
first_small m [] s n p h = omega (arith, h.1)
first_small m (r ∷ rs) s n p (inl h) = s.0 p h.0 h.2
first_small m (r ∷ rs) s n p (inr h) = first_small m rs s.1 n p h.1

-- The parts of a text of at most m characters.
part_placed : (n i : ℕ) (f : Form) (t : List ℕ) → place_of (part_in n i f t) ≤ i
part_placed n i f t = go (part_in n i f t) (part_settled n i f t)
  where
    go : (a : Answer (List ℕ)) → Settled n (¬ (Stands f t)) (◌≡ i) (PartIs f t) a → place_of a ≤ i
    go (refused m p) h = omega (arith, h.1)
    go (taken x) h = omega arith

part_is : (n i : ℕ) (f : Form) (t p : List ℕ) → part_in n i f t ≡ taken p → PartIs f t p
part_is n i f t p e = (rw e at (part_settled n i f t)).1

last_placed : (n i : ℕ) (f : Form) (t : List ℕ) → 0 < n → place_of (last_in n i f t) ≤ i
last_placed n i f t z =
    let rs = last_rules n f t (◌≡ i) in
    first_small i rs (at, (at, tt)) _ _ (first_of rs (LastIs f t) (last_in n i f t) (last_reads n i f t (◌≡ i) z refl))
  where
    at : {P : Type 0} (p : ℕ) → P → p ≡ i → p ≤ i
    at p _ e = omega (arith, e)

parts_placed : (l : Layout) (m i : ℕ) (t : List ℕ) → Within l m → place_of (parts_in i l t) ≤ i + m
parts_placed (end r f) m i t w = placed (i + m) (last_in (number_at r) i f t) _ (omega (arith, last_placed (number_at r) i f t (some_number r))) λ p e. omega arith
parts_placed (part r f k) m i t w =
    placed (i + m) (part_in (number_at r) i f t) _ (omega (arith, part_placed (number_at r) i f t)) λ p e.
    let (fit, _, run) = part_is (number_at r) i f t p e in
    let (a, rest) = w.1 p fit in
    let j = i + length (upto dot t) + 1 in
    placed (i + m) (parts_in j (k p) (behind dot t)) _
    (omega (arith, a, ap length run, part_length f p w.0 fit, parts_placed (k p) (m - suc (longest f p)) j (behind dot t) rest)) λ ps _.
    omega arith

-- The control fields: 20 is refused behind 16 characters at most, and the name begins behind 17.
abbrev Near : Answer Controlled → Type 0
Near (refused n p) = p ≤ 28
Near (taken k) = k.next ≤ 29

control_near : (u : List ℕ) → Near (control_fields_in 12 u)
control_near u = go (opens u)
  where
    colons : (o : Option (List ℕ)) → Near (given o 20 (12 + length (fields_text (fields u))) >>= λ v. taken (record { control = fields u; next = 12 + length (fields_text (fields u)) + 1; rest = v }))
    colons None = omega (arith, fields_length (fields u))
    colons (Some v) = omega (arith, fields_length (fields u))

    go : (b : Bool) → Near (cond b (bracketed 12 u) (taken (record { control = no_fields; next = 12; rest = u })))
    go true = colons (after (colon ∷ []) (behind_both u))
    go false = lit≤ tt

near_place : (a : Answer Controlled) → Near a → place_of a ≤ 116
near_place (refused n p) h = omega arith
near_place (taken k) h = omega arith

pub text_place_lem : (t : List ℕ) → text_place t ≤ 116
unfolding text_place tag_of_text start
text_place_lem t =
    placed 116 (given (after start t) 2 0) _ (given_placed 116 (after start t) 2 0 (lit≤ tt)) λ u _.
    placed 116 (control_fields_in 12 u) _ (near_place (control_fields_in 12 u) (control_near u)) λ k e.
    let near : k.next ≤ 29 = rw e at (control_near u) in
    placed 116 (given (named schemes k.rest) 3 k.next) _ (given_placed 116 (named schemes k.rest) 3 k.next (omega arith)) λ c _.
    let s = c.scheme in
    let m = measured s in
    let i = k.next + length (label s) in
    placed 116 (parts_in i (layout s) c.rest) _
    (omega (arith, m.most_name, characters_few (words s) m.least_words, parts_placed (layout s) (left s) i c.rest (parts_within (about s).parts (left s) m.parts))) λ ps _.
    omega arith

-- The addresses of a bank.
last_small : (n : ℕ) (q : Parts) (p : ℕ) → LastAt n q p → p ≤ 0x20 + n
last_small n (F (Then t (Integer m))) p h = absurd h
last_small n (F (Then t (String m))) p h = omega (arith, h)
last_small n (F (Then t (Numeric m k))) p h = omega (arith, h)
last_small n (F (Zeros t z)) p h = absurd h
last_small n (F E) p h = absurd h
last_small n (Integers x y z) p h = absurd h

module _ (b : List ℕ) where
  few_words : word_count b < 32
  few_words = at_lt b 0x10 5

  -- 9: the bytes lent are fewer than those of 31 words
  few_bytes : (p : ℕ) → (length b < 2) ⊎ (length b < 2 + 2 * word_count b) → p ≡ length b → p ≤ 528
  few_bytes p (inl h) e = omega arith
  few_bytes p (inr h) e = omega (arith, few_words)

  fixed : {P : Type 0} (c : ℕ) → c ≤ 528 → (p : ℕ) → P → p ≡ c → p ≤ 528
  fixed c l p _ e = omega (arith, e)

  raw_small : Small 528 (raw_rules b)
  unfolding raw_rules
  raw_small = (few_bytes, (fixed 0x10 (lit≤ tt), tt))

  bank_small : Small 528 (bank_rules b)
  unfolding bank_rules raw_rules
  bank_small = (
    few_bytes,
    (
      fixed 0x10 (lit≤ tt),
      (
        fixed 0x17 (lit≤ tt),
        (
          fixed 0x16 (lit≤ tt),
          (
            fixed 0x20 (lit≤ tt),
            (
              fixed 0x10 (lit≤ tt),
              (
                (λ p _ h. omega (arith, h.2.0, few_words)),
                (
                  fixed 0x2B (lit≤ tt),
                  (
                    fixed 0x2E (lit≤ tt),
                    (
                      fixed _ (omega (arith, narrow_row (partition_in b))),
                      ((λ p _ h. let s = h.0 in omega (arith, last_small (about s).bits (about s).parts p h.2, sizes s)), tt),
                    ),
                  ),
                ),
              ),
            ),
          ),
        ),
      ),
    ),
  )

  pub bank_place_lem : bank_place b ≤ 528
  unfolding bank_place
  bank_place_lem = first_small 528 (bank_rules b) bank_small _ _ (first_of (bank_rules b) _ (tag_of_bank b) (bank_reads b))

  raw_place : place_of (raw_of_bank b) ≤ 528
  raw_place = first_small 528 (raw_rules b) raw_small _ _ (first_of (raw_rules b) _ (raw_of_bank b) (raw_reads b))

-- So the place of every call fits 16 bits.
call_place : (room m : ℕ) (out : List ℕ) (a : Answer Output) → place_of a ≤ m → (call out (lent room out a)).place ≤ m
call_place room m out a h = go (leb room (length out))
  where
    same : (a : Answer Output) → place_of a ≤ m → (call out a).place ≤ m
    same (refused n p) h = h
    same (taken (W, w)) h = omega arith

    go : (t : Bool) → (call out (demand t 1 0 >> a)).place ≤ m
    go true = same a h
    go false = omega arith

-- 21 and 22 have place 0
checked : {X : Type 0} (m n : ℕ) (t : Bool) (a : Answer X) → place_of a ≤ m → place_of (demand t n 0 >> a) ≤ m
checked m n true a h = h
checked m n false a h = omega arith

asked_place : (W : ℕ) (t : List ℕ) → place_of (bank_of_text W t) ≤ 116
unfolding bank_of_text text_place
asked_place W t =
    checked 116 21 (leb W most_words) _ (placed 116 (tag_of_text t) _ (text_place_lem t) λ τ _.
    let s = τ.scheme in
    placed 116 (words_to_write W s) _ (checked 116 22 (eqb W 0 || leb (words s) W) (taken (cond (eqb W 0) (words s) W)) (omega arith)) λ n _. omega arith)

pub places_fit : (W : ℕ) (t b out : List ℕ) → ((text_to_bank W t out).place < 2 ^ 16) × ((bank_to_text b out).place < 2 ^ 16) × ((raw_line b out).place < 2 ^ 16)
unfolding text_to_bank bank_to_text raw_line bank_place
places_fit W t b out = (
  omega (arith, call_place bank_room 116 out (bank_of_text W t) (asked_place W t)),
  omega (arith, call_place text_room 528 out (tag_of_bank b >>= λ τ. taken (word_count b, text_of τ)) (placed 528 (tag_of_bank b) (λ τ. taken (word_count b, text_of τ)) (bank_place_lem b) λ τ _. omega arith)),
  omega (arith, call_place text_room 528 out (raw_of_bank b >>= λ w. taken (word_count b, w)) (placed 528 (raw_of_bank b) (λ w. taken (word_count b, w)) (raw_place b) λ w _. omega arith)),
)

-- And every W is at most 31: it is a word count, or one that can be written.
abbrev FewWords : Answer Output → Type 0
FewWords (refused n p) = Unit
FewWords (taken (W, w)) = W ≤ most_words

call_words : (room : ℕ) (out : List ℕ) (a : Answer Output) → FewWords a → (call out (lent room out a)).words ≤ most_words
call_words room out a h = go (leb room (length out))
  where
    same : (a : Answer Output) → FewWords a → (call out a).words ≤ most_words
    same (refused n p) h = omega arith
    same (taken (W, w)) h = h

    go : (t : Bool) → (call out (demand t 1 0 >> a)).words ≤ most_words
    go true = same a h
    go false = omega arith

counted_words : {X : Type 0} (b : List ℕ) (f : X → List ℕ) (a : Answer X) → FewWords (a >>= λ x. taken (word_count b, f x))
counted_words b f (refused n p) = tt
counted_words b f (taken x) = omega (arith, few_words b)

asked_words : (W : ℕ) (t : List ℕ) → FewWords (bank_of_text W t)
asked_words W t = go (bank_of_text W t) (asked-reads W t)
  where
    go : (a : Answer Output) → Reads (asked_rules W t) (Encoded W t) a → FewWords a
    go (refused n p) h = tt
    go (taken (n, w)) h = h.1.enough.1

pub words_fit : (W : ℕ) (t b out : List ℕ) → ((text_to_bank W t out).words ≤ most_words) × ((bank_to_text b out).words ≤ most_words) × ((raw_line b out).words ≤ most_words)
unfolding text_to_bank bank_to_text raw_line
words_fit W t b out = (
  call_words bank_room out (bank_of_text W t) (asked_words W t),
  call_words text_room out (tag_of_bank b >>= λ τ. taken (word_count b, text_of τ)) (counted_words b text_of (tag_of_bank b)),
  call_words text_room out (raw_of_bank b >>= λ w. taken (word_count b, w)) (counted_words b (λ w. w) (raw_of_bank b)),
)
