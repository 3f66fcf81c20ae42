-- What the screen shows for each number, and that a refusal's line never looks like a tag URI.
use Prim.Native.Nat.{ℕ, zero, suc, ◌≤◌, ◌<◌}
use mathlib.Core.Path.{◌≡◌, refl, sym, ◌∙◌, ap}
use mathlib.Core.Logic.{◌↔◌, ◌⊎◌, inl, inr, ⊎_elim}
use mathlib.Core.List.{List, [], ◌∷◌, ◌++◌, map}
use mathlib.Core.Bool.{Bool, true, false, ◌&&◌, cond}
use native.Mathlib.Omega.{arith}
use lib.Dec.{leb, eqb, eqb→eq, not_T}
use lib.ListN.{length, get_or, replicate}
use borrow.Author.Tests.{ne_eqb, le-leb, lt-leb}
use Rattle.numeral.specs.Numeral.{Digits}
use Rattle.numeral.proofs.Arithmetic.{lt_or_ge}
use Rattle.rules.specs.Grammar.{start}
use Rattle.rules.specs.Coding.{within}
use Rattle.rules.specs.Raw.{raw_text}
use Rattle.rules.specs.Screen.{screen}
use Rattle.rules.specs.Promises.{OnScreen}
use Rattle.rules.specs.Calls.{Call, wrote, bank_room, text_to_bank, bank_to_text, raw_line}
use Rattle.rules.proofs.Tests.{is_false}
use Rattle.rules.proofs.Numbered.{from}
use Rattle.rules.proofs.Again.{wrote_is, again}
use Rattle.rules.proofs.OneAnswer.{one_answer_of_raw_line}

-- for every number 0 to 255: 0, then 1 to 10, then 11 to 19, then 20 to 255
pub screen_shows : (tag raw : List ℕ) → map (screen tag raw) (from 0 256) ≡ tag ∷ replicate 10 [] ++ replicate 9 raw ++ replicate 236 []
unfolding screen
screen_shows tag raw = refl

-- one line keeps the promise, and no second
module _ (tag raw : List ℕ) (n : ℕ) where
  keeps : OnScreen tag raw n (screen tag raw n)
  unfolding screen
  keeps = record {
    clean = λ e. rw e;
    broken = λ l u. rw (ne_eqb n 0 (λ e. omega arith), le-leb 11 n l, le-leb n 19 u);
    other = other;
  }
    where
      other : 0 < n → (n < 11) ⊎ (19 < n) → cond (eqb n 0) tag (cond (leb 11 n && leb n 19) raw []) ≡ []
      other z (inl h) = rw (ne_eqb n 0 (λ e. omega arith), lt-leb 11 n h)
      other z (inr h) = rw (ne_eqb n 0 (λ e. omega arith), le-leb 11 n (omega arith), lt-leb n 19 h)

  pub one_answer_of_screen : (l : List ℕ) → OnScreen tag raw n l ↔ (l ≡ screen tag raw n)
  one_answer_of_screen l = (only, λ e. rw e keeps)
    where
      only : OnScreen tag raw n l → l ≡ screen tag raw n
      only p =
          ⊎_elim (λ (a : n < 1). p.clean (omega arith) ∙ sym (keeps.clean (omega arith)))
          (λ (a : 1 ≤ n).
          ⊎_elim (λ (b : n < 11). p.other a (inl b) ∙ sym (keeps.other a (inl b)))
          (λ (b : 11 ≤ n).
          ⊎_elim (λ (c : 19 < n). p.other a (inr c) ∙ sym (keeps.other a (inr c))) (λ (c : n ≤ 19). p.broken b c ∙ sym (keeps.broken b c)) (lt_or_ge 19 n))
          (lt_or_ge n 11))
          (lt_or_ge n 1)

abbrev pub LooksLikeATag : List ℕ → Type 0
LooksLikeATag l = (u : List ℕ) × (l ≡ start ++ u)

raw_differs : (b : List ℕ) → ¬ (LooksLikeATag (raw_text b))
unfolding raw_text start
raw_differs b r = let e : ◌≡◌ {A = ℕ} 114 116 = ap (λ l. get_or l 8 0) r.1 in omega arith

empty_differs : ¬ (LooksLikeATag [])
unfolding start
empty_differs r = let e : ◌≡◌ {A = ℕ} 0 117 = ap (λ l. get_or l 0 0) r.1 in omega arith

-- what the raw line's call wrote: the raw line, or nothing
raw_wrote : (b out : List ℕ) → (wrote (raw_line b out) ≡ raw_text b) ⊎ (wrote (raw_line b out) ≡ [])
raw_wrote b out = go c.number refl
  where
    c : Call
    c = raw_line b out

    go : (n : ℕ) → (raw_line b out).number ≡ n → (wrote (raw_line b out) ≡ raw_text b) ⊎ (wrote (raw_line b out) ≡ [])
    go zero e =
        let (w, r, n, o) = ((one_answer_of_raw_line b out (raw_line b out)).1 refl).accepted e in
        inl (wrote_is out w (raw_line b out) n o ∙ r.1)
    go (suc n) e =
        let (_, w, o) = ((one_answer_of_raw_line b out (raw_line b out)).1 refl).refused (λ z. omega arith) in
        inr (rw w)

raw_wrote_differs : (b out : List ℕ) → ¬ (LooksLikeATag (wrote (raw_line b out)))
raw_wrote_differs b out r = ⊎_elim (λ e. raw_differs b (rw e at r)) (λ e. empty_differs (rw e at r)) (raw_wrote b out)

-- a refusal, whatever its number, shows nothing that begins `urn:epc:tag:`
pub refusal_shows_no_tag : (tag b out : List ℕ) (n : ℕ) → ¬ (n ≡ 0) → ¬ (LooksLikeATag (screen tag (wrote (raw_line b out)) n))
unfolding screen
refusal_shows_no_tag tag b out n z =
    rw (is_false (eqb n 0) (not_T (eqb n 0) λ e. z (eqb→eq n 0 e))) (go (leb 11 n && leb n 19))
  where
    go : (t : Bool) → ¬ (LooksLikeATag (cond t (wrote (raw_line b out)) []))
    go true = raw_wrote_differs b out
    go false = empty_differs

-- the line on the screen for a bank
abbrev pub on_screen : List ℕ → List ℕ → List ℕ → List ℕ
on_screen b out out' = screen (wrote (bank_to_text b out)) (wrote (raw_line b out')) (bank_to_text b out).number

-- a tag URI is shown only if writing it again, with the W given beside it, gives the same bank
abbrev WritesAgain : List ℕ → Call → Type 0
WritesAgain b c = (c.number ≡ 0) × (wrote c ≡ within b)

pub screen_rule : (b out out' out'' : List ℕ) → Digits 256 b → bank_room ≤ length out'' → LooksLikeATag (on_screen b out out')
    → WritesAgain b (text_to_bank (bank_to_text b out).words (on_screen b out out') out'')
screen_rule b out out' out'' d l r = go (bank_to_text b out).number refl
  where
    go : (n : ℕ) → (bank_to_text b out).number ≡ n → WritesAgain b (text_to_bank (bank_to_text b out).words (on_screen b out out') out'')
    go zero e = unfold screen in let (z, _, w) = again b out out'' d l e in rw e (z, w)
    go (suc n) e = absurd (refusal_shows_no_tag (wrote (bank_to_text b out)) b out' (bank_to_text b out).number (λ z. omega arith) r)
