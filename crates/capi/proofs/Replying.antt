-- An answer in numbers says what the codec's says: number by number, and the line on the screen by the text that it is a part of.
use Prim.Native.Nat.{ℕ, ◌^◌, ◌≤◌, ◌<◌}
use mathlib.Core.Path.{◌≡◌, refl, sym, ap, ◌∙◌}
use mathlib.Core.Bool.{Bool, true, false, ◌&&◌, cond}
use mathlib.Core.List.{List, []}
use native.Mathlib.Omega.{arith}
use lib.Dec.{leb}
use lib.ListN.{length, take}
use lib.Seq.{take-length}
use borrow.Author.Tests.{ne_eqb, le-leb, lt-leb}
use Rattle.rules.specs.Coding.{most_words}
use Rattle.rules.specs.Calls.{Call}
use Rattle.rules.specs.Screen.{screen}
use Rattle.codec.specs.Answers.{Answer, answered, number_of, place_of, words_of, length_of}
use Rattle.capi.specs.declared.Reply.{Reply}
use Rattle.capi.specs.declared.Shown.{Shown}
use Rattle.capi.specs.Replies.{Narrow, replied, Shows}

pub same : (a : Answer) (out : List ℕ) (c : Call) → answered a out ≡ c → (r : Reply) → r.number ≡ number_of a → r.place ≡ place_of a → r.words ≡ words_of a → r.length ≡ length_of a
    → replied r out ≡ c
same a out c e r n p w l = rw (n, p, w, l, ← e)

-- the place and the W of a call's answer are the call's
pub small : (a : Answer) (out : List ℕ) (c : Call) → answered a out ≡ c → c.place < 2 ^ 16 → c.words ≤ most_words → Narrow (place_of a) (words_of a)
small a out c e l m = (rw (← e) at l, omega (arith, rw (← e) at m))

-- a number past document 01's shows nothing
pub past : (tag raw : List ℕ) (n : ℕ) → 19 < n → Shows tag raw n (record { text = 1; length = 0 })
unfolding screen
past tag raw n l =
    let z = ne_eqb n 0 (λ e. omega arith) in
    let u = lt-leb n 19 (omega arith) in
    let m = le-leb 11 n (omega arith) in
    record { text = simp z; whole = simp (z, u, m); shown = simp (z, u, m) }

module _ (tag raw : List ℕ) (n : ℕ) where
  all_of_tag : n ≡ 0 → screen tag raw n ≡ tag
  unfolding screen
  all_of_tag z = rw z

  start_of_raw : ¬ (n ≡ 0) → take (length (screen tag raw n)) raw ≡ screen tag raw n
  unfolding screen
  start_of_raw z = rw (ne_eqb n 0 z) (go (leb 11 n && leb n 19))
    where
      go : (t : Bool) → take (length (cond t raw [])) raw ≡ cond t raw []
      go true = take-length raw
      go false = refl

  -- the codec's line, which is the screen's
  module _ (line : List ℕ) (is : line ≡ screen tag raw n) where
    pub of_tag_lem : n ≡ 0 → Shows tag raw n (record { text = 0; length = length line })
    of_tag_lem z = record { text = simp z; whole = ap length is; shown = rw (is, all_of_tag z) (take-length tag) }

    pub of_raw : ¬ (n ≡ 0) → Shows tag raw n (record { text = 1; length = length line })
    of_raw z = record { text = simp (ne_eqb n 0 z); whole = ap length is; shown = rw is (start_of_raw z) }

-- NO SECOND ANSWER

pub one_reply : (r s : Reply) (o p : List ℕ) (c : Call) → replied r o ≡ c → replied s p ≡ c → (r ≡ s) × (o ≡ p)
one_reply r s o p c e f =
    let g = e ∙ sym f in
    (ap (λ x. record { number = x.number; place = x.place; words = x.words; length = x.written }) g, ap (λ x. x.output) g)

pub one_screen : (tag raw : List ℕ) (n : ℕ) (r s : Shown) → Shows tag raw n r → Shows tag raw n s → r ≡ s
one_screen tag raw n r s x y = let t = x.text ∙ sym y.text in let l = x.whole ∙ sym y.whole in rw (t, l)
