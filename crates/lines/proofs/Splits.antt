-- The lines of an input, one after the other: the bytes up to the first line feed, and what stands behind it.
use Prim.Native.Nat.{ℕ, suc, ◌+◌, ◌≤◌, ◌<◌}
use mathlib.Core.Path.{◌≡◌, refl, sym, ap, ◌∙◌}
use mathlib.Core.List.{List, [], ◌∷◌, ◌++◌, append-nil}
use mathlib.Core.Bool.{Bool, true, false, ◌||◌, not, cond}
use Rattle.std.specs.Prelude.{Option, None, Some, MatchOption, position}
use Rattle.std.specs.List.{position_or_len}
use Rattle.std.proofs.lemmas.Bool.{ltb-true, ltb-false}
use Rattle.std.proofs.lemmas.List.Recursion.{is_position_or_len}
use native.Mathlib.Omega.{arith}
use lib.Dec.{T, eqb, ltb}
use lib.ListN.{length, take, drop}
use lib.Seq.{take_at, take-append-add, drop-append-add}
use Rattle.rules.specs.Bytes.{among, upto, behind}
use Rattle.rules.proofs.Tests.{is_false, both, and}
use Rattle.rules.proofs.Runs.{run_is, without, among_of}
use Rattle.replies.specs.declared.Program.{Program}
use Rattle.lines.specs.Lines.{feed, lines_of, printed, output_of}
use Rattle.lines.specs.Turns.{finished, whole, end_reply}

-- no line feed stands among the bytes
abbrev pub Unfed : List ℕ → Type 0
Unfed l = T (without feed l)

pub unfed_append : (a b : List ℕ) → Unfed a → Unfed b → Unfed (a ++ b)
unfed_append [] b h k = k
unfed_append (x ∷ a) b h k = let (p, q) = both (not (eqb feed x)) (without feed a) h in and (not (eqb feed x)) (without feed (a ++ b)) p (unfed_append a b q k)

not_among : (l : List ℕ) → Unfed l → among feed l ≡ false
not_among [] h = refl
not_among (x ∷ l) h = let (p, q) = both (not (eqb feed x)) (without feed l) h in rw (is_false (eqb feed x) p, not_among l q)

-- The run up to the first line feed.
pub upto_unfed : (t : List ℕ) → Unfed (upto feed t)
upto_unfed [] = tt
upto_unfed (x ∷ t) = go (eqb feed x) refl (upto_unfed t)
  where
    go : (b : Bool) → eqb feed x ≡ b → Unfed (upto feed t) → Unfed (cond b [] (x ∷ upto feed t))
    go true e h = tt
    go false e h = and (not (eqb feed x)) (without feed (upto feed t)) (rw e tt) h

-- with no line feed in it, it is all
upto_all : (t : List ℕ) → length t ≤ length (upto feed t) → upto feed t ≡ t
upto_all [] h = refl
upto_all (x ∷ t) h = go (eqb feed x) (upto_all t) h
  where
    go : (b : Bool) → (length t ≤ length (upto feed t) → upto feed t ≡ t) → suc (length t) ≤ length (cond b [] (x ∷ upto feed t)) → cond b [] (x ∷ upto feed t) ≡ x ∷ t
    go true f h = absurd (omega arith)
    go false f h = ap (x ∷◌) (f (omega arith))

upto_short : (t : List ℕ) → length (upto feed t) < length t → T (among feed t)
upto_short [] h = absurd (omega arith)
upto_short (x ∷ t) h = go (eqb feed x) (upto_short t) h
  where
    go : (b : Bool) → (length (upto feed t) < length t → T (among feed t)) → length (cond b [] (x ∷ upto feed t)) < suc (length t) → T (b || among feed t)
    go true f h = tt
    go false f h = f (omega arith)

-- the first line feed stands behind it, if there is one
pub feed_found : (t : List ℕ) (r : Option ℕ) → r ≡ position (eqb feed) t → MatchOption r (upto feed t ≡ t) (λ n. (n ≡ length (upto feed t)) × (n < length t))
feed_found t r e = rw e (go (position_or_len (eqb feed) t) long (ltb (position_or_len (eqb feed) t) (length t)) refl)
  where
    step : (x : ℕ) (t : List ℕ) (b : Bool) → length (cond b [] (x ∷ upto feed t)) ≡ cond b 0 (1 + length (upto feed t))
    step x t true = refl
    step x t false = omega arith

    long : length (upto feed t) ≡ position_or_len (eqb feed) t
    long = is_position_or_len (λ t. length (upto feed t)) (eqb feed) refl (λ x t. step x t (eqb feed x)) t

    go : (n : ℕ) → length (upto feed t) ≡ n → (b : Bool) → ltb n (length t) ≡ b → MatchOption (cond b (Some n) None) (upto feed t ≡ t) (λ n. (n ≡ length (upto feed t)) × (n < length t))
    go n k true h = (sym k, ltb-true n (length t) h)
    go n k false h = upto_all t (omega (arith, ltb-false n (length t) h))

-- One line, and those behind it.
module _ (r : List ℕ) where
  pub first_line : (l : List ℕ) → Unfed l → lines_of (l ++ feed ∷ r) ≡ l ∷ lines_of r
  first_line [] h = refl
  first_line (x ∷ l) h = let (p, q) = both (not (eqb feed x)) (without feed l) h in rw (is_false (eqb feed x) p, first_line l q)

  first_finished : (l : List ℕ) → Unfed l → finished (l ++ feed ∷ r) ≡ length l + suc (finished r)
  first_finished [] h = omega arith
  first_finished (x ∷ l) h =
      let (p, q) = both (not (eqb feed x)) (without feed l) h in
      rw (is_false (eqb feed x) p, among_of feed r l, first_finished l q) (omega arith)

alone : (x : ℕ) (l : List ℕ) → Unfed (x ∷ l) → lines_of (x ∷ l) ≡ (x ∷ l) ∷ []
alone x [] h = rw (is_false (eqb feed x) (both (not (eqb feed x)) true h).0)
alone x (y ∷ l) h = let (p, q) = both (not (eqb feed x)) (without feed (y ∷ l)) h in rw (is_false (eqb feed x) p, alone y l q)

pub last_line : (π : Program) (l : List ℕ) → Unfed l → output_of π l ≡ end_reply π l
unfolding output_of
last_line π [] h = refl
last_line π (x ∷ l) h = rw (alone x l h) (append-nil (printed π (x ∷ l)))

pub no_output : (π : Program) → output_of π [] ≡ []
unfolding output_of
no_output π = refl

-- What has ended.
pub none_ended : (l : List ℕ) → Unfed l → whole l ≡ []
unfolding whole
none_ended [] h = refl
none_ended (x ∷ l) h = rw (not_among (x ∷ l) h)

module _ (l r : List ℕ) (h : Unfed l) where
  pub first_output : (π : Program) → output_of π (l ++ feed ∷ r) ≡ printed π l ++ output_of π r
  unfolding output_of
  first_output π = rw (first_line r l h)

  pub first_ended : whole (l ++ feed ∷ r) ≡ l ++ feed ∷ whole r
  unfolding whole
  first_ended = rw (first_finished r l h) (take-append-add l (feed ∷ r) (suc (finished r)))

-- The first line of an input, where it has ended.
module _ (t : List ℕ) (n : ℕ) (long : n ≡ length (upto feed t)) (h : n < length t) where
  line_is : t ≡ upto feed t ++ feed ∷ behind feed t
  line_is = run_is feed t (upto_short t (omega arith))

  pub the_line : take n t ≡ upto feed t
  the_line = ap (take n) line_is ∙ take_at (upto feed t) (feed ∷ behind feed t) n (sym long)

  the_rest : drop (n + 1) t ≡ behind feed t
  the_rest = rw long (ap (drop (length (upto feed t) + 1)) line_is ∙ drop-append-add (upto feed t) (feed ∷ behind feed t) 1)

  pub ended_is : whole t ≡ upto feed t ++ feed ∷ whole (drop (n + 1) t)
  ended_is = ap whole line_is ∙ first_ended (upto feed t) (behind feed t) (upto_unfed t) ∙ ap (λ r. upto feed t ++ feed ∷ whole r) (sym the_rest)

  pub output_is : (π : Program) → output_of π (whole t) ≡ printed π (upto feed t) ++ output_of π (whole (drop (n + 1) t))
  output_is π = ap (output_of π) ended_is ∙ first_output (upto feed t) (whole (drop (n + 1) t)) (upto_unfed t) π
