-- The rest of a name, read up to its colon: what each way out of the loop says.
use Prim.Native.Nat.{ℕ, ◌+◌, ◌^◌, ◌≤◌, ◌<◌}
use mathlib.Core.Path.{◌≡◌, refl, sym}
use mathlib.Core.Bool.{Bool, true, false, ◌&&◌, cond}
use mathlib.Core.List.{List}
use Rattle.std.specs.Prelude.{Option, None, Some}
use native.Mathlib.Omega.{arith}
use native.Mathlib.Nat.{lt_of_lt_of_le, pow-le-pow_right}
use lib.Dec.{T, leb, eqb, eqb→eq, leb→le, not_T, lit<}
use borrow.Author.Tests.{le-leb, lt-leb}
use lib.ListN.{length, take, get_or, length-take}
use lib.Seq.{length-take-le}
use Rattle.numeral.specs.Numeral.{value, Digits}
use Rattle.numeral.proofs.Values.{digits_take, value_lt}
use Rattle.rules.specs.Bytes.{colon, among, upto}
use Rattle.rules.proofs.Runs.{without}
use Rattle.parts.specs.Names.{tail, tail_of}
use Rattle.parts.specs.declared.names.Tail.{Tail}
use Rattle.parts.proofs.Runs.{without_more, run_ends, run_longer, run_shorter}

-- seven bytes leave room for an eighth
pub seven_fit : (n : ℕ) (w : List ℕ) → Digits 256 w → n ≤ 7 → value 256 (take n w) < 256 ^ 7
seven_fit n w d l =
    let k : length (take n w) ≤ 7 = rw length-take (omega arith) in
    lt_of_lt_of_le (value_lt 256 (take n w) (digits_take 256 n w d)) (pow-le-pow_right (lit< tt) k)

-- each way out of the loop, from the n bytes passed, none of which is a colon
module _ (w : List ℕ) (n : ℕ) (clear : T (without colon (take n w))) where
  pub found : (v : ℕ) → n ≤ 8 → n < length w → get_or w n 0 ≡ colon → v ≡ value 256 (take n w) → Some (record { value = v; length = n }) ≡ tail_of w
  unfolding tail_of
  found v small l e q =
      let (a, u, b) = run_ends colon n w l clear e in
      let k : length (take n w) ≡ n = length-take-le n w (omega arith) in
      rw (a, u, k, le-leb n 8 small, q)

  no_colon : length w ≤ n → among colon w ≡ false
  no_colon l = go (among colon w) refl
    where
      go : (b : Bool) → among colon w ≡ b → b ≡ false
      go false e = refl
      go true e = absurd (omega (arith, run_longer colon n w clear e, run_shorter colon w e))

  pub at_the_end : length w ≤ n → None ≡ tail_of w
  unfolding tail_of
  at_the_end l = rw (no_colon l)

  pub more : n < length w → ¬ (get_or w n 0 ≡ colon) → T (without colon (take (n + 1) w))
  more l x = without_more colon n w l clear (not_T (eqb colon (get_or w n 0)) λ e. x (sym (eqb→eq colon (get_or w n 0) e)))

  pub too_long : n ≡ 8 → n < length w → ¬ (get_or w n 0 ≡ colon) → None ≡ tail_of w
  unfolding tail_of
  too_long k l x = go (among colon w) refl
    where
      go : (b : Bool) → among colon w ≡ b → None ≡ cond (b && leb (length (upto colon w)) 8) (Some (tail (upto colon w))) None
      go false h = refl
      go true h = rw (lt-leb (length (upto colon w)) 8 (omega (arith, run_longer colon (n + 1) w (more l x) h)))

-- what a tail says of the text, and what a missing one says
pub record Tailed (u : List ℕ) (t : Tail) : Type 0 where
  pub colon_in : among colon u ≡ true
  pub short : length (upto colon u) ≤ 8
  pub is : t ≡ tail (upto colon u)

abbrev pub TailIs : List ℕ → Option Tail → Type 0
TailIs u None = among colon u ≡ true → ¬ (length (upto colon u) ≤ 8)
TailIs u (Some t) = Tailed u t

pub tail_is : (u : List ℕ) (r : Option Tail) → r ≡ tail_of u → TailIs u r
unfolding tail_of
tail_is u r e = rw e (go (among colon u) (leb (length (upto colon u)) 8) refl refl)
  where
    go : (b s : Bool) → among colon u ≡ b → leb (length (upto colon u)) 8 ≡ s
        → TailIs u (cond (b && s) (Some (tail (upto colon u))) None)
    go true true e f = record { colon_in = e; short = leb→le (length (upto colon u)) 8 (rw f tt); is = refl }
    go true false e f = λ a l. let x : ◌≡◌ {A = ℕ} 0 1 = cc (le-leb (length (upto colon u)) 8 l) in omega arith
    go false s e f = λ a l. let x : ◌≡◌ {A = ℕ} 0 1 = cc in omega arith
