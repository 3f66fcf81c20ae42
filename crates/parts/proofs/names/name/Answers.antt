-- `name` meets its contract: the tail and the key decide, and each way out is a law of `Keys`.
use Prim.Native.Nat.{ℕ, ◌+◌, ◌-◌, ◌≤◌, ◌<◌}
use mathlib.Core.Path.{◌≡◌, sym, ap, ◌∙◌}
use mathlib.Core.List.{List}
use native.Mathlib.Nat.{add-zero}
use native.Mathlib.Omega.{arith}
use lib.ListN.{length, take, drop, get_or, length-drop, drop_of_length-le}
use lib.Seq.{drop-drop, get_or-drop}
use Rattle.std.specs.Prelude.{Option, None, Some}
use Rattle.numeral.specs.Numeral.{Digits}
use Rattle.rules.specs.Bytes.{colon}
use Rattle.parts.specs.Names.{tail_of}
use Rattle.parts.specs.declared.names.Tail.{Tail}
use Rattle.parts.proofs.Keys.{nothing, no_tail, no_key, other_letter, other_length, is_named}
use Rattle.parts.proofs.Runs.{from_index, run_shorter}
use Rattle.parts.proofs.Tails.{Tailed, TailIs, tail_is}
use Rattle.parts.proofs.names.name.Goals as goal
use Rattle.parts.proofs.names.name.Goals.{Else-length-tail, then-first-rest-via-then-first-rest, then-first-rest-via-else-first-rest+then-length-tail}

pub returns-then-rest : goal.returns-then-rest
returns-then-rest c = rw (drop_of_length-le c.args.rest.text.now {i = c.args.rest.at} c.if-rest.true) (nothing c.args.rest.at)

-- the tail that is read behind the first letter, and that letter
module _ (text : List ℕ) (at : ℕ) where
  tailed : at < length text → (r : Option Tail) → r ≡ tail_of (take (length text - (at + 1)) (drop (at + 1) text)) → TailIs (drop 1 (drop at text)) r
  tailed l r e = rw (drop-drop 1 at text) (tail_is (drop (at + 1) text) r (rw (from_index text (at + 1) (omega arith)) at e))

  bytes_behind : at < length text → Digits 256 (take (length text - (at + 1)) (drop (at + 1) text)) → Digits 256 (drop 1 (drop at text))
  bytes_behind l d = rw (drop-drop 1 at text) (rw (from_index text (at + 1) (omega arith)) at d)

  first : get_or (drop at text) 0 0 ≡ get_or text at 0
  first = get_or-drop at text 0 0 ∙ ap (λ i. get_or text i 0) (add-zero at)

  -- the name and its colon stand within the text
  inside : at < length text → (t : Tail) → Tailed (drop 1 (drop at text)) t → (n : ℕ) → n ≡ t.length → (n ≤ 8) × (at + (n + 2) ≤ length text)
  inside l t h n e =
      let w = drop 1 (drop at text) in
      let m : t.length ≤ 8 = rw h.is h.short in
      let s : t.length < length w = rw h.is (run_shorter colon w h.colon_in) in
      (omega arith, omega (arith, length-drop 1 (drop at text), length-drop at text))

pub returns-in_err-tail : goal.returns-in_err-tail
returns-in_err-tail c =
    let x = c.args in
    c.from_residual.ensures ∙ no_tail x.rest.at (drop x.rest.at x.rest.text.now) (tailed x.rest.text.now x.rest.at c.if-rest.false None (sym c.in_err-tail.was ∙ c.tail_of.ensures.tail))

pub returns-in_err-scheme : goal.returns-in_err-scheme
returns-in_err-scheme c =
    let x = c.args in
    let h = tailed x.rest.text.now x.rest.at c.if-rest.false (Some c.in_ok-tail.tail) (sym c.in_ok-tail.was ∙ c.tail_of.ensures.tail) in
    c.from_residual-in_err-scheme.ensures ∙ no_key x.rest.at (drop x.rest.at x.rest.text.now) c.in_ok-tail.tail h (sym c.in_err-scheme.was ∙ c.by_key.ensures)

pub returns-then-first-rest : goal.returns-then-first-rest
returns-then-first-rest c =
    let x = c.args in
    let h = tailed x.rest.text.now x.rest.at c.if-rest.false (Some c.in_ok-tail.tail) (sym c.in_ok-tail.was ∙ c.tail_of.ensures.tail) in
    let k = sym c.in_ok-scheme.was ∙ c.by_key.ensures in
    elim c.then-first-rest.branch [
      | then-first-rest-via-then-first-rest w ↦ other_letter x.rest.at (drop x.rest.at x.rest.text.now) c.in_ok-tail.tail h _ k (λ e. w.if-first-rest.true (e ∙ first x.rest.text.now x.rest.at))
      | then-first-rest-via-else-first-rest+then-length-tail w ↦ other_length x.rest.at (drop x.rest.at x.rest.text.now) c.in_ok-tail.tail h _ k w.if-length-tail.true
    ]

pub returns : goal.returns
returns c =
    let x = c.args in
    let h = tailed x.rest.text.now x.rest.at c.if-rest.false (Some c.in_ok-tail.tail) (sym c.in_ok-tail.was ∙ c.tail_of.ensures.tail) in
    let k = sym c.in_ok-scheme.was ∙ c.by_key.ensures in
    let d = bytes_behind x.rest.text.now x.rest.at c.if-rest.false c.tail_of.ensures.bytes in
    is_named x.rest.at (drop x.rest.at x.rest.text.now) c.in_ok-tail.tail h _ k d (rw length-drop (omega arith)) (c.if-first-rest.false ∙ sym (first x.rest.text.now x.rest.at)) c.if-length-tail.false

-- both ends of the name fit
fits : (c : Else-length-tail) → (c.in_ok-scheme.field-0.2 ≤ 8) × (c.args.rest.at + (c.in_ok-scheme.field-0.2 + 2) ≤ length c.args.rest.text.now)
fits c =
    let x = c.args in
    let h = tailed x.rest.text.now x.rest.at c.if-rest.false (Some c.in_ok-tail.tail) (sym c.in_ok-tail.was ∙ c.tail_of.ensures.tail) in
    inside x.rest.text.now x.rest.at c.if-rest.false c.in_ok-tail.tail h _ c.if-length-tail.false

pub overflow_add-result : goal.overflow_add-result
overflow_add-result c = omega (arith, (fits c).0)

pub overflow_add-result-2 : goal.overflow_add-result-2
overflow_add-result-2 c = omega (arith, (fits c).1)
