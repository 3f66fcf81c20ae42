use Prim.Native.Nat.{◌≤◌}
use mathlib.Core.Path.{◌≡◌, ap, ◌∙◌}
use native.Mathlib.Omega.{arith}
use lib.ListN.{length, take}
use Rattle.std.specs.Slice.Iter.{chunks_rest, chunks_size}
use Rattle.bank.proofs.PackedStrings.{none_yet, some_digits, takes_next, some_more}
use Rattle.bank.proofs.writing.put_string.Goals as goal
use Rattle.bank.proofs.writing.put_string.Goals.{In-Some}

pub loop-some-init : goal.loop-some-init
loop-some-init c =
    let e = c.into_iter-some-iterator.ensures.into_iter_gives in
    let size : chunks_size c.into_iter-some-iterator.result ≡ 8 = ap chunks_size e ∙ c.chunks-some-items.ensures.size in
    let rest : chunks_rest c.into_iter-some-iterator.result ≡ take c.args.k c.args.characters = ap chunks_rest e ∙ c.chunks-some-items.ensures.rest in
    (omega arith, tt, size, rw rest (none_yet c.args.characters c.args.k c.requires.0 c.requires.1 c.requires.2))

few : (c : In-Some) → length c.in-Some.some.now ≤ 8
few c = omega (arith, c.in-Some.ensures.steps.1.1, c.loop-some.invariant.2)

pub joined-requires : goal.joined-requires
joined-requires c =
    let l = few (goal.at.joined-requires c).In-Some in
    (l, some_digits c.args.characters c.args.k c.requires.0 c.requires.1 c.requires.2 _ _ l c.in-Some.ensures.steps.1.0 c.loop-some.invariant.3)

pub push-requires : goal.push-requires
push-requires c =
    let l = few (goal.at.push-requires c).In-Some in
    rw c.joined.ensures (takes_next c.args.characters c.args.k c.requires.0 c.requires.1 c.requires.2 _ _ l c.in-Some.ensures.steps.1.0 c.loop-some.invariant.3)

pub loop-some-preserved : goal.loop-some-preserved
loop-some-preserved c =
    let l = few (goal.at.loop-some-preserved c).In-Some in
    let steps = c.in-Some.ensures.steps in
    let (_, _, size, so_far) = c.loop-some.invariant in
    let next : chunks_size c.next.new.self ≡ 8 = steps.0 ∙ size in
    (omega arith, tt, next, some_more c.args.characters c.args.k c.requires.0 c.requires.1 c.requires.2 _ _ l steps.1.0 so_far (rw c.joined.ensures at c.push.ensures))
