-- The invariant: of the first k characters, all but those that are still to come are written.
use mathlib.Core.Path.{◌≡◌}
use lib.ListN.{take}
use Rattle.std.specs.Slice.Iter.{chunks_rest, chunks_size}
use Rattle.bank.proofs.PackedStrings.{Begun}
use Rattle.bank.proofs.writing.put_string.Given as goal

abbrev pub invariant-loop-some : goal.invariant-loop-some
invariant-loop-some l =
    let it = goal.iterator-loop-some in
    it.can_next l.some-iterator × it.is_finite l.some-iterator
    × (chunks_size l.some-iterator ≡ 8)
    × Begun l.initial.w (take l.k l.fn.characters) (chunks_rest l.some-iterator) l.w
