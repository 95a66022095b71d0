use Rattle.compile_heap.specs.Pairs.{has}
use Rattle.compile_heap.specs.Internal.Filling.{IsFilledUpTo}
use Rattle.compile_heap.proofs.placement.place.Given as goal

abbrev pub invariant-loop-i : goal.invariant-loop-i
invariant-loop-i l = IsFilledUpTo l.sizes (has l.ordered) l.i-items l.i-index l.offsets.items l.placed.items l.heap
