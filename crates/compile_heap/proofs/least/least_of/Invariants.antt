use Rattle.std.proofs.Common.{◌≡◌, ◌≤◌, ◌+◌, ◌%◌}
use Rattle.compile_heap.specs.Pairs.{has}
use Rattle.compile_heap.specs.Placing.{granule}
use Rattle.compile_heap.specs.Internal.Moving.{IsPast, IsTaken}
use Rattle.compile_heap.proofs.least.least_of.Given as goal

abbrev pub invariant-loop-j : goal.invariant-loop-j
invariant-loop-j l = record {
  aligned : l.offset % granule ≡ 0;
  near : l.offset ≤ l.top + 255;
  taken : IsTaken l.sizes (has l.ordered) l.offsets l.placed l.i l.offset;
  past : IsPast l.sizes (has l.ordered) l.offsets l.placed l.j-index l.i l.offset;
}
