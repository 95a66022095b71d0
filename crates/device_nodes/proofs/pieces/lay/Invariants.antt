use Rattle.std.proofs.Common.{◌≡◌, length}
use Rattle.device_nodes.proofs.Walking.{LaidFrom}
use Rattle.device_nodes.proofs.pieces.lay.Given as goal

abbrev pub invariant-loop-access : goal.invariant-loop-access
invariant-loop-access l = record {
  size : length l.layouts ≡ length l.initial.layouts;
  laid : LaidFrom l.access-items l.access-index l.initial.layouts l.layouts;
}
