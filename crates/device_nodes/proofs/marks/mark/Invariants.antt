use Rattle.std.proofs.Common.{◌≡◌, length}
use Rattle.device_nodes.proofs.Marking.{MarkedUntil}
use Rattle.device_nodes.proofs.marks.mark.Given as goal

abbrev pub invariant-loop-i : goal.invariant-loop-i
invariant-loop-i l = record {
  size : length l.marked ≡ length l.initial.marked;
  marked : MarkedUntil l.view l.n l.running.nodes l.i l.initial.marked l.marked;
}
