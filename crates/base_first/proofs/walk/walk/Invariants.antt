use Rattle.std.proofs.Common.{◌-◌, length}
use Rattle.base_first.specs.Internal.Walk.{Walked, IsNewest}
use Rattle.base_first.proofs.walk.walk.Given as goal

abbrev pub invariant-loop-i : goal.invariant-loop-i
invariant-loop-i l = record {
  walked : Walked l.points l.size.queues l.size.channels l.numbers l.groups (length l.points - l.i);
  newest : IsNewest l.points l.size.queues l.groups (length l.points - l.i);
}
