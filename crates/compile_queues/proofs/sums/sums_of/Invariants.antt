use Rattle.std.proofs.Common.{length}
use Rattle.compile_queues.specs.Internal.Spans.{steps}
use Rattle.compile_queues.specs.Internal.Sweep.{AreOn, AreSums}
use Rattle.compile_queues.proofs.sums.sums_of.Given as goal

abbrev pub invariant-loop-d : goal.invariant-loop-d
invariant-loop-d l = record {
  sums : AreSums (steps l.queues l.work.uses l.spans) l.work.costs l.sums l.d;
  on : AreOn l.queues l.sums l.on.items (length l.work.families) l.d;
}
