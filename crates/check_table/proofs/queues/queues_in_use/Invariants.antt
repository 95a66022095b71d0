use Rattle.check_table.specs.Tables.{HasQueues}
use Rattle.check_table.proofs.queues.queues_in_use.Given as goal

abbrev pub invariant-loop-used : goal.invariant-loop-used
invariant-loop-used l = HasQueues l.fn.edges l.used

abbrev pub decreases-loop-used : goal.decreases-loop-used
decreases-loop-used l = l.used
