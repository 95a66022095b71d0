use Rattle.check_table.specs.Internal.Channels.{WithUsed}
use Rattle.check_table.specs.Joined.{joined}
use Rattle.check_table.proofs.channels.push_used.Given as goal

abbrev pub invariant-loop-i : goal.invariant-loop-i
invariant-loop-i l = WithUsed (joined l.fn.edges l.fn.joins) l.fn.way l.fn.stages l.i l.fn.channels.items l.all.items
