use Rattle.check_table.specs.Internal.Laying.{IsLaying}
use Rattle.check_table.specs.Joined.{joined}
use Rattle.check_table.proofs.laying.lay_all.Given as goal

abbrev pub invariant-loop-k : goal.invariant-loop-k
invariant-loop-k l = IsLaying (joined l.fn.edges l.fn.joins) l.fn.order l.fn.channels l.fn.stages l.k l.line
