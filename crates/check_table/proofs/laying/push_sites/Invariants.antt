use Rattle.check_table.specs.Internal.Laying.{WithSites}
use Rattle.check_table.proofs.laying.push_sites.Given as goal

abbrev pub invariant-loop-t : goal.invariant-loop-t
invariant-loop-t l = WithSites l.fn.channels l.t l.fn.queue l.fn.group l.fn.points.items l.all.items
