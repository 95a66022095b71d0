use Rattle.std.proofs.Common.{◌≡◌}
use Rattle.check_order.specs.Internal.Tables.{links_until}
use Rattle.check_order.proofs.signals.links_of.Given as goal

abbrev pub invariant-loop-n : goal.invariant-loop-n
invariant-loop-n l = l.links ≡ links_until l.nodes l.n
