use Rattle.std.proofs.Common.{◌≡◌, ◌&&◌, ◌==◌, not, false, get_or}
use Rattle.device_nodes.proofs.marks.is_torn.Given as goal
use Rattle.device_nodes.specs.Internal.Blocked.{some_below}
use Rattle.device_model.specs.Ready.{stores_over}

abbrev pub invariant-loop-i : goal.invariant-loop-i
invariant-loop-i l = some_below (λ k. not (get_or l.running.nodes k 0 == l.n) && stores_over l.view l.piece (get_or l.running.nodes k 0)) l.i ≡ false
