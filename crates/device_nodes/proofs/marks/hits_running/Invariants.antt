use Rattle.std.proofs.Common.{◌≡◌, false, get_or}
use Rattle.device_nodes.proofs.marks.hits_running.Given as goal
use Rattle.device_nodes.specs.Internal.Blocked.{some_below}
use Rattle.device_model.specs.Ready.{hits}

abbrev pub invariant-loop-i : goal.invariant-loop-i
invariant-loop-i l = some_below (λ k. hits l.view l.n (get_or l.running.nodes k 0)) l.i ≡ false
