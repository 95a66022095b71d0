use Rattle.std.proofs.Common.{◌≡◌, ◌<◌, ◌≤◌, ℕ, get_or, true}
use Rattle.device_nodes.proofs.spans.first_open.Given as goal
use Rattle.device_model.specs.States.{is_done}
use Rattle.device_model.specs.declared.phase.Phase.TheVariants.{Idle}
use Rattle.check_access.specs.Views.{queue_at}

abbrev pub invariant-loop-n : goal.invariant-loop-n
invariant-loop-n l = (k : ℕ) → l.from ≤ k → k < l.n → queue_at l.view k ≡ l.queue → is_done (get_or l.phases k Idle) ≡ true
