use Rattle.std.proofs.Common.{◌≡◌, ◌<◌, ℕ, get_or, false}
use Rattle.device_nodes.proofs.control.Control.some_might_come.Given as goal
use Rattle.device_nodes.specs.Controls.{is_ready}
use Rattle.check_access.specs.Views.{queue_at}

abbrev pub invariant-loop-i : goal.invariant-loop-i
invariant-loop-i l = (k : ℕ) → k < l.i → queue_at l.self.view (get_or l.self-inside.needs.loose k 0) ≡ l.queue → is_ready l.self (get_or l.self-inside.needs.loose k 0) ≡ false
