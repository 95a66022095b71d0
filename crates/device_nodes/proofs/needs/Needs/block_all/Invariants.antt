use Rattle.std.proofs.Common.{◌≡◌, ◌==◌, ◌<◌, ℕ, get_or, true, false}
use Rattle.vk.specs.Sets.{meets}
use Rattle.device_nodes.proofs.needs.Needs.block_all.Given as goal
use Rattle.device_nodes.specs.Internal.Needs.{no_need}

abbrev pub invariant-loop-i : goal.invariant-loop-i
invariant-loop-i l = (k : ℕ) → k < l.i → (get_or l.self.list k no_need).queue ≡ l.queue → ((get_or l.self.list k no_need).stages.0 == 0) ≡ false → meets l.blocked.0 (get_or l.self.list k no_need).stages.0 ≡ true
