use Rattle.std.proofs.Common.{◌≡◌, ℕ, ◌<◌}
use Rattle.check_table.specs.Channels.{channel_at}
use Rattle.check_table.proofs.table.OrderTable.column.Given as goal

abbrev pub invariant-loop-t : goal.invariant-loop-t
invariant-loop-t l = (t : ℕ) → t < l.t → (channel_at l.fn.self.channels.items t).stage.0 ≡ l.fn.stage.0 → ⊥
