use Rattle.std.proofs.Common.{◌≡◌, ℕ, ◌≤◌, length}
use Rattle.compile_record.proofs.table.Table.grow.Given as goal
use Rattle.compile_record.specs.Internal.Tables.{step_at}

abbrev pub invariant-loop-place : goal.invariant-loop-place
invariant-loop-place l = record { size : l._place ≤ length l.self.steps; same : (n : ℕ) → step_at l.self n ≡ step_at l.fn.self n }
