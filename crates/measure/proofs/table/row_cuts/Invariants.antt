use Rattle.std.proofs.Common.{◌≡◌, ◌≤◌}
use Rattle.std.specs.List.{All}
use Rattle.measure.specs.Internal.Tables.{row}
use Rattle.measure.proofs.table.row_cuts.Given as goal

abbrev pub invariant-loop-k : goal.invariant-loop-k
invariant-loop-k l = All (λ c. (c.0 ≡ 0) × (c.1 ≤ row)) l.cuts.items
