use Rattle.std.proofs.Common.{◌*◌}
use Rattle.base_first.proofs.Moves.{Filled, same_as}
use Rattle.base_first.proofs.rows.copy_row.Given as goal

abbrev pub invariant-loop-e : goal.invariant-loop-e
invariant-loop-e l = Filled l.fn.numbers l.numbers (l.fn.i * l.fn.width) l.e (same_as l.fn.numbers l.fn.width l.fn.j)
