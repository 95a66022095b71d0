use Rattle.std.proofs.Common.{◌*◌}
use Rattle.base_first.proofs.Moves.{Filled, least_of}
use Rattle.base_first.proofs.rows.take_row.Given as goal

abbrev pub invariant-loop-e : goal.invariant-loop-e
invariant-loop-e l = Filled l.fn.numbers l.numbers (l.fn.i * l.fn.width) l.e (least_of l.fn.numbers l.fn.width l.fn.i l.fn.j)
