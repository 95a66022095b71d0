use Rattle.std.proofs.Common.{◌+◌, ◌*◌}
use Rattle.base_first.proofs.Moves.{Filled, put_of}
use Rattle.base_first.proofs.rows.put.Given as goal

abbrev pub invariant-loop-c : goal.invariant-loop-c
invariant-loop-c l = Filled l.fn.numbers l.numbers (l.fn.i * l.fn.width + l.fn.first) l.c (put_of l.fn.numbers (l.fn.i * l.fn.width + l.fn.first) l.fn.set l.fn.number)
