use Rattle.std.proofs.Common.{◌≡◌, drop}
use Rattle.base.specs.Operands.{operands_of}
use Rattle.base.specs.Walks.{first_in}
use Rattle.frame.proofs.unknowns.unknown_operand.Given as goal
use Rattle.frame.specs.Unknowns.{unknown_at}

abbrev pub invariant-loop-j : goal.invariant-loop-j
invariant-loop-j l = first_in (unknown_at l.table l.p l.k l.op) l.j (drop l.j (operands_of l.op)) ≡ first_in (unknown_at l.table l.p l.k l.op) 0 (operands_of l.op)
