use Rattle.std.proofs.Common.{◌≡◌, drop}
use Rattle.base.specs.Operands.{operands_of}
use Rattle.base.specs.Walks.{first_in}
use Rattle.frame.proofs.uses.undeclared_operand.Given as goal
use Rattle.frame.specs.Uses.{undeclared_at}

abbrev pub invariant-loop-j : goal.invariant-loop-j
invariant-loop-j l = first_in (undeclared_at l.pass l.p l.k l.op) l.j (drop l.j (operands_of l.op)) ≡ first_in (undeclared_at l.pass l.p l.k l.op) 0 (operands_of l.op)
