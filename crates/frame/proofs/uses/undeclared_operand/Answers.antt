use Rattle.base.proofs.Walks.{operand_on}
use Rattle.base.specs.Operands.{operands_of}
use Rattle.frame.proofs.uses.undeclared_operand.Goals as goal
use Rattle.frame.specs.Uses.{undeclared_at, undeclared_operand}

pub loop-j-preserved : goal.loop-j-preserved
loop-j-preserved c = operand_on (undeclared_at c.args.pass.now c.args.p c.args.k c.args.op.now) (operands_of c.args.op.now) c.loop-j.j c.touch_count-j-end.result c.operand.result c.undeclared_at.result (undeclared_operand c.args.pass.now c.args.p c.args.k c.args.op.now) c.loop-j-test.true c.touch_count-j-end.ensures c.operand.ensures c.undeclared_at.ensures c.in_default.is c.loop-j.invariant
