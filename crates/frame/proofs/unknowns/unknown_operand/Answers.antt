use Rattle.base.proofs.Walks.{operand_on}
use Rattle.base.specs.Operands.{operands_of}
use Rattle.frame.proofs.unknowns.unknown_operand.Goals as goal
use Rattle.frame.specs.Unknowns.{unknown_at, unknown_operand}

pub loop-j-preserved : goal.loop-j-preserved
loop-j-preserved c = operand_on (unknown_at c.args.table.now c.args.p c.args.k c.args.op.now) (operands_of c.args.op.now) c.loop-j.j c.touch_count-j-end.result c.operand.result c.unknown_at.result (unknown_operand c.args.table.now c.args.p c.args.k c.args.op.now) c.loop-j-test.true c.touch_count-j-end.ensures c.operand.ensures c.unknown_at.ensures c.in_default.is c.loop-j.invariant
