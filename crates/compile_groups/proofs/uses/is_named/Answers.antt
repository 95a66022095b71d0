use Rattle.base.specs.Operands.{operands_of}
use Rattle.compile_groups.proofs.Operands.{named_here}
use Rattle.compile_groups.proofs.uses.is_named.Goals as goal

pub returns-then-operand-unit : goal.returns-then-operand-unit
returns-then-operand-unit c = named_here (operands_of c.args.op.now) c.args.k c.loop-j.j c.args.unit c.operand.result c.loop-j-test.true c.operand.ensures c.if-operand-unit.true
