use Rattle.std.proofs.Common.{length}
use Rattle.base.specs.Operands.{operands_of}
use Rattle.program.proofs.Within.{below_test}
use Rattle.program.proofs.range.has_operands.Goals as goal

pub returns-clause-value : goal.returns-clause-value
returns-clause-value c = below_test (length c.args.shapes.now) (operands_of c.args.op.now) c.op_within.result c.op_within.ensures
