use Rattle.std.proofs.Common.{rules}
use Rattle.frame.specs.Units.{unit_of}
use Rattle.frame.proofs.numbers.numbered_op.Goals as goal

pub returns : goal.returns
returns c = c.mapped.ensures (unit_of c.args.table.now) (λ x y gives. search rules)
