use Rattle.std.proofs.Common.{◌≡◌, take, map}
use Rattle.base.specs.Operands.{mapped}
use Rattle.frame.specs.Units.{unit_of}
use Rattle.frame.proofs.numbers.numbered_ops.Given as goal

abbrev pub invariant-loop-op : goal.invariant-loop-op
invariant-loop-op l = l.numbers ≡ map (mapped (unit_of l.table)) (take l.op-index l.ops)
