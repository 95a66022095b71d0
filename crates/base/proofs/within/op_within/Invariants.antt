use Rattle.std.specs.Prelude.{◌<◌}
use Rattle.std.specs.List.{AllWithin}
use Rattle.base.specs.Operands.{operands_of}
use Rattle.base.proofs.within.op_within.Given as goal

abbrev pub invariant-loop-k : goal.invariant-loop-k
invariant-loop-k l = AllWithin (λ r. r < l.count) (operands_of l.op) 0 l.k
