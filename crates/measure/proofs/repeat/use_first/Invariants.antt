use Rattle.measure.specs.Internal.Tables.{HoldsImage}
use Rattle.measure.proofs.repeat.use_first.Given as goal

abbrev pub invariant-loop-k : goal.invariant-loop-k
invariant-loop-k l = HoldsImage l.table
