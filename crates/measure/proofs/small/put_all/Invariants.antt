use Rattle.measure.specs.Internal.Tables.{HoldsRow}
use Rattle.measure.proofs.small.put_all.Given as goal

abbrev pub invariant-loop-k : goal.invariant-loop-k
invariant-loop-k l = HoldsRow l.table
