use Rattle.check_state.specs.Internal.Tables.{PutWhere}
use Rattle.check_state.proofs.Tables.{among}
use Rattle.check_state.proofs.table.Table.put_over.Given as goal

abbrev pub invariant-loop-p : goal.invariant-loop-p
invariant-loop-p l = PutWhere (among l.p-items l.p-index) l.node_access l.initial.self l.self
