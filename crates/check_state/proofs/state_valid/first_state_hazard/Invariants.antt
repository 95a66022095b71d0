use Rattle.std.proofs.Common.{length, take}
use Rattle.check_state.specs.StateValid.{StateValidBelow}
use Rattle.check_state.specs.Internal.Tables.{IsPast}
use Rattle.check_state.proofs.state_valid.first_state_hazard.Given as goal

abbrev pub invariant-loop-j : goal.invariant-loop-j
invariant-loop-j l = record {
  past : IsPast (length l.view.pieces) (take l.j l.accesses) l.past;
  below : StateValidBelow l.view l.accesses l.j;
}
