use Rattle.std.proofs.Common.{length, take}
use Rattle.check_state.specs.Initialized.{InitializedBelow}
use Rattle.check_state.specs.PieceStates.{changes_bytes}
use Rattle.check_state.specs.Internal.Tables.{IsLast}
use Rattle.check_state.proofs.initialized.first_load_hazard.Given as goal

abbrev pub invariant-loop-j : goal.invariant-loop-j
invariant-loop-j l = record {
  changed : IsLast (changes_bytes l.view) (length l.view.pieces) (take l.j l.accesses) l.changed;
  below : InitializedBelow l.view l.accesses l.j;
}
