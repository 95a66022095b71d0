-- Views that are wholly alike are sound alike.
use Rattle.std.proofs.Common.{ℕ, List, sym, subst}
use Rattle.check_access.specs.Views.{View, node_accesses_of}
use Rattle.check_program.specs.Sound.{Sound}
use Rattle.check_state.specs.Initialized.{Initialized}
use Rattle.check_state.specs.StateValid.{StateValid}
use Rattle.law_alike.proofs.Orders.{turned_nodes, least_on}
use Rattle.law_alike.proofs.States.{accesses_same, state_on, initialized_on}
use Rattle.law_alike.proofs.Transport.{turned, alike_synchronized}
use Rattle.law_alike.specs.Laws.{SoundAlike}
use Rattle.law_alike.specs.Wholly.{WhollyAlike}

pub wholly_turned : (V W : View) → WhollyAlike V W → WhollyAlike W V
wholly_turned V W K = record {
  tied = turned V W K.tied;
  nodes = turned_nodes V.nodes W.nodes K.nodes;
  pieces = sym K.pieces;
  imported = sym K.imported;
  families = sym K.families;
}

pub sound_on : (V W : View) → WhollyAlike V W → (order : List ℕ) → Sound V order → Sound W order
sound_on V W K order S = record {
  order_is = least_on V.nodes W.nodes K.nodes order S.order_is;
  synchronized = (alike_synchronized V W K.tied).0 S.synchronized;
  state_valid = subst (StateValid W) (accesses_same V W K order) (state_on V W K (node_accesses_of V order) S.state_valid);
  initialized = subst (Initialized W) (accesses_same V W K order) (initialized_on V W K (node_accesses_of V order) S.initialized);
}

pub sound_alike : SoundAlike
sound_alike V W K order = (sound_on V W K order, sound_on W V (wholly_turned V W K) order)
