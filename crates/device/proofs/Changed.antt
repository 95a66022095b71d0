-- A device of which some fields change stays kept, where they have what the others ask of them.
use Rattle.std.proofs.Common.{◌≡◌, ◌∙◌, ℕ, List, length, Option, Vec, Global, vec_len, sym, subst}
use Rattle.std.specs.Arc.{arc_value}
use Rattle.std.specs.Prelude.{vec_capacity}
use Rattle.base.specs.declared.event.Event.{Event}
use Rattle.device_cache.specs.Tables.{Table}
use Rattle.device_nodes.specs.Controls.{Control}
use Rattle.device.specs.Internal.Kept.{device_in, IsKept}
use Rattle.device.specs.Internal.Fields.{HasState, HasRoom}
use Rattle.device.specs.Internal.Tables.{FitsProgram}
use Rattle.device.specs.declared.device.Device.TheInside.{Inside}
use Rattle.device.specs.declared.pending.Pending.{Pending}
use Rattle.device_model.specs.Coming.{AreEnabled}
use Rattle.device_model.specs.Devices.{state_of}
use Rattle.device_model.specs.States.{State}

module _ (i : Inside) (K : IsKept i) (control : Control) (table : Table) (pending : Vec (Option Pending) Global) (reads : Vec (List ℕ) Global) (history : Vec Event Global) (moves : ℕ) where
  pub kept_with : control.view ≡ i.control.view → length pending.items ≡ length i.pending.items → FitsProgram table (arc_value i.program) i.fill → (r : State) → state_of (device_in (record i { control = control; table = table; pending = pending; reads = reads; history = history; moves = moves })) ≡ r → HasState (arc_value i.program) control table pending.items reads.items r → HasRoom (arc_value i.program) r moves table.cuts_left table.stores_left (vec_len history) (vec_capacity history) → AreEnabled (arc_value i.program) i.fill history.items (length history.items) → IsKept (record i { control = control; table = table; pending = pending; reads = reads; history = history; moves = moves })
  kept_with view places fits r is has room came = record {
    faultless = K.faultless;
    sound = K.sound;
    small = K.small;
    obeys = K.obeys;
    view = view ∙ K.view;
    shapes = K.shapes;
    places = places ∙ K.places;
    table = fits;
    state = subst (HasState (arc_value i.program) control table pending.items reads.items) (sym is) has;
    came = came;
    room = subst (λ (z : State). HasRoom (arc_value i.program) z moves table.cuts_left table.stores_left (vec_len history) (vec_capacity history)) (sym is) room;
  }
