-- An event of a node keeps the device.
use Rattle.std.proofs.Common.{◌≡◌, ◌∙◌, ℕ, ◌<◌, true, false, [], ◌∷◌, ◌++◌, List, length, Bool, Option, Vec, Global, vec_len, refl, sym, ap, subst}
use Rattle.std.specs.Arc.{arc_value}
use Rattle.std.specs.Prelude.{vec_capacity}
use Rattle.base.specs.declared.event.Event.{Event}
use Rattle.device_cache.specs.Tables.{Table}
use Rattle.device_nodes.specs.Controls.{Control}
use Rattle.device.proofs.Changed.{kept_with}
use Rattle.device.specs.Internal.Kept.{device_in, IsKept}
use Rattle.device.specs.Internal.Fields.{HasState, HasRoom}
use Rattle.device.specs.Internal.Tables.{FitsProgram}
use Rattle.device.specs.declared.device.Device.TheInside.{Inside}
use Rattle.device.specs.declared.pending.Pending.{Pending}
use Rattle.check_order.specs.Edges.{is_sync, is_host}
use Rattle.device_model.proofs.Cases.{not_host, sync_not_host}
use Rattle.device_model.proofs.Coming.{came_more}
use Rattle.device_model.proofs.Control.{ready_within, ready_first}
use Rattle.device_model.specs.Coming.{is_enabled, AreEnabled}
use Rattle.device_model.specs.Devices.{Device, state_of, view_in, did, is_ready}
use Rattle.device_model.specs.Ready.{is_command, kind_at}
use Rattle.device_model.specs.States.{is_idle, is_begun, State}
use Rattle.device_model.specs.declared.phase.Phase.{Phase}
use Rattle.device_model.specs.declared.phase.Phase.TheVariants.{Idle, Begun, Done}

pub idle_is : (p : Phase) → is_idle p ≡ true → p ≡ Idle
idle_is Idle e = refl
idle_is Begun e = cc
idle_is Done e = cc

pub idle_not_begun : (p : Phase) → p ≡ Idle → is_begun p ≡ false
idle_not_begun p e = ap is_begun e

pub begun_is : (p : Phase) → is_begun p ≡ true → p ≡ Begun
begun_is Idle e = cc
begun_is Begun e = refl
begun_is Done e = cc

pub not_both : (b : Bool) → (b ≡ true → ⊥) → b ≡ false
not_both true no_way = absurd (no_way refl)
not_both false no_way = refl

-- one more event
module _ (i : Inside) (event : Event) (r : State) (K : IsKept i) (is : state_of (did (device_in i) event) ≡ r) (control : Control) (table : Table) (pending : Vec (Option Pending) Global) (reads : Vec (List ℕ) Global) (history : Vec Event Global) (items : history.items ≡ i.history.items ++ event ∷ []) where
  pub new_state : state_of (device_in (record i { control = control; table = table; pending = pending; reads = reads; history = history })) ≡ r
  new_state = ap (λ (events : List Event). state_of (record { program = arc_value i.program; fill = i.fill; history = events; moves = i.moves })) items ∙ is

  -- the event could come
  came : is_enabled (arc_value i.program) (state_of (device_in i)) event ≡ true → AreEnabled (arc_value i.program) i.fill history.items (length history.items)
  came may = subst (λ (events : List Event). AreEnabled (arc_value i.program) i.fill events (length events)) (sym items) (came_more (device_in i) event K.came may)

  pub kept_event : is_enabled (arc_value i.program) (state_of (device_in i)) event ≡ true → control.view ≡ i.control.view → length pending.items ≡ length i.pending.items → FitsProgram table (arc_value i.program) i.fill → HasState (arc_value i.program) control table pending.items reads.items r → HasRoom (arc_value i.program) r i.moves table.cuts_left table.stores_left (vec_len history) (vec_capacity history) → IsKept (record i { control = control; table = table; pending = pending; reads = reads; history = history })
  kept_event may view places fits has room = kept_with i K control table pending reads history i.moves view places fits r new_state has room (came may)

-- what a ready node is
module _ (d : Device) (n : ℕ) (ready : is_ready d n ≡ true) where
  pub ready_inside : n < length (view_in d).nodes
  ready_inside = ready_within (view_in d) (state_of d) n ready

  pub ready_idle : (state_of d).phase n ≡ Idle
  ready_idle = idle_is ((state_of d).phase n) (ready_first (view_in d) (state_of d) n ready)

  pub command_no_read : is_command (kind_at (view_in d) n) ≡ true → is_host (kind_at (view_in d) n) ≡ false
  command_no_read e = not_both (is_host (kind_at (view_in d) n)) (λ h. not_host (kind_at (view_in d) n) e h)

  pub sync_no_read : is_sync (kind_at (view_in d) n) ≡ true → is_host (kind_at (view_in d) n) ≡ false
  sync_no_read e = not_both (is_host (kind_at (view_in d) n)) (λ h. sync_not_host (kind_at (view_in d) n) e h)
