-- A device as it is made.
use Rattle.std.proofs.Common.{◌≡◌, ◌∙◌, ℕ, ◌+◌, ◌*◌, ◌≤◌, List, [], length, map, true, None, vec_len, sym, ap, subst, arith}
use Rattle.std.specs.Arc.{arc_value}
use Rattle.std.specs.List.{All}
use Rattle.std.specs.Prelude.{replicate, vec_capacity}
use Rattle.std.proofs.lemmas.List.{length-replicate}
use Rattle.base.specs.declared.event.Event.{Event}
use Rattle.device_cache.specs.Effects as effects
use Rattle.device_cache.specs.Lines.{Bytes}
use Rattle.device_cache.specs.Tables.{caches_of}
use Rattle.check_program.specs.Sound.{IsSound}
use Rattle.device_nodes.specs.Controls.{Agrees}
use Rattle.device.proofs.Starting.{none_at, opens_state, opens_room}
use Rattle.device.specs.Internal.Kept.{device_in, IsKept}
use Rattle.device.specs.Internal.Loads.{pending_at}
use Rattle.device.specs.Internal.Opened.{opened_memory, room_of}
use Rattle.device.specs.Internal.Fields.{HasState, HasRoom, node_count}
use Rattle.device.specs.Internal.Tables.{FitsProgram}
use Rattle.device.specs.declared.device.Device.TheInside.{Inside}
use Rattle.device_model.specs.Coming.{AreEnabled}
use Rattle.device_model.specs.Devices.{opening, state_of, fresh}
use Rattle.device_model.specs.States.{State, opened}
use Rattle.program.specs.Entries.{entries_of}
use Rattle.program.specs.FirstFault.{first_fault}
use Rattle.program.specs.Obeys.{EntryObeys, IsSmall}
use Rattle.program.specs.Rules.{shapes_of}
use Rattle.program.specs.declared.rule.Rule.{Rule}
use Rattle.check_access.specs.Views.{view_of}

module _ (i : Inside) (count : ℕ) (history : i.history.items ≡ []) (opens : state_of (fresh (arc_value i.program) i.fill i.moves) ≡ opened (opening (arc_value i.program) i.fill)) where
  state_is : state_of (device_in i) ≡ opened (opening (arc_value i.program) i.fill)
  state_is = ap (λ (h : List Event). state_of (record { program = arc_value i.program; fill = i.fill; history = h; moves = i.moves })) history ∙ opens

  pub opens_kept : first_fault (arc_value i.program) ≡ None → (i.sound ≡ true → IsSound (arc_value i.program)) → IsSmall (arc_value i.program) → ((rule : Rule) → All (EntryObeys rule (arc_value i.program)) (entries_of (arc_value i.program))) → i.control.view ≡ view_of (arc_value i.program) → ((main : Bytes) → Agrees i.control (opened main)) → count ≡ node_count (arc_value i.program) → i.shapes ≡ shapes_of (arc_value i.program) → FitsProgram i.table (arc_value i.program) i.fill → caches_of i.table ≡ effects.opened (map (opened_memory i.fill) (arc_value i.program).memories) → 2 * i.moves ≤ i.table.cuts_left → i.table.stores_left ≡ count → i.pending.items ≡ replicate count None → i.reads.items ≡ map (room_of (view_of (arc_value i.program))) (arc_value i.program).readbacks → (2 * count + i.moves) + vec_len i.history ≤ vec_capacity i.history → IsKept i
  opens_kept faultless sound small obeys view agrees many shapes fits bytes cuts stores pending reads room =
      let program = arc_value i.program in
      record {
        faultless = faultless;
        sound = sound;
        small = small;
        obeys = obeys;
        view = view;
        shapes = shapes;
        places = ap length pending ∙ length-replicate count None ∙ many;
        table = fits;
        state = subst (HasState program i.control i.table i.pending.items i.reads.items) (sym state_is) (opens_state program i.fill i.control i.table i.pending.items i.reads.items (agrees (opening program i.fill)) bytes (λ n. ap (λ list. pending_at list n) pending ∙ none_at count n) reads);
        came = subst (λ (h : List Event). AreEnabled program i.fill h (length h)) (sym history) (λ k lt. absurd (omega (arith, lt)));
        room = subst (λ (s : State). HasRoom program s i.moves i.table.cuts_left i.table.stores_left (vec_len i.history) (vec_capacity i.history)) (sym state_is) (opens_room program i.fill i.moves i.table.cuts_left i.table.stores_left (vec_len i.history) (vec_capacity i.history) cuts (stores ∙ many) (omega (arith, room, many)));
      }
