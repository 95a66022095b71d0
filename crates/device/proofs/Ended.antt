-- What a device has of a command that ends.
use Rattle.std.proofs.Common.{◌≡◌, ℕ, ◌<◌, List, [], ◌∷◌, length, Bool, true, false, Option, Some, None, vec_len, if◌then◌else◌, sym, ap, ◌∙◌, subst, arith}
use Rattle.std.specs.Arc.{arc_value}
use Rattle.std.specs.Prelude.{replicate, IfSome, IfNone, vec_capacity}
use Rattle.std.proofs.lemmas.List.{length-replicate}
use Rattle.base.specs.Operands.{destination_of}
use Rattle.base.specs.Shapes.{bytes_of, shape_at}
use Rattle.base.specs.declared.op.Op.{Op}
use Rattle.base.specs.declared.shape.Shape.{Shape}
use Rattle.check_program.specs.Apart.{op_at}
use Rattle.device_nodes.specs.Controls.{phase_of, mark_of}
use Rattle.device.proofs.Events.{room_for_begun}
use Rattle.device.proofs.Keeping.{begun_is, not_both}
use Rattle.device.proofs.Runnable.{room_is}
use Rattle.device.proofs.Stored.{begun_inside, not_none, is_pending, made_is}
use Rattle.device.proofs.Touching.{formed, agent_known, piece_known, stores_there}
use Rattle.device.specs.Internal.Kept.{device_in, IsKept}
use Rattle.device.specs.Internal.Loads.{store_size, pending_at, IsWork, IsPending}
use Rattle.device.specs.Internal.Fields.{node_count}
use Rattle.device.specs.Internal.Tables.{IsCutOut}
use Rattle.device.specs.declared.device.Device.TheInside.{Inside}
use Rattle.device.specs.declared.pending.Pending.{Pending}
use Rattle.check_order.specs.Edges.{is_host}
use Rattle.device_model.proofs.Cases.{not_host}
use Rattle.device_model.specs.Agents.{agent_of, piece_range}
use Rattle.device_model.specs.Devices.{state_of}
use Rattle.device_model.specs.Outputs.{no_old, stored_by}
use Rattle.device_model.specs.Ready.{kind_at}
use Rattle.device_model.specs.States.{is_begun}
use Rattle.device_model.specs.Steps.{store_of, made}
use Rattle.device_model.specs.declared.phase.Phase.TheVariants.{Begun}
use Rattle.program.specs.Rules.{shapes_of}
use Rattle.check_access.specs.ValidView.{Has}
use Rattle.check_access.specs.Views.{View, view_of}

module _ (i : Inside) (K : IsKept i) (n : ℕ) (begun : is_begun (phase_of i.control n) ≡ true) where
  pub begun_in : is_begun ((state_of (device_in i)).phase n) ≡ true
  begun_in = ap is_begun (sym (K.state.agrees.phase n)) ∙ begun

  pub pending_there : n < length i.pending.items
  pending_there = begun_inside (arc_value i.program) i.pending.items (state_of (device_in i)) K.state.holds n begun_in

  pub node_there : n < node_count (arc_value i.program)
  node_there = omega (arith, pending_there, K.places)

  pub something : pending_at i.pending.items n ≡ None → ⊥
  something none = not_none (arc_value i.program) i.pending.items (state_of (device_in i)) K.state.holds n none begun_in

  module _ (h : Pending) (is : Some h ≡ pending_at i.pending.items n) where
    pub pending_is : IsPending (arc_value i.program) (state_of (device_in i)) n h
    pending_is = is_pending (arc_value i.program) i.pending.items (state_of (device_in i)) K.state.holds n h is

    pub is_no_read : is_host (kind_at (view_of (arc_value i.program)) n) ≡ false
    is_no_read = not_both (is_host (kind_at (view_of (arc_value i.program)) n)) (λ e. not_host (kind_at (view_of (arc_value i.program)) n) pending_is.command e)

    -- what the operation needs
    module _ (op : Op ℕ) (at : op_at (arc_value i.program) n ≡ Some op) (shapes : List Shape) (same : shapes ≡ i.shapes) where
      pub pending_works : IsWork shapes op h.loaded h.work
      pending_works = subst (λ (shapes : List Shape). IsWork shapes op h.loaded h.work) (sym (same ∙ K.shapes)) (pending_is.work op at)

      zeros : replicate (store_size (view_of (arc_value i.program)) n) 0 ≡ no_old (shapes_of (arc_value i.program)) op
      zeros = room_is (arc_value i.program) K.obeys n node_there pending_is.command op at (formed (arc_value i.program) K.faultless K.small n)

      pub pending_room : h.room ≡ no_old shapes op
      pending_room = pending_is.room ∙ zeros ∙ ap (λ (shapes : List Shape). no_old shapes op) (sym (same ∙ K.shapes))

      sized : bytes_of (shape_at shapes (destination_of op)) ≡ store_size (view_of (arc_value i.program)) n
      sized =
          ap (λ (shapes : List Shape). bytes_of (shape_at shapes (destination_of op))) (same ∙ K.shapes)
          ∙ sym (length-replicate (bytes_of (shape_at (shapes_of (arc_value i.program)) (destination_of op))) 0)
          ∙ sym (ap length zeros)
          ∙ length-replicate (store_size (view_of (arc_value i.program)) n) 0

      -- what is stored is what the state says
      module _ (bytes : List ℕ) (v : View) (view : v ≡ i.control.view) where
        pub is_made : (junk : Option ℕ) (marked : Bool) → marked ≡ mark_of i.control n → junk ≡ (if marked then Some i.fill else None) → IfSome junk (λ byte. bytes ≡ replicate (length h.room) byte) → IfNone junk (bytes ≡ stored_by shapes op h.loaded) → bytes ≡ made (arc_value i.program) (state_of (device_in i)) n (i.fill ∷ [])
        is_made junk marked mark is some none =
            made_is (arc_value i.program) (state_of (device_in i)) n i.fill h pending_is op at bytes junk
            (is ∙ ap (λ b. if b then Some i.fill else None) (mark ∙ K.state.agrees.mark n)) some
            (subst (λ (shapes : List Shape). IfNone junk (bytes ≡ stored_by shapes op h.loaded)) (same ∙ K.shapes) none)

        pub len_is : length bytes ≡ bytes_of (shape_at shapes (destination_of op)) → length bytes ≡ (piece_range v (store_of v n).piece).len
        len_is long = long ∙ sized ∙ ap (λ (v : View). store_size v n) (sym (view ∙ K.view))

    -- where it is stored
    module _ (v : View) (view : v ≡ i.control.view) where
      has : Has (view_of (arc_value i.program)) n (store_of (view_of (arc_value i.program)) n)
      has = stores_there (arc_value i.program) K.faultless K.small n node_there pending_is.command

      pub store_piece : (store_of v n).piece < length v.pieces
      store_piece = subst (λ (v : View). (store_of v n).piece < length v.pieces) (sym (view ∙ K.view)) (piece_known (arc_value i.program) K.faultless K.small n (store_of (view_of (arc_value i.program)) n) has)

      pub store_agent : agent_of (store_of v n).kind < i.table.agents
      store_agent = omega (arith, ap (λ (v : View). agent_of (store_of v n).kind) (view ∙ K.view), agent_known (arc_value i.program) K.faultless K.small n (store_of (view_of (arc_value i.program)) n) has pending_is.command, K.table.agents)

      pub store_cut : IsCutOut i.table (piece_range v (store_of v n).piece)
      store_cut = subst (λ (v : View). IsCutOut i.table (piece_range v (store_of v n).piece)) (sym (view ∙ K.view)) (K.table.cuts.pieces (store_of (view_of (arc_value i.program)) n).piece (piece_known (arc_value i.program) K.faultless K.small n (store_of (view_of (arc_value i.program)) n) has))

  pub phase_is : (state_of (device_in i)).phase n ≡ Begun
  phase_is = begun_is ((state_of (device_in i)).phase n) begun_in

  -- room for its event and its store
  pub room_there : (vec_len i.history < vec_capacity i.history) × (0 < i.table.stores_left)
  room_there = room_for_begun (arc_value i.program) (state_of (device_in i)) i.moves i.table.cuts_left i.table.stores_left (vec_len i.history) (vec_capacity i.history) K.room n node_there phase_is
