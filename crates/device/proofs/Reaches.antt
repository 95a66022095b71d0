-- What a device has of the pieces that a command touches.
use Rattle.std.proofs.Common.{◌≡◌, ℕ, ◌^◌, ◌<◌, List, [], ◌∷◌, length, map, Bool, true, Some, if◌then◌else◌, sym, ap, ◌∙◌, subst, arith}
use Rattle.std.specs.Arc.{arc_value}
use Rattle.std.specs.List.{All}
use Rattle.std.specs.Prelude.{replicate}
use Rattle.base.proofs.Absence.{some_same}
use Rattle.base.specs.Shapes.{bytes_of}
use Rattle.base.specs.declared.op.Op.{Op}
use Rattle.base.specs.declared.shape.Shape.{Shape}
use Rattle.device_cache.specs.Effects.{load}
use Rattle.device_cache.specs.Lines.{range}
use Rattle.device_cache.specs.Tables.{InMemory, caches_of}
use Rattle.check_program.specs.Apart.{op_at}
use Rattle.device_nodes.specs.Controls.{Agrees}
use Rattle.device.proofs.Facts.{piece_small}
use Rattle.device.proofs.Runnable.{loads_run, room_is}
use Rattle.device.proofs.Sights.{takes}
use Rattle.device.proofs.Touching.{formed, agent_known, agent_small, piece_known, stores_there}
use Rattle.device.specs.Internal.Kept.{device_in, IsKept}
use Rattle.device.specs.Internal.Loads.{store_size, IsRunnable, IsWork}
use Rattle.device.specs.declared.device.Device.TheInside.{Inside}
use Rattle.device.specs.declared.work.Work.{Work}
use Rattle.device_model.proofs.Formed.{Formed}
use Rattle.device_model.specs.Agents.{agent_of}
use Rattle.device_model.specs.Devices.{Device, state_of, view_in}
use Rattle.device_model.specs.Outputs.{no_old}
use Rattle.device_model.specs.Ready.{is_command, kind_at, loads_undefined}
use Rattle.device_model.specs.States.{State}
use Rattle.device_model.specs.Steps.{store_of, loaded_by}
use Rattle.program.specs.Entries.{entries_of}
use Rattle.program.specs.Obeys.{EntryObeys}
use Rattle.program.specs.Rules.{shapes_of}
use Rattle.program.specs.declared.program.Piece.{Piece}
use Rattle.program.specs.declared.rule.Rule.{Rule}
use Rattle.check_access.specs.ValidView.{Has}
use Rattle.check_access.specs.Views.{View, view_of, loads_of, piece_at}
use Rattle.check_access.specs.declared.access.Access.{Access}

module _ (i : Inside) (K : IsKept i) (d : Device) (is : device_in i ≡ d) (n : ℕ) (command : is_command (kind_at (view_in d) n) ≡ true) where
  module _ (a : Access) (has : Has (view_in d) n a) where
    has_in : Has (view_of (arc_value i.program)) n a
    has_in = subst (λ (d : Device). Has (view_in d) n a) (sym is) has

    command_in : is_command (kind_at (view_of (arc_value i.program)) n) ≡ true
    command_in = subst (λ (d : Device). is_command (kind_at (view_in d) n) ≡ true) (sym is) command

    there : a.piece < length (arc_value i.program).pieces
    there = piece_known (arc_value i.program) K.faultless K.small n a has_in

    pub in_view : (v : View) → v ≡ i.control.view → a.piece < length v.pieces
    in_view v e = subst (λ (v : View). a.piece < length v.pieces) (sym (e ∙ K.view)) there

    pub in_agents : agent_of a.kind < i.table.agents
    in_agents = omega (arith, agent_known (arc_value i.program) K.faultless K.small n a has_in command_in, K.table.agents)

    pub agent_fits : agent_of a.kind < 2 ^ 32
    agent_fits = omega (arith, agent_small (arc_value i.program) K.faultless K.small n a has_in command_in)

    -- the piece as it is read
    module _ (v : View) (view : v ≡ i.control.view) (x : Piece) (read : x ≡ piece_at v a.piece) where
      pub piece_read : x ≡ piece_at (view_of (arc_value i.program)) a.piece
      piece_read = read ∙ ap (λ (v : View). piece_at v a.piece) (view ∙ K.view)

      pub piece_fits : bytes_of x.shape < 2 ^ 32
      piece_fits = omega (arith, ap (λ (x : Piece). bytes_of x.shape) piece_read, piece_small (arc_value i.program) K.small a.piece there)

      pub in_memory : InMemory i.table x.memory x.offset (bytes_of x.shape)
      in_memory = subst (λ (x : Piece). InMemory i.table x.memory x.offset (bytes_of x.shape)) (sym piece_read) (K.table.cuts.pieces a.piece there).within

      -- what a load gives
      pub is_taken : (undefined : Bool) (g : ℕ) (junk : List ℕ) → ((s : State) → Agrees i.control s → undefined ≡ loads_undefined i.control.view s n a) → g ≡ agent_of a.kind → junk ≡ replicate (bytes_of x.shape) i.fill → (if undefined then junk else load g (range x.memory x.offset (bytes_of x.shape)) (caches_of i.table)) ≡ loaded_by (view_in d) (state_of d) n (d.fill ∷ []) a
      is_taken undefined g junk test agent filled =
          let V = view_of (arc_value i.program) in
          let s = state_of (device_in i) in
          let C = caches_of i.table in
          let p = piece_at V a.piece in
          let within = K.table.cuts.pieces a.piece there in
          ap (λ (xs : List ℕ). if undefined then xs else load g (range x.memory x.offset (bytes_of x.shape)) C) filled
          ∙ ap (λ g. if undefined then replicate (bytes_of x.shape) i.fill else load g (range x.memory x.offset (bytes_of x.shape)) C) agent
          ∙ ap (λ (x : Piece). if undefined then replicate (bytes_of x.shape) i.fill else load (agent_of a.kind) (range x.memory x.offset (bytes_of x.shape)) C) piece_read
          ∙ takes (arc_value i.program) C s K.state.bytes n i.fill a (omega (arith, within.within.within, K.table.sizes p.memory)) undefined (sym (test s K.state.agrees ∙ ap (λ (v : View). loads_undefined v s n a) K.view))
          ∙ ap (λ (d : Device). loaded_by (view_in d) (state_of d) n (d.fill ∷ []) a) is

  module _ (lt : n < length (view_in d).nodes) where
    pub has_store : Has (view_in d) n (store_of (view_in d) n)
    has_store = subst (λ (d : Device). n < length (view_in d).nodes → is_command (kind_at (view_in d) n) ≡ true → Has (view_in d) n (store_of (view_in d) n)) is (λ lt command. stores_there (arc_value i.program) K.faultless K.small n lt command) lt command

    obeying : (rule : Rule) → All (EntryObeys rule d.program) (entries_of d.program)
    obeying = subst (λ (d : Device). (rule : Rule) → All (EntryObeys rule d.program) (entries_of d.program)) is K.obeys

    module _ (op : Op ℕ) (at : op_at d.program n ≡ Some op) (shapes : List Shape) (shapes_are : shapes ≡ shapes_of d.program) where
      pub runs_on : (loaded : List (List ℕ)) → loaded ≡ map (loaded_by (view_in d) (state_of d) n (d.fill ∷ [])) (loads_of (view_in d) n) → IsRunnable shapes op loaded
      runs_on loaded e = subst (λ (shapes : List Shape). IsRunnable shapes op loaded) (sym shapes_are) (subst (IsRunnable (shapes_of d.program) op) (sym e) (loads_run d.program obeying n lt command op at (state_of d) (d.fill ∷ [])))

      -- what is computed of that, of the operation as it is found
      pub works_on : (loaded : List (List ℕ)) (work : Work) → IsWork shapes op loaded work → (other : Op ℕ) → op_at d.program n ≡ Some other → IsWork (shapes_of d.program) other loaded work
      works_on loaded work W other here = subst (λ (shapes : List Shape). IsWork shapes other loaded work) shapes_are (subst (λ (own : Op ℕ). IsWork shapes own loaded work) (some_same (sym at ∙ here)) W)

      pub room_on : (room : List ℕ) → room ≡ replicate (store_size (view_in d) n) 0 → room ≡ no_old shapes op
      room_on room e =
          let F = subst (λ (d : Device). Formed (view_in d)) is (formed (arc_value i.program) K.faultless K.small n) in
          e ∙ room_is d.program obeying n lt command op at F ∙ ap (λ (shapes : List Shape). no_old shapes op) (sym shapes_are)

    -- the store as it is found
    module _ (v : View) (view : v ≡ i.control.view) (a : Access) (found : a ≡ store_of v n) where
      found_is : a ≡ store_of (view_in d) n
      found_is = found ∙ ap (λ (v : View). store_of v n) (view ∙ K.view ∙ ap (λ (d : Device). view_in d) is)

      pub store_in_view : a.piece < length v.pieces
      store_in_view = subst (λ (a : Access). a.piece < length v.pieces) (sym found_is) (in_view (store_of (view_in d) n) has_store v view)

      pub store_sized : (x : Piece) → x ≡ piece_at v a.piece → (bytes_of x.shape < 2 ^ 32) × (bytes_of x.shape ≡ store_size (view_in d) n)
      store_sized x read =
          let at : x ≡ piece_at v (store_of (view_in d) n).piece = read ∙ ap (λ (a : Access). piece_at v a.piece) found_is in
          (piece_fits (store_of (view_in d) n) has_store v view x at, ap (λ (x : Piece). bytes_of x.shape) (at ∙ ap (λ (v : View). piece_at v (store_of (view_in d) n).piece) (view ∙ K.view ∙ ap (λ (d : Device). view_in d) is)))
