-- A node that is ready, and how its event keeps the device.
use Rattle.std.proofs.Common.{◌≡◌, ◌∙◌, ℕ, ◌+◌, ◌-◌, ◌<◌, ◌≤◌, List, [], ◌∷◌, ◌++◌, length, map, get_or, slice_get, slice_set, true, false, Option, Some, None, Vec, Global, vec_len, refl, sym, ap, subst, arith}
use Rattle.std.specs.Arc.{arc_value}
use Rattle.std.specs.Prelude.{vec_capacity}
use Rattle.std.proofs.lemmas.Bool.{and_from}
use Rattle.std.proofs.lemmas.List.{length-set}
use Rattle.std.proofs.lemmas.Option.{slice_get-get_or, slice_get_within}
use Rattle.base.specs.declared.event.Event.{Event}
use Rattle.base.specs.declared.event.Event.TheVariants.{Begin, End, Sync, Host}
use Rattle.device_cache.specs.Effects as effects
use Rattle.device_cache.specs.Effects.{Caches}
use Rattle.device_cache.specs.Tables.{Table, caches_of, junk_of, Keeps}
use Rattle.device_nodes.specs.Controls as controls
use Rattle.device_nodes.specs.Controls.{Control, Agrees, phase_of}
use Rattle.device.proofs.Ended.{begun_in, pending_there, node_there, is_no_read, phase_is}
use Rattle.device.proofs.Events as events
use Rattle.device.proofs.Fitting.{still_fits}
use Rattle.device.proofs.Flushing.{synced_bytes}
use Rattle.device.proofs.Hosted.{read_at}
use Rattle.device.proofs.Keeping.{new_state, kept_event, idle_not_begun, ready_inside, ready_idle, command_no_read, sync_no_read}
use Rattle.device.proofs.Readiness.{agrees_ready}
use Rattle.device.specs.Internal.Kept.{device_in, IsKept}
use Rattle.device.specs.Internal.Loads.{IsPending, pending_at}
use Rattle.device.specs.Internal.Fields.{HasState, node_count}
use Rattle.device.specs.Internal.Syncs.{synced_caches}
use Rattle.device.specs.Internal.Tables.{HasBytes, Stays}
use Rattle.device.specs.Internal.Takes.{IsReserved}
use Rattle.device.specs.declared.device.Device.TheInside.{Inside}
use Rattle.device.specs.declared.pending.Pending.{Pending}
use Rattle.check_order.specs.Edges.{is_sync, is_host}
use Rattle.device_model.proofs.Control.{put_at}
use Rattle.device_model.specs.Agents.{agent_of, piece_range}
use Rattle.device_model.specs.Devices.{Device, state_of, did, is_ready, LoadsApart}
use Rattle.device_model.specs.Ready.{is_command, kind_at, read_node}
use Rattle.device_model.specs.Rounds.{MayGo, IsJob}
use Rattle.device_model.specs.Runs.{GoesOnBy}
use Rattle.device_model.specs.States.{is_begun, State}
use Rattle.device_model.specs.Steps.{store_of, loaded_by, made, begun, ended, synced, hosted}
use Rattle.device_model.specs.declared.phase.Phase.TheVariants.{Idle, Begun}
use Rattle.program.specs.FirstFault.{first_fault}
use Rattle.program.specs.declared.program.Program.{Program}
use Rattle.check_access.specs.ValidView.{ValidView}
use Rattle.check_access.specs.Views.{View, view_of, accesses_of, loads_of, queue_at}
use Rattle.check_access.specs.declared.access.Access.{Access}

-- a ready node: the control says so too, and there is room for its event
pub record IsReady (i : Inside) (n : ℕ) : Type 0 where
  pub ready : is_ready (device_in i) n ≡ true
  pub told : controls.is_ready i.control n ≡ true
  pub inside : n < node_count (arc_value i.program)
  pub idle : (state_of (device_in i)).phase n ≡ Idle
  pub fresh : is_begun ((state_of (device_in i)).phase n) ≡ false
  pub room : vec_len i.history < vec_capacity i.history

pub ready_in : (i : Inside) → IsKept i → {d : Device} → device_in i ≡ d → (n : ℕ) → is_ready d n ≡ true → IsReady i n
ready_in i K same n ready =
    let d = device_in i in
    let here : is_ready d n ≡ true = subst (λ (d : Device). is_ready d n ≡ true) (sym same) ready in
    let idle = ready_idle d n here in
    record {
      ready = here;
      told = agrees_ready i.control d K.view K.state.agrees n ∙ here;
      inside = ready_inside d n here;
      idle = idle;
      fresh = idle_not_begun ((state_of d).phase n) idle;
      room = events.room_for_idle (arc_value i.program) (state_of d) i.moves i.table.cuts_left i.table.stores_left _ _ K.room n (ready_inside d n here) idle;
    }

-- a read-back as it is read off the device's program, and its node
pub read_there : (i : Inside) → {d : Device} → device_in i ≡ d → (k : ℕ) → k < length d.program.readbacks → {found : Program} → found ≡ arc_value i.program → (p : ℕ) → p ≡ get_or found.readbacks k p → slice_get (arc_value i.program).readbacks k ≡ Some p
read_there i same k lt is p at = read_at (arc_value i.program) k (subst (λ (d : Device). k < length d.program.readbacks) (sym same) lt) _ is p at

pub read_ready : (i : Inside) → IsKept i → {d : Device} → device_in i ≡ d → (k : ℕ) → is_ready d (read_node d.program k) ≡ true → {found : Program} → found ≡ arc_value i.program → (n : ℕ) → n ≡ read_node found k → IsReady i n
read_ready i K same k ready is n node =
    let here = subst (λ (d : Device). is_ready d (read_node d.program k) ≡ true) (sym same) ready in
    ready_in i K {d = device_in i} refl n (ap (is_ready (device_in i)) (node ∙ ap (λ (p : Program). read_node p k) is) ∙ here)

module _ (i : Inside) (K : IsKept i) (n : ℕ) (next : Control) (view : next.view ≡ i.control.view) (history : Vec Event Global) (longer : vec_len history ≡ vec_len i.history + 1) (capacity : vec_capacity history ≡ vec_capacity i.history) (goes : (d : Device) (n : ℕ) → GoesOnBy d n) where
  -- a barrier, wait or signal takes effect
  pub kept_sync : {d : Device} → device_in i ≡ d → MayGo is_sync d n → ((s : State) (junk : List ℕ) → Agrees i.control s → Agrees next (synced i.control.view s n junk)) → (table : Table) → Stays i.table table → ((s : State) → Agrees i.control s → caches_of table ≡ synced_caches i.control.view s n (junk_of i.table) (caches_of i.table)) → ValidView i.control.view → history.items ≡ i.history.items ++ Sync n ∷ [] → IsKept (record i { control = next; table = table; history = history })
  kept_sync same may agrees table stays made shaped items =
      let program = arc_value i.program in
      let V = view_of program in
      let s = state_of (device_in i) in
      let junk = junk_of i.table in
      let list = accesses_of V n in
      let r = synced V s n (i.fill ∷ []) in
      let M = subst (λ (d : Device). MayGo is_sync d n) (sym same) may in
      let R = ready_in i K {d = device_in i} refl n M.ready in
      let not_host = sync_no_read (device_in i) n M.ready M.kind in
      let shape : ValidView V = subst ValidView K.view shaped in
      let caches : caches_of table ≡ synced_caches V s n junk (caches_of i.table) = made s K.state.agrees ∙ ap (λ (v : View). synced_caches v s n junk (caches_of i.table)) K.view in
      let family = shape.family n R.inside not_host in
      let queue : queue_at V n < length V.families = slice_get_within V.families (queue_at V n) family.0 family.1 in
      let long : (k : ℕ) (a : Access) → k < length list → (piece_range V (get_or list k a).piece).len ≤ length junk = λ k a lt. K.table.cuts.junk (get_or list k a).piece (shape.known n k (get_or list k a) (slice_get-get_or list k a lt)) in
      let bytes : HasBytes program (caches_of table) r = subst (λ (z : Caches). HasBytes program z r) (sym caches) (synced_bytes program n i.fill junk K.table.junk queue long s (caches_of i.table) K.state.bytes) in
      kept_event i (Sync n) r K ((goes (device_in i) n).syncs M.kind M.ready) next table i.pending i.reads history items (and_from _ _ M.kind M.ready) view refl (still_fits i.table table program i.fill stays.keeps K.table)
      (events.syncs program i.control next i.table table i.pending.items i.reads.items s K.state n (i.fill ∷ []) K.view agrees R.fresh not_host bytes)
      (events.room_done program s i.moves i.table.cuts_left i.table.stores_left _ _ K.room n R.inside r table.cuts_left table.stores_left _ _ R.idle (λ k. refl) stays.cuts stays.stores longer capacity)

  -- the host reads
  pub kept_host : IsReady i n → is_host (kind_at (view_of (arc_value i.program)) n) ≡ true → (reads : Vec (List ℕ) Global) → HasState (arc_value i.program) next i.table i.pending.items reads.items (hosted (view_of (arc_value i.program)) (state_of (device_in i)) n (i.fill ∷ [])) → history.items ≡ i.history.items ++ Host n ∷ [] → IsKept (record i { control = next; reads = reads; history = history })
  kept_host R host reads has items =
      let r = hosted (view_of (arc_value i.program)) (state_of (device_in i)) n (i.fill ∷ []) in
      kept_event i (Host n) r K ((goes (device_in i) n).reads host R.ready) next i.table i.pending reads history items (and_from _ _ host R.ready) view refl K.table has
      (events.room_done (arc_value i.program) (state_of (device_in i)) i.moves i.table.cuts_left i.table.stores_left _ _ K.room n R.inside r i.table.cuts_left i.table.stores_left _ _ R.idle (λ k. refl) (omega arith) refl longer capacity)

  -- a begun command stores
  pub kept_end : (begun : is_begun (phase_of i.control n) ≡ true) (h : Pending) → Some h ≡ pending_at i.pending.items n → (bytes : List ℕ) → bytes ≡ made (arc_value i.program) (state_of (device_in i)) n (i.fill ∷ []) → ((s : State) (bytes : List ℕ) → Agrees i.control s → Agrees next (ended i.control.view s n bytes)) → (table : Table) (v : View) → v ≡ i.control.view → caches_of table ≡ effects.put (agent_of (store_of v n).kind) (piece_range v (store_of v n).piece) bytes (caches_of i.table) → Keeps i.table table → i.table.cuts_left ≤ table.cuts_left → table.stores_left ≡ i.table.stores_left - 1 → (pending : Vec (Option Pending) Global) → pending.items ≡ slice_set i.pending.items n None → history.items ≡ i.history.items ++ End n ∷ [] → IsKept (record i { control = next; table = table; pending = pending; history = history })
  kept_end begun h is bytes stored agrees table v same put keeps cuts stores pending rest items =
      let program = arc_value i.program in
      let V = view_of program in
      let s = state_of (device_in i) in
      let all = made program s n (i.fill ∷ []) in
      let r = ended V s n all in
      let old = caches_of i.table in
      let put_all : caches_of table ≡ effects.put (agent_of (store_of V n).kind) (piece_range V (store_of V n).piece) all old =
      put
      ∙ ap (λ (v : View). effects.put (agent_of (store_of v n).kind) (piece_range v (store_of v n).piece) bytes old) (same ∙ K.view)
      ∙ ap (λ (bytes : List ℕ). effects.put (agent_of (store_of V n).kind) (piece_range V (store_of V n).piece) bytes old) stored in
      kept_event i (End n) r K ((goes (device_in i) n).ends (begun_in i K n begun)) next table pending i.reads history items (begun_in i K n begun) view (ap length rest ∙ length-set i.pending.items n None) (still_fits i.table table program i.fill keeps K.table)
      (subst (λ pending. HasState program next table pending i.reads.items r) (sym rest) (events.ends program i.control next i.table table i.pending.items i.reads.items s K.state n all K.view agrees (pending_there i K n begun) (is_no_read i K n begun h is) put_all))
      (events.room_ended program s i.moves i.table.cuts_left i.table.stores_left _ _ K.room n (node_there i K n begun) r table.cuts_left table.stores_left _ _ (phase_is i K n begun) (λ k. refl) cuts stores longer capacity)

module _ (i : Inside) (K : IsKept i) {d : Device} (same : device_in i ≡ d) (n : ℕ) (may : MayGo is_command d n) (h : Pending) (takes : IsReserved d n h) (goes : (d : Device) (n : ℕ) → GoesOnBy d n) where
  here : MayGo is_command (device_in i) n
  here = subst (λ (d : Device). MayGo is_command d n) (sym same) may

  takes_here : IsReserved (device_in i) n h
  takes_here = subst (λ (d : Device). IsReserved d n h) (sym same) takes

  begins : state_of (did (device_in i) (Begin n)) ≡ begun (view_of (arc_value i.program)) (state_of (device_in i)) n (i.fill ∷ [])
  begins = (goes (device_in i) n).begins here.kind here.ready

  loaded_there : (begun (view_of (arc_value i.program)) (state_of (device_in i)) n (i.fill ∷ [])).loaded n ≡ h.loaded
  loaded_there =
      let V = view_of (arc_value i.program) in
      let s = state_of (device_in i) in
      put_at s.loaded n n (map (loaded_by V s n (i.fill ∷ [])) (loads_of V n)) refl ∙ sym takes_here.inputs.loaded

  -- what a command loads it loads where the commands run one after another
  pub loads_apart : ((d : Device) → first_fault d.program ≡ None → (n : ℕ) → MayGo is_command d n → IsJob d n) → LoadsApart (did (device_in i) (Begin n)) n h.loaded
  loads_apart jobs = subst (λ (bytes : List (List ℕ)). LoadsApart (did (device_in i) (Begin n)) n bytes) (ap (λ (s : State). s.loaded n) begins ∙ loaded_there) (jobs (device_in i) K.faultless n here).apart

  module _ (next : Control) (pending : Vec (Option Pending) Global) (history : Vec Event Global) (items : history.items ≡ i.history.items ++ Begin n ∷ []) where
    pub has_loaded : (state_of (device_in (record i { control = next; pending = pending; history = history }))).loaded n ≡ h.loaded
    has_loaded = ap (λ (s : State). s.loaded n) (new_state i (Begin n) (begun (view_of (arc_value i.program)) (state_of (device_in i)) n (i.fill ∷ [])) K begins next i.table pending i.reads history items) ∙ loaded_there

    -- a command begins
    pub kept_begin : next.view ≡ i.control.view → ((s : State) (junk : List ℕ) → Agrees i.control s → Agrees next (begun i.control.view s n junk)) → pending.items ≡ slice_set i.pending.items n (Some h) → vec_len history ≡ vec_len i.history + 1 → vec_capacity history ≡ vec_capacity i.history → IsKept (record i { control = next; pending = pending; history = history })
    kept_begin view agrees put longer capacity =
        let program = arc_value i.program in
        let s = state_of (device_in i) in
        let junk = i.fill ∷ [] in
        let r = begun (view_of program) s n junk in
        let R = ready_in i K {d = device_in i} refl n here.ready in
        let is_pending : IsPending program r n h = record {
          begun = ap is_begun (put_at s.phase n n Begun refl);
          command = here.kind;
          loaded = sym loaded_there;
          room = takes_here.room;
          work = takes_here.inputs.work;
        } in
        kept_event i (Begin n) r K begins next i.table pending i.reads history items (and_from _ _ here.kind here.ready) view (ap length put ∙ length-set i.pending.items n (Some h)) K.table
        (subst (λ pending. HasState program next i.table pending i.reads.items r) (sym put) (events.begins program i.control next i.table i.pending.items i.reads.items s K.state n junk K.view agrees h (omega (arith, R.inside, K.places)) (command_no_read (device_in i) n here.ready here.kind) is_pending))
        (events.room_begun program s i.moves i.table.cuts_left i.table.stores_left _ _ K.room n R.inside r i.table.cuts_left _ _ R.idle (λ k. refl) (omega arith) longer capacity)
