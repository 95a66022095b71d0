-- What each event leaves of what the fields keep.
use Rattle.std.proofs.Common.{◌≡◌, ◌≢◌, ℕ, ◌+◌, ◌-◌, ◌<◌, ◌≤◌, false, List, length, map, slice_get, slice_set, Option, Some, None, refl, sym, ap, ◌∙◌, subst, ⊎_elim, arith}
use Rattle.std.proofs.lemmas.Bool.{false≢true, cases_eq}
use Rattle.base.proofs.Absence.{some_same}
use Rattle.base.specs.Shapes.{bytes_of}
use Rattle.device_cache.specs.Effects as effects
use Rattle.device_cache.specs.Tables.{Table, caches_of}
use Rattle.device_nodes.specs.Controls.{Control, Agrees}
use Rattle.device.specs.Internal.Fields.{HasState, HasRoom, node_count}
use Rattle.device.specs.Internal.Loads.{IsPending}
use Rattle.device.specs.Internal.Rooms.{events_left, stores_left}
use Rattle.device.specs.Internal.Tables.{HasBytes}
use Rattle.device.specs.declared.pending.Pending.{Pending}
use Rattle.device.proofs.Holding.{pending_still, pending_set, reads_still, reads_set}
use Rattle.device.proofs.Lefts.{same_left, left_put}
use Rattle.device.proofs.SeenBytes.{stores}
use Rattle.check_order.specs.Edges.{is_host}
use Rattle.device_model.proofs.Control.{put_at, put_other}
use Rattle.device_model.proofs.HostNodes.{read_entry}
use Rattle.device_model.proofs.Places.{host_at}
use Rattle.device_model.specs.Agents.{agent_of, piece_range}
use Rattle.device_model.specs.Ready.{kind_at, read_node}
use Rattle.device_model.specs.States.{is_begun, State, put}
use Rattle.device_model.specs.Steps.{store_of, loaded_by, begun, ended, synced, host_takes, hosted}
use Rattle.device_model.specs.declared.phase.Phase.TheVariants.{Idle, Begun, Done}
use Rattle.program.specs.declared.program.Program.{Program}
use Rattle.check_access.specs.Views.{view_of, accesses_of, loads_of, piece_at}

-- a node that is no host read is the node of no read-back
pub no_read : (program : Program) (n : ℕ) → is_host (kind_at (view_of program) n) ≡ false → (k p : ℕ) → slice_get program.readbacks k ≡ Some p → read_node program k ≢ n
no_read program n not_host k p is e = absurd (false≢true (sym not_host ∙ ap (λ z. is_host (kind_at (view_of program) z)) (sym e) ∙ ap (λ x. is_host x.kind) (host_at program (read_node program k) p (read_entry program k p is)).node))

module _ (program : Program) (control next : Control) (table : Table) (pending : List (Option Pending)) (reads : List (List ℕ)) (s : State) (H : HasState program control table pending reads s) (n : ℕ) (junk : List ℕ) where
  pub begins : control.view ≡ view_of program → ((s : State) (junk : List ℕ) → Agrees control s → Agrees next (begun control.view s n junk)) → (h : Pending) → n < length pending → is_host (kind_at (view_of program) n) ≡ false → IsPending program (begun (view_of program) s n junk) n h → HasState program next table (slice_set pending n (Some h)) reads (begun (view_of program) s n junk)
  begins view agrees h inside not_host is =
      let r : State = begun (view_of program) s n junk in
      record {
        agrees = subst (λ v. Agrees next (begun v s n junk)) view (agrees s junk H.agrees);
        bytes = record { main = H.bytes.main; line = H.bytes.line };
        holds = pending_set program pending s r H.holds n (Some h) inside is (λ k ne. ap is_begun (put_other s.phase n k Begun ne)) (λ k ne. put_other s.loaded n k (map (loaded_by (view_of program) s n junk) (loads_of (view_of program) n)) ne);
        has_read = reads_still program reads s r H.has_read (λ k p is. put_other s.phase n (read_node program k) Begun (no_read program n not_host k p is)) (λ k. refl);
      }

module _ (program : Program) (control next : Control) (old table : Table) (pending : List (Option Pending)) (reads : List (List ℕ)) (s : State) (H : HasState program control old pending reads s) (n : ℕ) where
  -- a command that was begun stores
  pub ends : (bytes : List ℕ) → control.view ≡ view_of program → ((s : State) (bytes : List ℕ) → Agrees control s → Agrees next (ended control.view s n bytes)) → n < length pending → is_host (kind_at (view_of program) n) ≡ false → caches_of table ≡ effects.put (agent_of (store_of (view_of program) n).kind) (piece_range (view_of program) (store_of (view_of program) n).piece) bytes (caches_of old) → HasState program next table (slice_set pending n None) reads (ended (view_of program) s n bytes)
  ends bytes view agrees inside not_host is =
      let V = view_of program in
      let r : State = ended V s n bytes in
      let stored = stores program (caches_of old) s H.bytes (agent_of (store_of V n).kind) (piece_range V (store_of V n).piece) bytes in
      let kept : HasBytes program (effects.put (agent_of (store_of V n).kind) (piece_range V (store_of V n).piece) bytes (caches_of old)) r = record { main = stored.main; line = stored.line } in
      record {
        agrees = subst (λ v. Agrees next (ended v s n bytes)) view (agrees s bytes H.agrees);
        bytes = subst (λ c. HasBytes program c r) (sym is) kept;
        holds = pending_set program pending s r H.holds n None inside (ap is_begun (put_at s.phase n n Done refl)) (λ k ne. ap is_begun (put_other s.phase n k Done ne)) (λ k ne. refl);
        has_read = reads_still program reads s r H.has_read (λ k p is. put_other s.phase n (read_node program k) Done (no_read program n not_host k p is)) (λ k. refl);
      }

  -- a node that was not begun becomes done
  not_begun : is_begun (s.phase n) ≡ false → (k : ℕ) → is_begun (put s.phase n Done k) ≡ is_begun (s.phase k)
  not_begun fresh k = ⊎_elim
      (λ (e : k ≡ n). ap is_begun (put_at s.phase n k Done e) ∙ sym (ap (λ z. is_begun (s.phase z)) e ∙ fresh))
      (λ (ne : k ≢ n). ap is_begun (put_other s.phase n k Done ne))
      (cases_eq k n)

  pub syncs : (junk : List ℕ) → control.view ≡ view_of program → ((s : State) (junk : List ℕ) → Agrees control s → Agrees next (synced control.view s n junk)) → is_begun (s.phase n) ≡ false → is_host (kind_at (view_of program) n) ≡ false → HasBytes program (caches_of table) (synced (view_of program) s n junk) → HasState program next table pending reads (synced (view_of program) s n junk)
  syncs junk view agrees fresh not_host is =
      let r : State = synced (view_of program) s n junk in
      record {
        agrees = subst (λ v. Agrees next (synced v s n junk)) view (agrees s junk H.agrees);
        bytes = is;
        holds = pending_still program pending s r H.holds (not_begun fresh) (λ k. refl);
        has_read = reads_still program reads s r H.has_read (λ k p is. put_other s.phase n (read_node program k) Done (no_read program n not_host k p is)) (λ k. refl);
      }

  -- the host reads into the room of read-back q
  pub hosts : (junk : List ℕ) (q p : ℕ) → n ≡ read_node program q → slice_get program.readbacks q ≡ Some p → control.view ≡ view_of program → ((s : State) (junk : List ℕ) → Agrees control s → Agrees next (hosted control.view s n junk)) → is_begun (s.phase n) ≡ false → q < length reads → (bytes : List ℕ) → length bytes ≡ bytes_of (piece_at (view_of program) p).shape → bytes ≡ host_takes (view_of program) s n junk (accesses_of (view_of program) n) → HasState program next old pending (slice_set reads q bytes) (hosted (view_of program) s n junk)
  hosts junk q p node there view agrees fresh inside bytes long is =
      let V = view_of program in
      let r : State = hosted V s n junk in
      let other : (k : ℕ) → k ≢ q → read_node program k ≢ n = λ k ne e. ne (omega (arith, e, node)) in
      record {
        agrees = subst (λ v. Agrees next (hosted v s n junk)) view (agrees s junk H.agrees);
        bytes = record { main = H.bytes.main; line = H.bytes.line };
        holds = pending_still program pending s r H.holds (not_begun fresh) (λ k. refl);
        has_read = reads_set program reads s r H.has_read q bytes inside
            (λ o e. ap length refl ∙ long ∙ ap (λ z. bytes_of (piece_at (view_of program) z).shape) (some_same (sym there ∙ e)))
            (is ∙ sym (put_at s.host n (read_node program q) (host_takes V s n junk (accesses_of V n)) (sym node)))
            (λ k ne. put_other s.phase n (read_node program k) Done (other k ne))
            (λ k ne. put_other s.host n (read_node program k) (host_takes V s n junk (accesses_of V n)) (other k ne));
      }

-- lines of caches move
pub moves : (program : Program) (control : Control) (old table : Table) (pending : List (Option Pending)) (reads : List (List ℕ)) (s r : State) → HasState program control old pending reads s → Agrees control r → HasBytes program (caches_of table) r → ((n : ℕ) → r.phase n ≡ s.phase n) → ((n : ℕ) → r.loaded n ≡ s.loaded n) → ((n : ℕ) → r.host n ≡ s.host n) → HasState program control table pending reads r
moves program control old table pending reads s r H agrees bytes phase loaded host = record {
  agrees = agrees;
  bytes = bytes;
  holds = pending_still program pending s r H.holds (λ n. ap is_begun (phase n)) loaded;
  has_read = reads_still program reads s r H.has_read (λ k p is. phase (read_node program k)) host;
}

-- ROOM

module _ (program : Program) (s : State) (moves cuts stores used capacity : ℕ) (R : HasRoom program s moves cuts stores used capacity) (n : ℕ) (lt : n < node_count program) where
  -- an idle node has an event to come, and a begun one an event and a store
  pub room_for_idle : s.phase n ≡ Idle → used < capacity
  room_for_idle e = omega (arith, R.for_events, left_put events_left s.phase (node_count program) n Done lt, ap events_left e)

  pub room_for_begun : s.phase n ≡ Begun → (used < capacity) × (0 < stores)
  room_for_begun e = (omega (arith, R.for_events, left_put events_left s.phase (node_count program) n Done lt, ap events_left e), omega (arith, R.for_stores, left_put stores_left s.phase (node_count program) n Done lt, ap stores_left e))

  pub room_begun : (r : State) (cuts' used' capacity' : ℕ) → s.phase n ≡ Idle → ((k : ℕ) → r.phase k ≡ put s.phase n Begun k) → cuts ≤ cuts' → used' ≡ used + 1 → capacity' ≡ capacity → HasRoom program r moves cuts' stores used' capacity'
  room_begun r cuts' used' capacity' e phase c u p = record {
    for_moves = omega (arith, R.for_moves, c);
    for_stores = omega (arith, R.for_stores, same_left stores_left r.phase (put s.phase n Begun) (node_count program) (λ k low. phase k), left_put stores_left s.phase (node_count program) n Begun lt, ap stores_left e);
    for_events = omega (arith, R.for_events, same_left events_left r.phase (put s.phase n Begun) (node_count program) (λ k low. phase k), left_put events_left s.phase (node_count program) n Begun lt, ap events_left e, u, p);
  }

  pub room_ended : (r : State) (cuts' stores' used' capacity' : ℕ) → s.phase n ≡ Begun → ((k : ℕ) → r.phase k ≡ put s.phase n Done k) → cuts ≤ cuts' → stores' ≡ stores - 1 → used' ≡ used + 1 → capacity' ≡ capacity → HasRoom program r moves cuts' stores' used' capacity'
  room_ended r cuts' stores' used' capacity' e phase c w u p = record {
    for_moves = omega (arith, R.for_moves, c);
    for_stores = omega (arith, R.for_stores, same_left stores_left r.phase (put s.phase n Done) (node_count program) (λ k low. phase k), left_put stores_left s.phase (node_count program) n Done lt, ap stores_left e, w);
    for_events = omega (arith, R.for_events, same_left events_left r.phase (put s.phase n Done) (node_count program) (λ k low. phase k), left_put events_left s.phase (node_count program) n Done lt, ap events_left e, u, p);
  }

  pub room_done : (r : State) (cuts' stores' used' capacity' : ℕ) → s.phase n ≡ Idle → ((k : ℕ) → r.phase k ≡ put s.phase n Done k) → cuts ≤ cuts' → stores' ≡ stores → used' ≡ used + 1 → capacity' ≡ capacity → HasRoom program r moves cuts' stores' used' capacity'
  room_done r cuts' stores' used' capacity' e phase c w u p = record {
    for_moves = omega (arith, R.for_moves, c);
    for_stores = omega (arith, R.for_stores, same_left stores_left r.phase (put s.phase n Done) (node_count program) (λ k low. phase k), left_put stores_left s.phase (node_count program) n Done lt, ap stores_left e, w);
    for_events = omega (arith, R.for_events, same_left events_left r.phase (put s.phase n Done) (node_count program) (λ k low. phase k), left_put events_left s.phase (node_count program) n Done lt, ap events_left e, u, p);
  }

pub room_moved : (program : Program) (s r : State) (moves cuts stores used capacity cuts' stores' used' capacity' : ℕ) → HasRoom program s moves cuts stores used capacity → 0 < moves → ((k : ℕ) → r.phase k ≡ s.phase k) → cuts ≤ cuts' + 2 → stores' ≡ stores → used' ≡ used + 1 → capacity' ≡ capacity → HasRoom program r (moves - 1) cuts' stores' used' capacity'
room_moved program s r moves cuts stores used capacity cuts' stores' used' capacity' R some phase c w u p = record {
  for_moves = omega (arith, R.for_moves, c, some);
  for_stores = omega (arith, R.for_stores, same_left stores_left r.phase s.phase (node_count program) (λ k low. phase k), w);
  for_events = omega (arith, R.for_events, same_left events_left r.phase s.phase (node_count program) (λ k low. phase k), some, u, p);
}
