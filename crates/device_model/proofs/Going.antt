-- Each event of a device is one of the law's, a move of caches, or nothing.
use Rattle.std.proofs.Common.{◌≡◌, ◌≢◌, ◌⊎◌, inl, inr, ℕ, zero, suc, ◌-◌, ◌/◌, ◌%◌, ◌^◌, ◌<◌, ◌≤◌, ◌==◌, ◌&&◌, ◌||◌, not, Bool, true, false, if◌then◌else◌, List, [], ◌∷◌, length, map, drop, slice_get, slice_index, slice_index_or, Option, Some, None, refl, sym, ap, ◌∙◌, subst, ⊎_elim, eqb-true, eq-eqb, ne_eqb, arith}
use mathlib.Core.Path.{fun_ext}
use Rattle.std.specs.List.{list_any, filter, range_with_len}
use Rattle.std.specs.Option.{option_map, is_some}
use Rattle.std.proofs.lemmas.Bool.{cases_eq, cases_Bool, false≢true, and_parts, and_from, and_right, or_cases, or_from}
use Rattle.std.proofs.lemmas.Option.{slice_get_within}
use Rattle.vk.specs.Sets.{meets}
use Rattle.std.proofs.lemmas.List.{length-map}
use Rattle.std.proofs.lemmas.List.FromFn.{get_or-map-range_with_len}
use Rattle.law_runs.specs.Device as dev
use Rattle.law_runs.specs.Device.{Device, Busy, DeviceLoadsUndefined, IsHit, Begins, Ends, Synchronizes, DeviceJunkedAt, DeviceGoes, begins, ends, synchronizes, History, opens, goes_on, moves_on, fresh_device, did_begin, did_end, did_synchronize}
use Rattle.law_runs.specs.Runs.{reads, WrongLayout, WrongOwner, Takes, StoresAt, Lays, Hands, Moves, writes_back, fills, drops}
use Rattle.law_runs.specs.States as states
use Rattle.law_runs.specs.Systems as law
use Rattle.base.specs.Shapes.{bytes_of}
use Rattle.base.specs.declared.cache_move.MoveKind.{MoveKind}
use Rattle.base.specs.declared.cache_move.MoveKind.TheVariants.{WriteBack, Fill, DropLine}
use Rattle.base.specs.declared.event.Event.{Event}
use Rattle.base.specs.declared.event.Event.TheVariants.{Begin, End, Sync, Move, Host}
use Rattle.base.specs.declared.memory_range.MemoryRange.{MemoryRange}
use Rattle.base.specs.declared.shape.Family.{Family}
use Rattle.vk.specs.Families.{family_number}
use Rattle.vk.specs.Layouts.{layout_number}
use Rattle.vk.specs.declared.layout.Layout.{Layout}
use Rattle.device_cache.specs.Lines.{Bytes, Dirty, dropped, cleaned}
use Rattle.check_order.specs.Edges.{edge, is_sync, is_host}
use Rattle.check_state.specs.PieceStates.{layout_after, owner_after}
use Rattle.check_state.specs.StateValid.{needs_owner, acquires}
use Rattle.device_model.proofs.Cases.{is_store, store_changes, IsPlain, not_sync, not_host, sync_not_host, acquire_sets_owner, discard_sets_owner, command_is}
use Rattle.device_model.proofs.Control.{begun_started, begun_not_done, idle_not_done, any_at, put_other, put_at, not_same, still_begun, ready_within, ready_first, edges_done}
use Rattle.device_model.proofs.Finding.{discards_same, lays_same, lays_what, hands_same, hands_what, needs_same}
use Rattle.device_model.proofs.Flushes.{flushed_to}
use Rattle.device_model.proofs.Formed.{Formed, At, at_first, at_rest, at_cases, at_none, command_plain, of_change, has_store}
use Rattle.device_model.proofs.Moving.{lines_alone}
use Rattle.device_model.proofs.Shared.{covers_place, flush_syncs, show_syncs}
use Rattle.device_model.proofs.SystemOf.{command_at, doing_of, family_numbered, access_of, clashes, is_taken, picked, placed, fit, store_size, out_of, law_of, owner_numbered, is_started, device_of}
use Rattle.device_model.proofs.Viewed.{From, from, to_law, clash_turned, clash_same, changes_same}
use Rattle.device_model.specs.Agents.{agent_at, agent_of, in_scope, piece_range, covers, bytes_in, flushes_at, shows_at}
use Rattle.device_model.specs.Outputs.{stored}
use Rattle.device_model.specs.Ready.{is_command, kind_at, some_node, ready, stores_over, is_torn, is_wrong, is_foreign, loads_undefined, hits, marked_by}
use Rattle.device_model.specs.States.{State, opened, is_idle, is_begun, is_done, put, junk_at, junk_bytes}
use Rattle.device_model.specs.Steps.{used, owner_by, layout_by, owned_after, laid_after, sight, loaded_by, begun, store_of, made, ended, flushed, junks, after_junk, agent_count, synced, host_takes, hosted, moved_by, lines_moved, may_move, step, Told, after}
use Rattle.device_model.specs.declared.owner.Owner.{Owner}
use Rattle.device_model.specs.declared.owner.Owner.TheVariants as owners
use Rattle.device_model.specs.declared.phase.Phase.{Phase}
use Rattle.device_model.specs.declared.phase.Phase.TheVariants.{Begun, Done}
use Rattle.program.specs.declared.program.Program.{Program}
use Rattle.check_access.specs.AccessKinds.{changes, loads, transfers, wanted, sets_layout, sets_owner, is_discard, is_acquire}
use Rattle.check_access.specs.ValidView.{Has, IsByQueue, IsByBarrier}
use Rattle.check_access.specs.Views.{View, view_of, accesses_of, loads_of, effect_at, has_agent, family_at, piece_at, queue_at, overlap, clash, shared_at, node_access}
use Rattle.check_access.specs.declared.access.Access.{Access}
use Rattle.check_access.specs.declared.access.AccessKind.{AccessKind}
use Rattle.check_access.specs.declared.access.Agent.TheVariants as agents
use Rattle.check_access.specs.declared.access.AccessKind.TheVariants.{Load, Store, Transition, Discard, Release, Acquire}

-- LISTS

any_in : (f : ℕ → Bool) (list : List ℕ) → list_any f list ≡ true → (x : ℕ) × (f x ≡ true)
any_in f [] h = absurd (false≢true h)
any_in f (x ∷ rest) h = ⊎_elim (λ e. (x, e)) (λ e. any_in f rest e) (or_cases (f x) (list_any f rest) h)

placed_map : (f : Access → List ℕ) (list : List Access) (k : ℕ) (a : Access) → slice_get list k ≡ Some a → is_taken a ≡ true → placed list (map f (filter is_taken list)) k ≡ f a
placed_map f [] k a h t = absurd cc
placed_map f (b ∷ rest) zero a h t = go (is_taken b) (ap is_taken same ∙ t)
  where
    same : b ≡ a
    same = cc

    go : (c : Bool) → c ≡ true → (if c then slice_index_or (map f (if c then b ∷ filter is_taken rest else filter is_taken rest)) 0 [] else []) ≡ f a
    go true e = ap f same
    go false e = absurd (false≢true e)
placed_map f (b ∷ rest) (suc k) a h t = go (is_taken b) (placed_map f rest k a h t)
  where
    go : (c : Bool) → placed rest (map f (filter is_taken rest)) k ≡ f a → placed rest (if c then drop 1 (map f (if c then b ∷ filter is_taken rest else filter is_taken rest)) else map f (if c then b ∷ filter is_taken rest else filter is_taken rest)) k ≡ f a
    go true e = e
    go false e = e

picked_placed : (list : List Access) (bytes : List (List ℕ)) → length bytes ≡ length (filter is_taken list) → picked list (placed list bytes) ≡ bytes
picked_placed [] [] h = refl
picked_placed [] (b ∷ more) h = absurd cc
picked_placed (a ∷ rest) bytes h = go (is_taken a) bytes h (λ l g. picked_placed rest l g)
  where
    go : (c : Bool) (bytes : List (List ℕ)) → length bytes ≡ length (if c then a ∷ filter is_taken rest else filter is_taken rest) → ((l : List (List ℕ)) → length l ≡ length (filter is_taken rest) → picked rest (placed rest l) ≡ l) → (if c then (if c then slice_index_or bytes 0 [] else []) ∷ picked rest (placed rest (if c then drop 1 bytes else bytes)) else picked rest (placed rest (if c then drop 1 bytes else bytes))) ≡ bytes
    go true [] h more = absurd cc
    go true (b ∷ l) h more = let e : picked rest (placed rest l) ≡ l = more l cc in ap (λ z. b ∷ z) e
    go false bytes h more = more bytes h

fit_at : (size : ℕ) (bytes : List ℕ) (i : ℕ) → i < size → slice_index (fit size bytes) i ≡ slice_index bytes i
fit_at size bytes i lt = get_or-map-range_with_len (λ j. slice_index bytes j) 0 size i i 0 lt (omega arith)

-- KINDS

long_store : (k : AccessKind) → is_store k ≡ true → law.is_long (doing_of k) ≡ true
long_store (Store agent layout) h = refl
long_store k h = absurd (false≢true h)

pub store_is : (k : AccessKind) → law.is_store (doing_of k) ≡ true → is_store k ≡ true
store_is (Store agent layout) h = refl
store_is (Load (agents.Of q b) layout) h = absurd (false≢true h)
store_is (Load agents.Host layout) h = absurd (false≢true h)
store_is (Transition layouts) h = absurd (false≢true h)
store_is (Discard layout) h = absurd (false≢true h)
store_is (Release handover) h = absurd (false≢true h)
store_is (Acquire handover) h = absurd (false≢true h)

store_is_change : (k : AccessKind) → law.is_store (doing_of k) ≡ true → changes k ≡ true
store_is_change k h = store_changes k (store_is k h)

pub is_store_long : (k : AccessKind) → is_store k ≡ true → law.is_store (doing_of k) ≡ true
is_store_long (Store agent layout) h = refl
is_store_long k h = absurd (false≢true h)

queue_takes : (q : ℕ) (k : AccessKind) → IsByQueue q k → law.is_load (doing_of k) ≡ loads k
queue_takes q (Load (agents.Of r b) l) h = refl
queue_takes q (Load agents.Host l) h = absurd h
queue_takes q (Store a l) h = refl
queue_takes q (Transition l) h = absurd h
queue_takes q (Discard l) h = absurd h
queue_takes q (Release r) h = absurd h
queue_takes q (Acquire r) h = absurd h

-- what a barrier loads, and whatever is discarded, changes
barrier_changes : (k : AccessKind) → IsByBarrier k → (is_discard k ≡ true) ⊎ (loads k ≡ true) → changes k ≡ true
barrier_changes (Transition l) h e = refl
barrier_changes (Discard l) h e = refl
barrier_changes (Load a l) (inl h) e = absurd (false≢true h)
barrier_changes (Load a l) (inr h) e = absurd (false≢true h)
barrier_changes (Store a l) (inl h) e = absurd (false≢true h)
barrier_changes (Store a l) (inr h) e = absurd (false≢true h)
barrier_changes (Release r) h (inl e) = absurd (false≢true e)
barrier_changes (Release r) h (inr e) = absurd (false≢true e)
barrier_changes (Acquire r) h (inl e) = absurd (false≢true e)
barrier_changes (Acquire r) h (inr e) = absurd (false≢true e)

no_read : (k : AccessKind) → IsByBarrier k → reads (doing_of k) ≡ true → ⊥
no_read (Load a l) (inl h) r = false≢true h
no_read (Load a l) (inr h) r = false≢true h
no_read (Store a l) h r = false≢true r
no_read (Transition l) h r = false≢true r
no_read (Discard l) h r = false≢true r
no_read (Release p) h r = false≢true r
no_read (Acquire p) h r = false≢true r

not_started : (p : Phase) → is_idle p ≡ true → is_done p ≡ false
not_started p h = ⊎_elim (λ e. absurd (idle_not_done p h e)) (λ e. e) (cases_Bool (is_done p))

begun_fresh : (p : Phase) → is_begun p ≡ true → is_done p ≡ false
begun_fresh p h = ⊎_elim (λ e. absurd (begun_not_done p h e)) (λ e. e) (cases_Bool (is_done p))

-- OWNERS AND LAYOUTS

is_unused : Owner → Bool
is_unused owners.Unused = true
is_unused (owners.Left family) = false

left_used : (o : Option Family) → owners.Left o ≡ owners.Unused → ⊥
unfolding is_unused
left_used o e = false≢true (ap is_unused e)

-- one of these accesses decided who owns the piece, the last that does; or none did, and it is as before or was taken
abbrev Handed : View → ℕ → ℕ → List Access → Owner → Owner → Type 0
Handed V n p list owner owner' =
    ((a : Access) × At list a × (sets_owner a.kind ≡ true) × (a.piece ≡ p) × (owner' ≡ owners.Left (owner_after a.kind (family_at V n))))
    ⊎ (((a : Access) → At list a → sets_owner a.kind ≡ true → a.piece ≡ p → ⊥) × ((owner' ≡ owner) ⊎ ((owner ≡ owners.Unused) × (owner' ≡ owners.Left (family_at V n)) × ((a : Access) × At list a × (a.piece ≡ p)))))

handed_more : (V : View) (n p : ℕ) (b : Access) (rest : List Access) (owner first last : Owner) → first ≡ (if b.piece == p then owner_by b.kind (family_at V n) owner else owner) → Handed V n p rest first last → Handed V n p (b ∷ rest) owner last
handed_more V n p b rest owner first last is (inl t) = inl (t.0, at_rest t.0 b rest t.1, t.2, t.3, t.4)
handed_more V n p b rest owner first last is (inr t) = go (cases_Bool (b.piece == p)) (cases_Bool (sets_owner b.kind))
  where
    none : (sets_owner b.kind ≡ true → b.piece ≡ p → ⊥) → (a : Access) → At (b ∷ rest) a → sets_owner a.kind ≡ true → a.piece ≡ p → ⊥
    none f a h s e = ⊎_elim (λ q. f (ap (λ z. sets_owner z.kind) (sym q) ∙ s) (ap (λ z. z.piece) (sym q) ∙ e)) (λ q. t.0 a q s e) (at_cases a b rest h)

    left : (o : Option Family) → first ≡ owners.Left o → last ≡ owners.Left o
    left o e = ⊎_elim (λ q. q ∙ e) (λ q. absurd (left_used o (sym e ∙ q.0))) t.1

    takes : b.piece ≡ p → (o : Owner) → owner ≡ o → first ≡ used o (family_at V n) → (last ≡ owner) ⊎ ((owner ≡ owners.Unused) × (last ≡ owners.Left (family_at V n)) × ((a : Access) × At (b ∷ rest) a × (a.piece ≡ p)))
    takes c owners.Unused e f = inr (e, left (family_at V n) f, (b, at_first b rest, c))
    takes c (owners.Left o) e f = inl (left o f ∙ sym e)

    go : ((b.piece == p) ≡ true) ⊎ ((b.piece == p) ≡ false) → (sets_owner b.kind ≡ true) ⊎ (sets_owner b.kind ≡ false) → Handed V n p (b ∷ rest) owner last
    go (inr c) s = let e : first ≡ owner = is ∙ ap (λ z. if z then owner_by b.kind (family_at V n) owner else owner) c in
        inr (none (λ s e. false≢true (sym c ∙ eq-eqb b.piece p e)), ⊎_elim (λ q. inl (q ∙ e)) (λ q. inr (sym e ∙ q.0, q.1, (q.2.0, at_rest q.2.0 b rest q.2.1, q.2.2))) t.1)
    go (inl c) (inl s) = inl (b, at_first b rest, s, eqb-true b.piece p c, left (owner_after b.kind (family_at V n)) (is ∙ ap (λ z. if z then owner_by b.kind (family_at V n) owner else owner) c ∙ ap (λ z. if z then owners.Left (owner_after b.kind (family_at V n)) else used owner (family_at V n)) s))
    go (inl c) (inr s) = inr (none (λ q e. false≢true (sym s ∙ q)), takes (eqb-true b.piece p c) owner refl (is ∙ ap (λ z. if z then owner_by b.kind (family_at V n) owner else owner) c ∙ ap (λ z. if z then owners.Left (owner_after b.kind (family_at V n)) else used owner (family_at V n)) s))

handed : (V : View) (n p : ℕ) (list : List Access) (owner : Owner) → Handed V n p list owner (owned_after V n list p owner)
handed V n p [] owner = inr ((λ a h s e. at_none a h), inl refl)
handed V n p (b ∷ rest) owner = handed_more V n p b rest owner (if b.piece == p then owner_by b.kind (family_at V n) owner else owner) (owned_after V n (b ∷ rest) p owner) refl (handed V n p rest (if b.piece == p then owner_by b.kind (family_at V n) owner else owner))

-- and so of its layout
abbrev Laid : ℕ → List Access → Layout → Layout → Type 0
Laid p list layout layout' =
    ((a : Access) × At list a × (sets_layout a.kind ≡ true) × (a.piece ≡ p) × (layout' ≡ layout_after a.kind))
    ⊎ (((a : Access) → At list a → sets_layout a.kind ≡ true → a.piece ≡ p → ⊥) × (layout' ≡ layout))

laid_more : (p : ℕ) (b : Access) (rest : List Access) (layout first last : Layout) → first ≡ (if b.piece == p then layout_by b.kind layout else layout) → Laid p rest first last → Laid p (b ∷ rest) layout last
laid_more p b rest layout first last is (inl t) = inl (t.0, at_rest t.0 b rest t.1, t.2, t.3, t.4)
laid_more p b rest layout first last is (inr t) = go (cases_Bool (b.piece == p)) (cases_Bool (sets_layout b.kind))
  where
    none : (sets_layout b.kind ≡ true → b.piece ≡ p → ⊥) → (a : Access) → At (b ∷ rest) a → sets_layout a.kind ≡ true → a.piece ≡ p → ⊥
    none f a h s e = ⊎_elim (λ q. f (ap (λ z. sets_layout z.kind) (sym q) ∙ s) (ap (λ z. z.piece) (sym q) ∙ e)) (λ q. t.0 a q s e) (at_cases a b rest h)

    go : ((b.piece == p) ≡ true) ⊎ ((b.piece == p) ≡ false) → (sets_layout b.kind ≡ true) ⊎ (sets_layout b.kind ≡ false) → Laid p (b ∷ rest) layout last
    go (inr c) s = inr (none (λ q e. false≢true (sym c ∙ eq-eqb b.piece p e)), t.1 ∙ is ∙ ap (λ z. if z then layout_by b.kind layout else layout) c)
    go (inl c) (inr s) = inr (none (λ q e. false≢true (sym s ∙ q)), t.1 ∙ is ∙ ap (λ z. if z then layout_by b.kind layout else layout) c ∙ ap (λ z. if z then layout_after b.kind else layout) s)
    go (inl c) (inl s) = inl (b, at_first b rest, s, eqb-true b.piece p c, t.1 ∙ is ∙ ap (λ z. if z then layout_by b.kind layout else layout) c ∙ ap (λ z. if z then layout_after b.kind else layout) s)

laid : (p : ℕ) (list : List Access) (layout : Layout) → Laid p list layout (laid_after list p layout)
laid p [] layout = inr ((λ a h s e. at_none a h), refl)
laid p (b ∷ rest) layout = laid_more p b rest layout (if b.piece == p then layout_by b.kind layout else layout) (laid_after (b ∷ rest) p layout) refl (laid p rest (if b.piece == p then layout_by b.kind layout else layout))

-- main's byte is as before, or something that leaves junk covers it
turned_or : (V : View) (s : State) (n m i : ℕ) (junk : List ℕ) (v : ℕ) (list : List Access) → (after_junk V s n junk list m i v ≡ v) ⊎ ((a : Access) × At list a × (covers V a.piece m i ≡ true) × (junks V s n a ≡ true))
turned_or V s n m i junk v [] = inl refl
turned_or V s n m i junk v (a ∷ rest) = go (cases_Bool (covers V a.piece m i && junks V s n a)) (turned_or V s n m i junk (if covers V a.piece m i && junks V s n a then junk_at junk (i - (piece_at V a.piece).offset) else v) rest)
  where
    go : ((covers V a.piece m i && junks V s n a) ≡ true) ⊎ ((covers V a.piece m i && junks V s n a) ≡ false) → (after_junk V s n junk (a ∷ rest) m i v ≡ (if covers V a.piece m i && junks V s n a then junk_at junk (i - (piece_at V a.piece).offset) else v)) ⊎ ((b : Access) × At rest b × (covers V b.piece m i ≡ true) × (junks V s n b ≡ true)) → (after_junk V s n junk (a ∷ rest) m i v ≡ v) ⊎ ((b : Access) × At (a ∷ rest) b × (covers V b.piece m i ≡ true) × (junks V s n b ≡ true))
    go (inl e) r = let p = and_parts (covers V a.piece m i) (junks V s n a) e in inr (a, at_first a rest, p.0, p.1)
    go (inr e) (inl q) = inl (q ∙ ap (λ z. if z then junk_at junk (i - (piece_at V a.piece).offset) else v) e)
    go (inr e) (inr q) = inr (q.0, at_rest q.0 a rest q.1, q.2, q.3)

-- WHAT EVENTS RELY ON

module _ (program : Program) (F : Formed (view_of program)) where
  abbrev V : View
  V = view_of program

  abbrev S : law.System
  S = law_of program

  to_has : (n : ℕ) (a : Access) → Has V n a → law.Has (law_of program) n (access_of V n a)
  to_has n a h = (h.0, to_law V (out_of program) n h.0 a h.1)

  of : (n : ℕ) (a : law.Access) (h : law.Has (law_of program) n a) → From V n h.0 a
  of n a h = from V (out_of program) n h.0 a h.1

  -- commands are at work with as many loads as they have
  pub record Carries (s : State) : Type 0 where
    pub within : (n : ℕ) → is_begun (s.phase n) ≡ true → n < length V.nodes
    pub commands : (n : ℕ) → is_begun (s.phase n) ≡ true → command_at V n ≡ true
    pub counted : (n : ℕ) → is_begun (s.phase n) ≡ true → length (s.loaded n) ≡ length (loads_of V n)

  pub takes_loads : (n : ℕ) → command_at V n ≡ true → filter is_taken (accesses_of V n) ≡ loads_of V n
  takes_loads n cl = go (accesses_of V n) (λ a h. queue_takes (queue_at V n) a.kind (F.shaped.command n h.0 a h.1 (command_is (kind_at V n) cl)))
    where
      go : (list : List Access) → ((a : Access) → At list a → is_taken a ≡ loads a.kind) → filter is_taken list ≡ filter (λ a. loads a.kind) list
      go [] h = refl
      go (a ∷ rest) h = ap (λ z. if z then a ∷ filter is_taken rest else filter is_taken rest) (h a (at_first a rest)) ∙ ap (λ l. if loads a.kind then a ∷ l else l) (go rest (λ b k. h b (at_rest b a rest k)))

  change_long : (n : ℕ) (a : Access) → Has V n a → command_at V n ≡ true → changes a.kind ≡ true → law.is_long (doing_of a.kind) ≡ true
  change_long n a h cl c = long_store a.kind ((command_plain V F n a h cl).store c)

  -- what an access needs, but where the host reads or all may use the piece
  needs_or : (n p : ℕ) (a : Access) → is_host (kind_at V n) ≡ false → ((c : Access) → Has V n c → sets_owner c.kind ≡ true → c.piece ≡ p → ⊥) → Has V n a → a.piece ≡ p → (S.needs_owner n (access_of V n a) ≡ true) ⊎ (S.exclusive p ≡ false)
  needs_or n p a host none h e = go (cases_Bool (shared_at V p))
    where
      discards : is_discard a.kind ≡ false
      discards = ⊎_elim (λ q. absurd (none a h (discard_sets_owner a.kind q) e)) (λ q. q) (cases_Bool (is_discard a.kind))

      acquiring : (acquires V n ≡ true) → ⊥
      acquiring q = let c = any_at (λ c. is_acquire c.kind) (accesses_of V n) q in none c.0 c.1 (acquire_sets_owner c.0.kind c.2) (sym (F.acquired n c.0 a c.1 h c.2) ∙ e)

      go : (shared_at V p ≡ true) ⊎ (shared_at V p ≡ false) → (S.needs_owner n (access_of V n a) ≡ true) ⊎ (S.exclusive p ≡ false)
      go (inl q) = inr (ap not q)
      go (inr q) = inl (needs_same V n a ∙ ap not (or_from (is_discard a.kind) (acquires V n || (is_host (kind_at V n) || shared_at V a.piece)) discards (or_from (acquires V n) (is_host (kind_at V n) || shared_at V a.piece) (⊎_elim (λ z. absurd (acquiring z)) (λ z. z) (cases_Bool (acquires V n))) (or_from (is_host (kind_at V n)) (shared_at V a.piece) host (ap (shared_at V) e ∙ q)))))

  module _ (s : State) (Q : Carries s) where
    busy : (n v : ℕ) → is_begun (s.phase v) ≡ true → v ≢ n → Busy (device_of V s) n v
    busy n v b ne = record { other = ne; begun = and_from (not (is_idle (s.phase v))) (command_at V v) (ap not (begun_started (s.phase v) b)) (Q.commands v b); fresh = begun_fresh (s.phase v) b }

    undefined : (n : ℕ) (b : Access) → loads_undefined V s n b ≡ true → DeviceLoadsUndefined (law_of program) (device_of V s) n (access_of V n b)
    undefined n b h = ⊎_elim (λ e. inl (torn e)) (λ e. inr (⊎_elim (λ q. inl (wrong (wanted b.kind) refl q)) (λ q. inr (foreign (and_parts (needs_owner V (node_access n b)) (is_foreign (s.owner b.piece) (family_at V n)) q))) (or_cases (is_wrong (wanted b.kind) (s.layout b.piece)) (needs_owner V (node_access n b) && is_foreign (s.owner b.piece) (family_at V n)) e)))
        (or_cases (is_torn V s n b.piece) (is_wrong (wanted b.kind) (s.layout b.piece) || (needs_owner V (node_access n b) && is_foreign (s.owner b.piece) (family_at V n))) h)
      where
        torn : is_torn V s n b.piece ≡ true → (v : ℕ) × (c : law.Access) × Busy (device_of V s) n v × law.Has (law_of program) v c × (law.is_long c.doing ≡ true) × (law.overlap (law_of program) c.piece b.piece ≡ true)
        torn e =
            let x = any_in (λ x. not (x == n) && (is_begun (s.phase x) && stores_over V b.piece x)) (range_with_len 0 (length V.nodes)) e in
            let p = and_parts (not (x.0 == n)) (is_begun (s.phase x.0) && stores_over V b.piece x.0) x.1 in
            let q = and_parts (is_begun (s.phase x.0)) (stores_over V b.piece x.0) p.1 in
            let a = any_at (λ a. changes a.kind && overlap V a.piece b.piece) (accesses_of V x.0) q.1 in
            let r = and_parts (changes a.0.kind) (overlap V a.0.piece b.piece) a.2 in
            (x.0, access_of V x.0 a.0, busy n x.0 q.0 (not_same x.0 n p.0), to_has x.0 a.0 a.1, change_long x.0 a.0 a.1 (Q.commands x.0 q.0) r.0, r.1)

        wrong : (o : Option Layout) → wanted b.kind ≡ o → is_wrong o (s.layout b.piece) ≡ true → WrongLayout (device_of V s).state (access_of V n b)
        wrong None e q = absurd (false≢true q)
        wrong (Some want) e q = (layout_number want, ap (option_map layout_number) e, λ f. false≢true (sym (ap not (eq-eqb (layout_number want) (layout_number (s.layout b.piece)) (sym f))) ∙ q))

        foreign : (needs_owner V (node_access n b) ≡ true) × (is_foreign (s.owner b.piece) (family_at V n) ≡ true) → WrongOwner (law_of program) (device_of V s).state n (access_of V n b)
        foreign p = by (s.owner b.piece) (family_at V n) refl refl p.1
          where
            by : (o : Owner) (f : Option Family) → s.owner b.piece ≡ o → family_at V n ≡ f → is_foreign o f ≡ true → WrongOwner (law_of program) (device_of V s).state n (access_of V n b)
            by owners.Unused f e g q = absurd (false≢true q)
            by (owners.Left None) f e g q = absurd (false≢true q)
            by (owners.Left (Some u)) None e g q = absurd (false≢true q)
            by (owners.Left (Some u)) (Some f) e g q = (family_number u, family_number f, needs_same V n b ∙ p.0, ap owner_numbered e, ap (option_map family_number) g, λ z. false≢true (sym (ap not (eq-eqb (family_number u) (family_number f) z)) ∙ q))

    -- MARKS

    hit : (x y : ℕ) → hits V x y ≡ true → (x ≢ y) × ((a : Access) × (b : Access) × Has V x a × Has V y b × (changes a.kind ≡ true) × (clash V a b ≡ true))
    hit x y h =
        let p = and_parts (not (x == y)) (list_any (λ a. changes a.kind && list_any (λ b. not (transfers b.kind) && clash V a b) (accesses_of V y)) (accesses_of V x)) h in
        let a = any_at (λ a. changes a.kind && list_any (λ b. not (transfers b.kind) && clash V a b) (accesses_of V y)) (accesses_of V x) p.1 in
        let c = and_parts (changes a.0.kind) (list_any (λ b. not (transfers b.kind) && clash V a.0 b) (accesses_of V y)) a.2 in
        let b = any_at (λ b. not (transfers b.kind) && clash V a.0 b) (accesses_of V y) c.1 in
        (not_same x y p.0, (a.0, b.0, a.1, b.1, c.0, (and_parts (not (transfers b.0.kind)) (clash V a.0 b.0) b.2).1))

    clashing : (x y : ℕ) (a b : Access) → clash V a b ≡ true → clashes V (access_of V x a) (access_of V y b) ≡ true
    clashing x y a b c = clash_same V x y a b ∙ c

    marks : (n v : ℕ) → marked_by V s n v ≡ true → (s.marked v ≡ true) ⊎ IsHit (law_of program) (device_of V s) n v
    marks n v h = ⊎_elim (λ e. inl e) (λ e. inr (by (and_parts (is_begun (s.phase v)) (hits V v n) e))) (or_cases (s.marked v) (is_begun (s.phase v) && hits V v n) h)
      where
        by : (is_begun (s.phase v) ≡ true) × (hits V v n ≡ true) → IsHit (law_of program) (device_of V s) n v
        by p =
            let q = hit v n p.1 in
            let a = q.1.0 in
            let b = q.1.1 in
            (access_of V n b, access_of V v a, busy n v p.0 q.0, to_has n b q.1.3, to_has v a q.1.2, change_long v a q.1.2 (Q.commands v p.0) q.1.4, clash_turned V (access_of V v a) (access_of V n b) (clashing v n a b q.1.5))

    -- OWNERS

    takes : (n p : ℕ) (owner' : Owner) → is_host (kind_at V n) ≡ false → ((a : Access) → Has V n a → sets_owner a.kind ≡ true → a.piece ≡ p → ⊥) → (owner' ≡ s.owner p) ⊎ ((s.owner p ≡ owners.Unused) × (owner' ≡ owners.Left (family_at V n)) × ((a : Access) × Has V n a × (a.piece ≡ p))) → Takes (law_of program) (device_of V s).state n (λ a. Unit {0}) p (owner_numbered owner')
    takes n p owner' host none (inl e) = inl (ap owner_numbered e)
    takes n p owner' host none (inr t) = inr (ap owner_numbered t.0, ap owner_numbered t.1, (access_of V n t.2.0, to_has n t.2.0 t.2.1, tt, t.2.2, needs_or n p t.2.0 host none t.2.1 t.2.2))

    -- BEGIN

    module _ (n : ℕ) (junk : List ℕ) (cl : command_at V n ≡ true) (r : ready V s n ≡ true) where
      fresh : is_idle (s.phase n) ≡ true
      fresh = ready_first V s n r

      plain : (a : Access) → Has V n a → IsPlain a.kind
      plain a h = command_plain V F n a h cl

      no_host : is_host (kind_at V n) ≡ false
      no_host = ⊎_elim (λ e. absurd (not_host (kind_at V n) cl e)) (λ e. e) (cases_Bool (is_host (kind_at V n)))

      entered : (a : law.Access) → law.Has (law_of program) n a → states.Entered (law_of program) (device_of V s).state n a
      entered a h y e = edges_done V s n r y (sym (ap (λ z. if z then edge V.nodes y n else n == y) cl) ∙ e)

      gets : (k : ℕ) (a : law.Access) → law.At (law_of program) n k a → law.is_load a.doing ≡ true → DeviceLoadsUndefined (law_of program) (device_of V s) n a ⊎ (placed (accesses_of V n) (map (loaded_by V s n junk) (loads_of V n)) k ≡ states.sight (law_of program) (device_of V s).state a)
      gets k a at l = subst (λ z. DeviceLoadsUndefined (law_of program) (device_of V s) n z ⊎ (placed (accesses_of V n) (map (loaded_by V s n junk) (loads_of V n)) k ≡ states.sight (law_of program) (device_of V s).state z)) (sym f.same) (by (cases_Bool (loads_undefined V s n f.access)))
        where
          f : From V n k a
          f = from V (out_of program) n k a at

          got : placed (accesses_of V n) (map (loaded_by V s n junk) (loads_of V n)) k ≡ loaded_by V s n junk (from V (out_of program) n k a at).access
          got = ap (λ l. placed (accesses_of V n) (map (loaded_by V s n junk) l) k) (sym (takes_loads n cl)) ∙ placed_map (loaded_by V s n junk) (accesses_of V n) k f.access f.at (ap (λ z. law.is_load z.doing) (sym f.same) ∙ l)

          by : (loads_undefined V s n f.access ≡ true) ⊎ (loads_undefined V s n f.access ≡ false) → DeviceLoadsUndefined (law_of program) (device_of V s) n (access_of V n f.access) ⊎ (placed (accesses_of V n) (map (loaded_by V s n junk) (loads_of V n)) k ≡ states.sight (law_of program) (device_of V s).state (access_of V n f.access))
          by (inl e) = inl (undefined n f.access e)
          by (inr e) = inr (got ∙ ap (λ z. if z then junk_bytes junk (bytes_of (piece_at V f.access.piece).shape) else sight V s f.access) e)

      begin_marks : (v j : ℕ) → (begun V s n junk).marked v ≡ true → (s.marked v ≡ true) ⊎ (IsHit (law_of program) (device_of V s) n v ⊎ ((w : ℕ) × (b : law.Access) × (a : law.Access) × Busy (device_of V s) n w × law.Has (law_of program) n b × (law.is_long b.doing ≡ true) × law.Has (law_of program) w a × (clashes V b a ≡ true)))
      begin_marks v j h = ⊎_elim
          (λ e. inr (inr (mine (sym (put_at (marked_by V s n) n v (some_node V (λ x. is_begun (s.phase x) && hits V n x)) e) ∙ h))))
          (λ e. ⊎_elim (λ q. inl q) (λ q. inr (inl q)) (marks n v (sym (put_other (marked_by V s n) n v (some_node V (λ x. is_begun (s.phase x) && hits V n x)) e) ∙ h)))
          (cases_eq v n)
        where
          mine : some_node V (λ x. is_begun (s.phase x) && hits V n x) ≡ true → (w : ℕ) × (b : law.Access) × (a : law.Access) × Busy (device_of V s) n w × law.Has (law_of program) n b × (law.is_long b.doing ≡ true) × law.Has (law_of program) w a × (clashes V b a ≡ true)
          mine e =
              let x = any_in (λ x. is_begun (s.phase x) && hits V n x) (range_with_len 0 (length V.nodes)) e in
              let p = and_parts (is_begun (s.phase x.0)) (hits V n x.0) x.1 in
              let q = hit n x.0 p.1 in
              (x.0, access_of V n q.1.0, access_of V x.0 q.1.1, busy n x.0 p.0 (λ z. q.0 (sym z)), to_has n q.1.0 q.1.2, change_long n q.1.0 q.1.2 cl q.1.4, to_has x.0 q.1.1 q.1.3, clashing n x.0 q.1.0 q.1.1 q.1.5)

      begin_takes : (p : ℕ) → Takes (law_of program) (device_of V s).state n (λ a. Unit {0}) p (owner_numbered (owned_after V n (accesses_of V n) p (s.owner p)))
      begin_takes p = go (handed V n p (accesses_of V n) (s.owner p))
        where
          go : Handed V n p (accesses_of V n) (s.owner p) (owned_after V n (accesses_of V n) p (s.owner p)) → Takes (law_of program) (device_of V s).state n (λ a. Unit {0}) p (owner_numbered (owned_after V n (accesses_of V n) p (s.owner p)))
          go (inl t) = absurd (false≢true (sym (plain t.0 t.1).owners ∙ t.2))
          go (inr t) = takes n p (owned_after V n (accesses_of V n) p (s.owner p)) no_host t.0 t.1

      pub begin_goes : Begins (law_of program) (device_of V s) n (placed (accesses_of V n) (map (loaded_by V s n junk) (loads_of V n))) (λ v j. (begun V s n junk).marked v) (λ p. owner_numbered ((begun V s n junk).owner p))
      begin_goes = record {
        may = record { within = ready_within V s n r; command = cl; idle = ap (λ z. not z && command_at V n) fresh; fresh = not_started (s.phase n) fresh; entered = entered };
        bytes_are = gets;
        marks = begin_marks;
        takes = begin_takes;
      }

    -- END

    module _ (n : ℕ) (junk : List ℕ) (b : is_begun (s.phase n) ≡ true) where
      cl : command_at V n ≡ true
      cl = Q.commands n b

      left : List ℕ
      left = made program s n junk

      store : Has V n (store_of V n) × (changes (store_of V n).kind ≡ true)
      store = has_store V F n (Q.within n b) cl

      -- the bytes that it loaded, place by place
      pub loaded_back : picked (accesses_of V n) (placed (accesses_of V n) (s.loaded n)) ≡ s.loaded n
      loaded_back = picked_placed (accesses_of V n) (s.loaded n) (Q.counted n b ∙ ap length (sym (takes_loads n cl)))

      end_bytes : (s.marked n ≡ true) ⊎ (fit (store_size V n) (made program s n junk) ≡ out_of program n (placed (accesses_of V n) (s.loaded n)) 0)
      end_bytes = ⊎_elim
          (λ e. inl e)
          (λ e. inr (ap (fit (store_size V n)) (ap (λ z. if z then junk_bytes junk (store_size V n) else stored program n (s.loaded n)) e ∙ ap (stored program n) (sym loaded_back))))
          (cases_Bool (s.marked n))

      -- each of its stores is the one
      only : (k : ℕ) (c : law.Access) → law.At (law_of program) n k c → law.is_store c.doing ≡ true → c ≡ access_of V n (store_of V n)
      only k c at st = let f = from V (out_of program) n k c at in
          f.same ∙ ap (access_of V n) (of_change V F n f.access (k, f.at) (store_is_change f.access.kind (ap (λ z. law.is_store z.doing) (sym f.same) ∙ st)))

      end_mine : (k : ℕ) (c : law.Access) (g m i : ℕ) → StoresAt (law_of program) n k c g m i → (ended V s n (made program s n junk)).line g m i ≡ Dirty (slice_index (fit (store_size V n) (made program s n junk)) (i - (piece_range V c.piece).start))
      end_mine k c g m i A =
          let e = only k c A.at A.store in
          let at : covers V (store_of V n).piece m i ≡ true = ap (λ z. covers V z.piece m i) (sym e) ∙ A.covered in
          let is : g ≡ agent_of (store_of V n).kind = A.agent ∙ ap (λ z. z.agent) e in
          let p = covers_place V (store_of V n).piece m i at in
          ap (λ z. if z then Dirty (slice_index (made program s n junk) (i - (piece_at V (store_of V n).piece).offset)) else s.line g m i) (and_from (g == agent_of (store_of V n).kind) (covers V (store_of V n).piece m i) (eq-eqb g (agent_of (store_of V n).kind) is) at)
          ∙ ap (λ z. Dirty z) (sym (fit_at (store_size V n) (made program s n junk) (i - (piece_at V (store_of V n).piece).offset) (omega (arith, p.1, p.2))))
          ∙ ap (λ z. Dirty (slice_index (fit (store_size V n) (made program s n junk)) (i - (piece_at V z.piece).offset))) (sym e)

      end_others : (g m i : ℕ) → ((k : ℕ) (c : law.Access) → StoresAt (law_of program) n k c g m i → ⊥) → (ended V s n (made program s n junk)).line g m i ≡ s.line g m i
      end_others g m i never = go (cases_Bool ((g == agent_of (store_of V n).kind) && covers V (store_of V n).piece m i))
        where
          go : (((g == agent_of (store_of V n).kind) && covers V (store_of V n).piece m i) ≡ true) ⊎ (((g == agent_of (store_of V n).kind) && covers V (store_of V n).piece m i) ≡ false) → (ended V s n (made program s n junk)).line g m i ≡ s.line g m i
          go (inl e) = let p = and_parts (g == agent_of (store_of V n).kind) (covers V (store_of V n).piece m i) e in
              absurd (never store.0.0 (access_of V n (store_of V n)) (record { at = to_law V (out_of program) n store.0.0 (store_of V n) store.0.1; store = is_store_long (store_of V n).kind ((command_plain V F n (store_of V n) store.0 cl).store store.1); agent = eqb-true g (agent_of (store_of V n).kind) p.0; covered = p.1 }))
          go (inr e) = ap (λ z. if z then Dirty (slice_index (made program s n junk) (i - (piece_at V (store_of V n).piece).offset)) else s.line g m i) e

      pub end_goes : Ends (law_of program) (device_of V s) n (λ k. fit (store_size V n) (made program s n junk)) (ended V s n (made program s n junk)).line
      end_goes = record {
        begun = and_from (not (is_idle (s.phase n))) (command_at V n) (ap not (begun_started (s.phase n) b)) cl;
        fresh = begun_fresh (s.phase n) b;
        bytes_are = λ k c at st. end_bytes;
        mine = end_mine;
        others = end_others;
      }

    -- A SYNCHRONIZING NODE

    -- what holds it back is done, and commands that leave into it have ended
    may_synchronize : (n : ℕ) → command_at V n ≡ false → ready V s n ≡ true → dev.MaySynchronize (law_of program) (device_of V s) n
    may_synchronize n sl r = record {
      within = ready_within V s n r;
      sync = sl;
      fresh = not_started (s.phase n) (ready_first V s n r);
      left = λ v a h cl l. edges_done V s n r v (sym (ap (λ z. if z then edge V.nodes v n else v == n) cl) ∙ l);
      edges = λ x e. edges_done V s n r x (and_parts (edge V.nodes x n) (not (command_at V x) && not (command_at V n)) e).0;
    }

    module _ (n : ℕ) (junk : List ℕ) (sl : is_sync (kind_at V n) ≡ true) (r : ready V s n ≡ true) where
      no_command : command_at V n ≡ false
      no_command = ⊎_elim (λ e. absurd (not_sync (kind_at V n) e sl)) (λ e. e) (cases_Bool (command_at V n))

      no_reader : is_host (kind_at V n) ≡ false
      no_reader = ⊎_elim (λ e. absurd (sync_not_host (kind_at V n) sl e)) (λ e. e) (cases_Bool (is_host (kind_at V n)))

      barrier : (a : Access) → Has V n a → IsByBarrier a.kind
      barrier a h = F.shaped.sync n h.0 a h.1 sl

      -- no agent past the last number is of its queue
      few : (m i g : ℕ) → agent_count V ≤ g → flushes_at V n g m i ≡ true → ⊥
      few m i g le e =
          let a = (and_parts (g / 8 == queue_at V n) (meets (effect_at V n).available (2 ^ (g % 8))) (and_parts (has_agent (queue_at V n) (effect_at V n).available (agent_at g)) (in_scope V (effect_at V n).scope m i) e).0).0 in
          let q : g / 8 ≡ queue_at V n = eqb-true (g / 8) (queue_at V n) a in
          let f = F.shaped.family n (ready_within V s n r) no_reader in
          let lt : queue_at V n < length V.families = slice_get_within V.families (queue_at V n) f.0 f.1 in
          omega (arith, le, q, lt)

      sync_main : (m i : ℕ) → ((synced V s n junk).main m i ≡ flushed (agent_count V) (λ g. flushes_at V n g m i) (λ g. s.line g m i) (s.main m i)) ⊎ DeviceJunkedAt (law_of program) (device_of V s) n m i
      sync_main m i = ⊎_elim (λ e. inl e) (λ t. inr (by t.0 t.1 t.2 (or_cases (is_discard t.0.kind) (loads t.0.kind && loads_undefined V s n t.0) t.3))) (turned_or V s n m i junk (flushed (agent_count V) (λ g. flushes_at V n g m i) (λ g. s.line g m i) (s.main m i)) (accesses_of V n))
        where
          by : (a : Access) (h : Has V n a) → covers V a.piece m i ≡ true → (is_discard a.kind ≡ true) ⊎ ((loads a.kind && loads_undefined V s n a) ≡ true) → DeviceJunkedAt (law_of program) (device_of V s) n m i
          by a h at (inl e) = record { access = access_of V n a; has = to_has n a h; changes = changes_same a.kind ∙ barrier_changes a.kind (barrier a h) (inl e); covered = at; why = inl (discards_same a.kind ∙ e) }
          by a h at (inr e) = let p = and_parts (loads a.kind) (loads_undefined V s n a) e in record { access = access_of V n a; has = to_has n a h; changes = changes_same a.kind ∙ barrier_changes a.kind (barrier a h) (inr p.0); covered = at; why = inr (undefined n a p.1) }

      sync_lays : (p : ℕ) → Lays (law_of program) (device_of V s).state n p (layout_number (laid_after (accesses_of V n) p (s.layout p)))
      sync_lays p = ⊎_elim
          (λ t. inl (access_of V n t.0, to_has n t.0 t.1, lays_what t.0.kind t.2 ∙ ap (λ l. Some (layout_number l)) (sym t.4), t.3))
          (λ t. inr (ap layout_number t.1, λ a l h e q. let f = of n a h in t.0 f.access (h.0, f.at) (sym (lays_same f.access.kind) ∙ ap (λ z. is_some z.lays) (sym f.same) ∙ ap is_some e) (ap (λ z. z.piece) (sym f.same) ∙ q)))
          (laid p (accesses_of V n) (s.layout p))

      sync_hands : (p : ℕ) → Hands (law_of program) (device_of V s).state n p (owner_numbered (owned_after V n (accesses_of V n) p (s.owner p)))
      sync_hands p = ⊎_elim
          (λ t. inl (access_of V n t.0, option_map family_number (owner_after t.0.kind (family_at V n)), to_has n t.0 t.1, hands_what t.0.kind (family_at V n) t.2, t.3, ap owner_numbered t.4))
          (λ t. inr (takes n p (owned_after V n (accesses_of V n) p (s.owner p)) no_reader t.0 t.1, λ a o h e q. let f = of n a h in t.0 f.access (h.0, f.at) (sym (hands_same f.access.kind (family_numbered V n)) ∙ ap (λ z. is_some z.hands) (sym f.same) ∙ ap is_some e) (ap (λ z. z.piece) (sym f.same) ∙ q)))
          (handed V n p (accesses_of V n) (s.owner p))

      pub sync_goes : Synchronizes (law_of program) (device_of V s) n (synced V s n junk).main (s.host n) (λ v j. (synced V s n junk).marked v) (λ p. layout_number ((synced V s n junk).layout p)) (λ p. owner_numbered ((synced V s n junk).owner p))
      sync_goes = record {
        may = may_synchronize n no_command r;
        flushed = λ m i. flushed (agent_count V) (λ g. flushes_at V n g m i) (λ g. s.line g m i) (s.main m i);
        flush = λ m i. flushed_to (agent_count V) (λ g. flushes_at V n g m i) (λ g. s.line g m i) (s.main m i) (λ g le e. absurd (few m i g le e));
        main_is = sync_main;
        read_is = λ a h q. let f = of n a h in absurd (no_read f.access.kind (barrier f.access (h.0, f.at)) (ap (λ z. reads z.doing) (sym f.same) ∙ q));
        marks = λ v j h. marks n v h;
        lays = sync_lays;
        hands = sync_hands;
      }

    -- A HOST READ

    module _ (n : ℕ) (junk : List ℕ) (hl : is_host (kind_at V n) ≡ true) (r : ready V s n ≡ true) where
      not_command : command_at V n ≡ false
      not_command = ⊎_elim (λ e. absurd (not_host (kind_at V n) e hl)) (λ e. e) (cases_Bool (command_at V n))

      reading : (a : Access) → Has V n a → a.kind ≡ Load agents.Host None
      reading a h = F.shaped.host n h.0 a h.1 hl

      never_flushes : (g m i : ℕ) → flushes_at V n g m i ≡ false
      never_flushes g m i = ⊎_elim (λ e. absurd (sync_not_host (kind_at V n) (flush_syncs V F.shaped n g m i e) hl)) (λ e. e) (cases_Bool (flushes_at V n g m i))

      never_shows : (g m i : ℕ) → shows_at V n g m i ≡ false
      never_shows g m i = ⊎_elim (λ e. absurd (sync_not_host (kind_at V n) (show_syncs V F.shaped n g m i e) hl)) (λ e. e) (cases_Bool (shows_at V n g m i))

      host_reads : (a : Access) → Has V n a → DeviceLoadsUndefined (law_of program) (device_of V s) n (access_of V n a) ⊎ (host_takes V s n junk (accesses_of V n) ≡ bytes_in V s.main a.piece)
      host_reads a h =
          let one = F.read n hl in
          let same : a ≡ one.0 = only (subst (λ l. At l a) one.1 h) in
          subst (λ z. DeviceLoadsUndefined (law_of program) (device_of V s) n (access_of V n z) ⊎ (host_takes V s n junk (accesses_of V n) ≡ bytes_in V s.main z.piece)) (sym same)
          (⊎_elim
          (λ e. inl (undefined n one.0 e))
          (λ e. inr (ap (host_takes V s n junk) one.1 ∙ ap (λ z. if z then junk_bytes junk (bytes_of (piece_at V one.0.piece).shape) else bytes_in V s.main one.0.piece) e))
          (cases_Bool (loads_undefined V s n one.0)))
        where
          only : At ((F.read n hl).0 ∷ []) a → a ≡ (F.read n hl).0
          only k = ⊎_elim (λ e. e) (λ e. absurd (at_none a e)) (at_cases a (F.read n hl).0 [] k)

      pub host_goes : Synchronizes (law_of program) (device_of V s) n s.main (host_takes V s n junk (accesses_of V n)) (λ v j. marked_by V s n v) (λ p. layout_number (s.layout p)) (λ p. owner_numbered (s.owner p))
      host_goes = record {
        may = may_synchronize n not_command r;
        flushed = s.main;
        flush = λ m i. inr (λ g e. absurd (false≢true (sym (never_flushes g m i) ∙ e)), refl);
        main_is = λ m i. inl refl;
        read_is = λ a h q. let f = of n a h in subst (λ z. DeviceLoadsUndefined (law_of program) (device_of V s) n z ⊎ (host_takes V s n junk (accesses_of V n) ≡ bytes_in V s.main z.piece)) (sym f.same) (host_reads f.access (h.0, f.at));
        marks = λ v j h. marks n v h;
        lays = λ p. inr (refl, λ a l h e q. let f = of n a h in false≢true (sym (lays_same f.access.kind ∙ ap sets_layout (reading f.access (h.0, f.at))) ∙ ap (λ z. is_some z.lays) (sym f.same) ∙ ap is_some e));
        hands = λ p. inr (inl refl, λ a o h e q. let f = of n a h in false≢true (sym (hands_same f.access.kind (family_numbered V n) ∙ ap sets_owner (reading f.access (h.0, f.at))) ∙ ap (λ z. is_some z.hands) (sym f.same) ∙ ap is_some e));
      }

    -- THE STATES THAT THEY LEAVE

    abbrev at_device : states.State → (ℕ → Bool) → Device
    at_device state started = record { state = state; begun = started }

    -- a function of what is put at one argument
    puts : {X Y : Type 0} (h : ℕ → X → Y) (f : ℕ → X) (n : ℕ) (v : X) (w : Y) → h n v ≡ w → (x : ℕ) → h x (put f n v x) ≡ states.put (λ z. h z (f z)) n w x
    puts h f n v w e x = ⊎_elim
        (λ q. ap (h x) (put_at f n x v q) ∙ ap (λ z. h z v) q ∙ e ∙ sym (ap (λ b. if b then w else h x (f x)) (eq-eqb x n q)))
        (λ q. ap (h x) (put_other f n x v q) ∙ sym (ap (λ b. if b then w else h x (f x)) (ne_eqb x n q)))
        (cases_eq x n)

    stays : {X Y : Type 0} (h : ℕ → X → Y) (f : ℕ → X) (n : ℕ) (v : X) → h n v ≡ h n (f n) → (x : ℕ) → h x (put f n v x) ≡ h x (f x)
    stays h f n v e x = ⊎_elim
        (λ q. ap (h x) (put_at f n x v q) ∙ ap (λ z. h z v) q ∙ e ∙ ap (λ z. h z (f z)) (sym q))
        (λ q. ap (h x) (put_other f n x v q))
        (cases_eq x n)

    begun_device : (n : ℕ) (junk : List ℕ) → command_at V n ≡ true → ready V s n ≡ true → device_of V (begun V s n junk) ≡ did_begin (device_of V s) n (placed (accesses_of V n) (map (loaded_by V s n junk) (loads_of V n))) (λ v j. (begun V s n junk).marked v) (λ p. owner_numbered ((begun V s n junk).owner p))
    begun_device n junk cl r =
        ap (λ f. at_device (record (device_of V (begun V s n junk)).state { taken = λ x k. f x }) f) (fun_ext started)
        ∙ ap (λ f. at_device (record (device_of V (begun V s n junk)).state { taken = f }) (states.put (is_started V s) n true)) (fun_ext (λ x. all (x == n) x))
        ∙ ap (λ f. at_device (record (device_of V (begun V s n junk)).state { taken = states.put (λ z k. is_started V s z) n (λ k. true); loaded = f }) (states.put (is_started V s) n true)) (fun_ext (puts (λ x. placed (accesses_of V x)) s.loaded n (map (loaded_by V s n junk) (loads_of V n)) (placed (accesses_of V n) (map (loaded_by V s n junk) (loads_of V n))) refl))
        ∙ ap (λ f. at_device (record (device_of V (begun V s n junk)).state { taken = states.put (λ z k. is_started V s z) n (λ k. true); loaded = states.put (λ x. placed (accesses_of V x) (s.loaded x)) n (placed (accesses_of V n) (map (loaded_by V s n junk) (loads_of V n))); done = f }) (states.put (is_started V s) n true)) (fun_ext (stays (λ x p. is_done p) s.phase n Begun (sym (not_started (s.phase n) (ready_first V s n r)))))
      where
        started : (x : ℕ) → is_started V (begun V s n junk) x ≡ states.put (is_started V s) n true x
        started = puts (λ x p. not (is_idle p) && command_at V x) s.phase n Begun true cl

        all : (b : Bool) (x : ℕ) → ◌≡◌ {A = ℕ → Bool} (λ k. if b then true else is_started V s x) (if b then (λ k. true) else (λ k. is_started V s x))
        all true x = refl
        all false x = refl

    ended_device : (n : ℕ) (junk : List ℕ) → is_begun (s.phase n) ≡ true → device_of V (ended V s n (made program s n junk)) ≡ did_end (device_of V s) n (ended V s n (made program s n junk)).line
    ended_device n junk b =
        ap (λ f. at_device (record (device_of V (ended V s n (made program s n junk))).state { taken = λ x k. f x }) f) (fun_ext (stays (λ x p. not (is_idle p) && command_at V x) s.phase n Done (sym (ap (λ z. not z && command_at V n) (begun_started (s.phase n) b)))))
        ∙ ap (λ f. at_device (record (device_of V (ended V s n (made program s n junk))).state { taken = λ x k. is_started V s x; done = f }) (is_started V s)) (fun_ext (puts (λ x p. is_done p) s.phase n Done true refl))

    -- nothing is begun by a node that is no command
    same_started : (n : ℕ) (x : ℕ) → command_at V n ≡ false → (not (is_idle (put s.phase n Done x)) && command_at V x) ≡ is_started V s x
    same_started n x e = stays (λ x p. not (is_idle p) && command_at V x) s.phase n Done (e ∙ sym (and_right (not (is_idle (s.phase n))) (command_at V n) e)) x

    synced_device : (n : ℕ) (junk : List ℕ) → command_at V n ≡ false → device_of V (synced V s n junk) ≡ did_synchronize (law_of program) (device_of V s) n (synced V s n junk).main (s.host n) (λ v j. (synced V s n junk).marked v) (λ p. layout_number ((synced V s n junk).layout p)) (λ p. owner_numbered ((synced V s n junk).owner p))
    synced_device n junk sl =
        ap (λ f. at_device (record (device_of V (synced V s n junk)).state { taken = λ x k. f x }) f) (fun_ext (λ x. same_started n x sl))
        ∙ ap (λ f. at_device (record (device_of V (synced V s n junk)).state { taken = λ x k. is_started V s x; done = f }) (is_started V s)) (fun_ext (puts (λ x p. is_done p) s.phase n Done true refl))
        ∙ ap (λ f. at_device (record (device_of V (synced V s n junk)).state { taken = λ x k. is_started V s x; done = states.put (λ z. is_done (s.phase z)) n true; host = f }) (is_started V s)) (fun_ext (λ x. same (x == n) x refl))
      where
        same : (b : Bool) (x : ℕ) → (x == n) ≡ b → s.host x ≡ (if b then s.host n else s.host x)
        same true x e = ap s.host (eqb-true x n e)
        same false x e = refl

    hosted_device : (n : ℕ) (junk : List ℕ) → is_host (kind_at V n) ≡ true → command_at V n ≡ false → ready V s n ≡ true → device_of V (hosted V s n junk) ≡ did_synchronize (law_of program) (device_of V s) n s.main (host_takes V s n junk (accesses_of V n)) (λ v j. marked_by V s n v) (λ p. layout_number (s.layout p)) (λ p. owner_numbered (s.owner p))
    hosted_device n junk hl sl r =
        ap (λ f. at_device (record (device_of V (hosted V s n junk)).state { taken = λ x k. f x }) f) (fun_ext (λ x. same_started n x sl))
        ∙ ap (λ f. at_device (record (device_of V (hosted V s n junk)).state { taken = λ x k. is_started V s x; done = f }) (is_started V s)) (fun_ext (puts (λ x p. is_done p) s.phase n Done true refl))
        ∙ ap (λ f. at_device (record (device_of V (hosted V s n junk)).state { taken = λ x k. is_started V s x; done = states.put (λ z. is_done (s.phase z)) n true; line = f }) (is_started V s)) (fun_ext (λ g. fun_ext (λ m. fun_ext (λ i. sym (ap (λ z. if z then dropped (if flushes_at V n g m i then cleaned (s.line g m i) else s.line g m i) else (if flushes_at V n g m i then cleaned (s.line g m i) else s.line g m i)) (never_shows n junk hl r g m i) ∙ ap (λ z. if z then cleaned (s.line g m i) else s.line g m i) (never_flushes n junk hl r g m i))))))

    -- EVERY EVENT

    -- the law's device goes on, caches move, or nothing happens
    abbrev pub StepsTo : State → Type 0
    StepsTo t = DeviceGoes (law_of program) (device_of V s) (device_of V t) ⊎ (((device_of V t).begun ≡ (device_of V s).begun) × Moves (device_of V s).state (device_of V t).state ⊎ (t ≡ s))

    begin_or : (n : ℕ) (junk : List ℕ) (b : Bool) → (is_command (kind_at V n) && ready V s n) ≡ b → StepsTo (if b then begun V s n junk else s)
    begin_or n junk false e = inr (inr refl)
    begin_or n junk true e =
        let p = and_parts (is_command (kind_at V n)) (ready V s n) e in
        inl (subst (λ z. DeviceGoes (law_of program) (device_of V s) z) (sym (begun_device n junk p.0 p.1)) (begins (device_of V s) n _ _ _ (begin_goes n junk p.0 p.1)))

    end_or : (n : ℕ) (junk : List ℕ) (b : Bool) → is_begun (s.phase n) ≡ b → StepsTo (if b then ended V s n (made program s n junk) else s)
    end_or n junk false e = inr (inr refl)
    end_or n junk true e = inl (subst (λ z. DeviceGoes (law_of program) (device_of V s) z) (sym (ended_device n junk e)) (ends (device_of V s) n _ _ (end_goes n junk e)))

    sync_or : (n : ℕ) (junk : List ℕ) (b : Bool) → (is_sync (kind_at V n) && ready V s n) ≡ b → StepsTo (if b then synced V s n junk else s)
    sync_or n junk false e = inr (inr refl)
    sync_or n junk true e =
        let p = and_parts (is_sync (kind_at V n)) (ready V s n) e in
        inl (subst (λ z. DeviceGoes (law_of program) (device_of V s) z) (sym (synced_device n junk (no_command n junk p.0 p.1))) (synchronizes (device_of V s) n _ _ _ _ _ (sync_goes n junk p.0 p.1)))

    host_or : (n : ℕ) (junk : List ℕ) (b : Bool) → (is_host (kind_at V n) && ready V s n) ≡ b → StepsTo (if b then hosted V s n junk else s)
    host_or n junk false e = inr (inr refl)
    host_or n junk true e =
        let p = and_parts (is_host (kind_at V n)) (ready V s n) e in
        inl (subst (λ z. DeviceGoes (law_of program) (device_of V s) z) (sym (hosted_device n junk p.0 (not_command n junk p.0 p.1) p.1)) (synchronizes (device_of V s) n _ _ _ _ _ (host_goes n junk p.0 p.1)))

    either : (P : State → Type 0) (t : State) (b : Bool) → P t → P s → P (if b then t else s)
    either P t true M K = M
    either P t false M K = K

    move_goes : (agent : ℕ) (range : MemoryRange) (kind : MoveKind) → StepsTo (moved_by kind s agent range)
    move_goes agent range WriteBack = inr (inl (refl, writes_back (device_of V s).state agent range))
    move_goes agent range Fill = inr (inl (refl, fills (device_of V s).state agent range))
    move_goes agent range DropLine = inr (inl (refl, drops (device_of V s).state agent range))

    pub step_goes : (event : Event) (junk : List ℕ) → StepsTo (step program s event junk)
    step_goes (Begin n) junk = begin_or n junk _ refl
    step_goes (End n) junk = end_or n junk _ refl
    step_goes (Sync n) junk = sync_or n junk _ refl
    step_goes (Move m) junk = either StepsTo (lines_moved s m) (may_move program m) (move_goes m.agent m.range m.kind) (inr (inr refl))
    step_goes (Host n) junk = host_or n junk _ refl

    finished : (n : ℕ) (t : State) → t.phase ≡ put s.phase n Done → t.loaded ≡ s.loaded → Carries t
    finished n t e f = record {
      within = λ x b. Q.within x (still x b);
      commands = λ x b. Q.commands x (still x b);
      counted = λ x b. ap (λ z. length (z x)) f ∙ Q.counted x (still x b);
    }
      where
        still : (x : ℕ) → is_begun (t.phase x) ≡ true → is_begun (s.phase x) ≡ true
        still x b = still_begun s.phase n x (sym (ap (λ z. is_begun (z x)) e) ∙ b)

    begun_carries : (n : ℕ) (junk : List ℕ) → command_at V n ≡ true → ready V s n ≡ true → Carries (begun V s n junk)
    begun_carries n junk cl r = record {
      within = λ x b. ⊎_elim (λ e. subst (λ z. z < length V.nodes) (sym e) (ready_within V s n r)) (λ e. Q.within x (ap is_begun (sym (put_other s.phase n x Begun e)) ∙ b)) (cases_eq x n);
      commands = λ x b. ⊎_elim (λ e. ap (command_at V) e ∙ cl) (λ e. Q.commands x (ap is_begun (sym (put_other s.phase n x Begun e)) ∙ b)) (cases_eq x n);
      counted = λ x b. ⊎_elim
          (λ e. ap length (put_at s.loaded n x (map (loaded_by V s n junk) (loads_of V n)) e) ∙ length-map (loads_of V n) (loaded_by V s n junk) ∙ ap (λ z. length (loads_of V z)) (sym e))
          (λ e. ap length (put_other s.loaded n x (map (loaded_by V s n junk) (loads_of V n)) e) ∙ Q.counted x (ap is_begun (sym (put_other s.phase n x Begun e)) ∙ b))
          (cases_eq x n);
    }

    moved : (t : State) → t.phase ≡ s.phase → t.loaded ≡ s.loaded → Carries t
    moved t e f = record { within = λ x b. Q.within x (still x b); commands = λ x b. Q.commands x (still x b); counted = λ x b. ap (λ z. length (z x)) f ∙ Q.counted x (still x b) }
      where
        still : (x : ℕ) → is_begun (t.phase x) ≡ true → is_begun (s.phase x) ≡ true
        still x b = sym (ap (λ z. is_begun (z x)) e) ∙ b

    begin_carries : (n : ℕ) (junk : List ℕ) (b : Bool) → (is_command (kind_at V n) && ready V s n) ≡ b → Carries (if b then begun V s n junk else s)
    begin_carries n junk false e = Q
    begin_carries n junk true e = let p = and_parts (is_command (kind_at V n)) (ready V s n) e in begun_carries n junk p.0 p.1

    pub step_carries : (event : Event) (junk : List ℕ) → Carries (step program s event junk)
    step_carries (Begin n) junk = begin_carries n junk _ refl
    step_carries (End n) junk = either Carries _ (is_begun (s.phase n)) (finished n (ended V s n (made program s n junk)) refl refl) Q
    step_carries (Sync n) junk = either Carries _ (is_sync (kind_at V n) && ready V s n) (finished n (synced V s n junk) refl refl) Q
    step_carries (Move m) junk = either Carries (lines_moved s m) (may_move program m) (moved (lines_moved s m) (ap (λ s. s.phase) (lines_alone s m)) (ap (λ s. s.loaded) (lines_alone s m))) Q
    step_carries (Host n) junk = either Carries _ (is_host (kind_at V n) && ready V s n) (finished n (hosted V s n junk) refl refl) Q

  -- HISTORIES

  placed_none : (list : List Access) (k : ℕ) → placed list [] k ≡ []
  placed_none [] k = refl
  placed_none (a ∷ rest) zero = go (is_taken a)
    where
      go : (b : Bool) → ◌≡◌ {A = List ℕ} (if b then slice_index_or [] 0 [] else []) []
      go true = refl
      go false = refl
  placed_none (a ∷ rest) (suc k) = go (is_taken a) (placed_none rest k)
    where
      go : (b : Bool) → placed rest [] k ≡ [] → placed rest (if b then drop 1 [] else []) k ≡ []
      go true e = e
      go false e = e

  pub opened_device : (main : Bytes) → fresh_device (law_of program) main ≡ device_of V (opened main)
  opened_device main = ap (λ f. record { state = record (device_of V (opened main)).state { loaded = f }; begun = is_started V (opened main) }) (fun_ext (λ n. fun_ext (λ k. sym (placed_none (accesses_of V n) k))))

  pub opened_carries : (main : Bytes) → Carries (opened main)
  opened_carries main = record { within = λ n h. absurd (false≢true h); commands = λ n h. absurd (false≢true h); counted = λ n h. absurd (false≢true h) }

  one_on : (start : Device) (s t : State) (Q : Carries s) → StepsTo s Q t → History (law_of program) start (device_of V s) → History (law_of program) start (device_of V t)
  one_on start s t Q (inl g) h = goes_on h g
  one_on start s t Q (inr (inl m)) h = subst (λ f. History (law_of program) start (record { state = (device_of V t).state; begun = f })) (sym m.0) (moves_on h m.1)
  one_on start s t Q (inr (inr e)) h = subst (λ z. History (law_of program) start (device_of V z)) (sym e) h

  pub after_history : (start : Device) (told : List Told) (s : State) → Carries s → History (law_of program) start (device_of V s) → History (law_of program) start (device_of V (after program s told)) × Carries (after program s told)
  after_history start [] s Q h = (h, Q)
  after_history start (t ∷ rest) s Q h = after_history start rest (step program s t.event t.junk) (step_carries s Q t.event t.junk) (one_on start s (step program s t.event t.junk) Q (step_goes s Q t.event t.junk) h)

  -- whatever has happened since the opening is a history of the law's device
  pub history : (main : Bytes) (told : List Told) → History (law_of program) (fresh_device (law_of program) main) (device_of V (after program (opened main) told)) × Carries (after program (opened main) told)
  history main told = after_history (fresh_device (law_of program) main) told (opened main) (opened_carries main) (subst (λ z. History (law_of program) (fresh_device (law_of program) main) z) (opened_device main) opens)
