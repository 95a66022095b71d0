-- A sound program never stands still.
use Rattle.std.proofs.Common.{◌≡◌, ◌⊎◌, inl, inr, ℕ, ◌<◌, ◌≤◌, Bool, true, false, not, ◌&&◌, ◌||◌, ◌==◌, nat_lt, max, if◌then◌else◌, List, [], ◌∷◌, length, Some, refl, sym, ap, ◌∙◌, subst, ⊎_elim, eq-eqb, eqb-true, arith}
use Rattle.std.proofs.lemmas.Bool.{cases_eq, cases_Bool, false≢true, and_parts, and_from, or_left, or_right, lt-ltb, le-leb, leb-true}
use Rattle.std.proofs.lemmas.List.Quantifiers.{position-Some}
use Rattle.law_runs.proofs.Devices.{device_progressed}
use Rattle.law_runs.specs.Device.{MayBegin, MaySynchronize, DeviceGoesOn}
use Rattle.base.specs.declared.event.Event.{Event}
use Rattle.base.specs.declared.event.Event.TheVariants.{Begin, End, Sync, Move, Host}
use Rattle.device_cache.specs.Lines.{Bytes}
use Rattle.check_program.specs.Sound.{IsSound}
use Rattle.check_order.proofs.Bridge.{meets_edge}
use Rattle.check_order.proofs.Within.{edge_within}
use Rattle.check_order.specs.Edges.{edge, is_sync, is_host, is_wait, has_value, reaches, meeting, node_at}
use Rattle.check_order.specs.Nodes.{no_node}
use Rattle.check_order.specs.Orders.{Order}
use Rattle.check_order.specs.declared.kind.Kind.{Kind}
use Rattle.check_order.specs.declared.kind.Kind.TheVariants as kinds
use Rattle.device_model.proofs.Cases.{not_sync, sync_not_host}
use Rattle.device_model.proofs.Commands.{Commands}
use Rattle.device_model.proofs.Control.{done_of, put_other, put_at, every_node}
use Rattle.device_model.proofs.Formed.{Formed}
use Rattle.device_model.proofs.Going.{Carries, step_carries, opened_carries, history}
use Rattle.device_model.proofs.Lawful.{law_formed, law_sound}
use Rattle.device_model.proofs.Moving.{lines_alone}
use Rattle.device_model.proofs.SystemOf.{command_at, out_of, law_of, device_of, access_of}
use Rattle.device_model.proofs.Viewed.{to_law}
use Rattle.device_model.specs.Laws.{HoldsImports, AllDone, GoesOn}
use Rattle.device_model.specs.Ready.{is_command, kind_at, each_node, reached, ready}
use Rattle.device_model.specs.States.{is_idle, is_begun, is_done, State, opened, put}
use Rattle.device_model.specs.Steps.{made, begun, ended, raised_by, raised, synced, hosted, lines_moved, may_move, step, Told, after}
use Rattle.device_model.specs.declared.phase.Phase.{Phase}
use Rattle.device_model.specs.declared.phase.Phase.TheVariants.{Idle, Begun, Done}
use Rattle.program.specs.declared.program.Program.{Program}
use Rattle.check_access.specs.AccessKinds.{changes}
use Rattle.check_access.specs.ValidView.{Has}
use Rattle.check_access.specs.Views.{View, view_of, queue_at}
use Rattle.check_access.specs.declared.access.Access.{Access}

-- timelines have reached the values of the signals that are done
abbrev pub Counted : View → (ℕ → Bool) → (ℕ → ℕ) → Type 0
Counted V done counter = (x value : ℕ) → done x ≡ true → kind_at V x ≡ kinds.Signal value → value ≤ counter (queue_at V x)

-- COUNTERS

raised_more : (queue : ℕ) (k : Kind) (counter : ℕ → ℕ) (q : ℕ) → counter q ≤ raised queue k counter q
raised_more queue k counter q = go (queue == q)
  where
    more : (k : Kind) (v : ℕ) → v ≤ raised_by k v
    more (kinds.Signal value) v = grind arith
    more k v = omega arith

    go : (b : Bool) → counter q ≤ (if b then raised_by k (counter q) else counter q)
    go true = more k (counter q)
    go false = omega arith

raised_to : (queue value : ℕ) (counter : ℕ → ℕ) → value ≤ raised queue (kinds.Signal value) counter queue
raised_to queue value counter = subst (λ b. value ≤ (if b then max value (counter queue) else counter queue)) (sym (eq-eqb queue queue refl)) (at_least value (counter queue))
  where
    at_least : (a b : ℕ) → a ≤ max a b
    at_least a b = grind arith

module _ (V : View) (phase : ℕ → Phase) (n : ℕ) (counter : ℕ → ℕ) (C : Counted V (done_of phase) counter) where
  grows : (x : ℕ) → is_done (put phase n Done x) ≡ true → (x ≡ n) ⊎ (is_done (phase x) ≡ true)
  grows x h = ⊎_elim (λ e. inl e) (λ e. inr (ap is_done (sym (put_other phase n x Done e)) ∙ h)) (cases_eq x n)

  -- n is finished, and is no signal
  quiet : (is_sync (kind_at V n) ≡ true → ⊥) → Counted V (done_of (put phase n Done)) counter
  quiet other x value h e = ⊎_elim (λ q. absurd (other (ap (λ z. is_sync (kind_at V z)) (sym q) ∙ ap is_sync e))) (λ d. C x value d e) (grows x h)

  signalled : Counted V (done_of (put phase n Done)) (raised (queue_at V n) (kind_at V n) counter)
  signalled x value h e = go (grows x h)
    where
      more : (z : ℕ) → counter z ≤ raised (queue_at V n) (kind_at V n) counter z
      more z = raised_more (queue_at V n) (kind_at V n) counter z

      go : (x ≡ n) ⊎ (is_done (phase x) ≡ true) → value ≤ raised (queue_at V n) (kind_at V n) counter (queue_at V x)
      go (inl q) =
          let is : kind_at V n ≡ kinds.Signal value = ap (kind_at V) (sym q) ∙ e in
          subst (λ z. value ≤ raised (queue_at V n) (kind_at V n) counter (queue_at V z)) (sym q) (subst (λ k. value ≤ raised (queue_at V n) k counter (queue_at V n)) (sym is) (raised_to (queue_at V n) value counter))
      go (inr d) = let a = C x value d e in let b = more (queue_at V x) in omega (arith, a, b)

-- EACH EVENT

module _ (program : Program) (F : Formed (view_of program)) where
  abbrev V : View
  V = view_of program

  abbrev Counts : State → Type 0
  Counts s = Counted V (done_of s.phase) s.counter

  module _ (s : State) (Q : Carries program F s) (C : Counts s) where
    begin_or : (n : ℕ) (junk : List ℕ) (b : Bool) → Counts (if b then begun V s n junk else s)
    begin_or n junk false = C
    begin_or n junk true = λ x value h k. ⊎_elim
        (λ e. absurd (false≢true (sym (ap is_done (put_at s.phase n x Begun e)) ∙ h)))
        (λ e. C x value (ap is_done (sym (put_other s.phase n x Begun e)) ∙ h) k)
        (cases_eq x n)

    end_or : (n : ℕ) (junk : List ℕ) (b : Bool) → is_begun (s.phase n) ≡ b → Counts (if b then ended V s n (made program s n junk) else s)
    end_or n junk false e = C
    end_or n junk true e = quiet V s.phase n s.counter C (λ h. not_sync (kind_at V n) (Q.commands n e) h)

    sync_or : (n : ℕ) (junk : List ℕ) (b : Bool) → Counts (if b then synced V s n junk else s)
    sync_or n junk false = C
    sync_or n junk true = signalled V s.phase n s.counter C

    host_or : (n : ℕ) (junk : List ℕ) (b : Bool) → (is_host (kind_at V n) && ready V s n) ≡ b → Counts (if b then hosted V s n junk else s)
    host_or n junk false e = C
    host_or n junk true e = quiet V s.phase n s.counter C (λ h. sync_not_host (kind_at V n) h (and_parts (is_host (kind_at V n)) (ready V s n) e).0)

    either : (t : State) (b : Bool) → Counts t → Counts (if b then t else s)
    either t true D = D
    either t false D = C

    step_counts : (event : Event) (junk : List ℕ) → Counts (step program s event junk)
    step_counts (Begin n) junk = begin_or n junk (is_command (kind_at V n) && ready V s n)
    step_counts (End n) junk = end_or n junk _ refl
    step_counts (Sync n) junk = sync_or n junk (is_sync (kind_at V n) && ready V s n)
    step_counts (Move m) junk = either (lines_moved s m) (may_move program m) (subst Counts (sym (lines_alone s m)) C)
    step_counts (Host n) junk = host_or n junk _ refl

  after_counts : (told : List Told) (s : State) → Carries program F s → Counts s → Counts (after program s told)
  after_counts [] s Q C = C
  after_counts (t ∷ rest) s Q C = after_counts rest (step program s t.event t.junk) (step_carries program F s Q t.event t.junk) (step_counts s Q C t.event t.junk)

-- IT CAN GO ON

valued : (k : Kind) (least : ℕ) → has_value least k ≡ true → (value : ℕ) × (k ≡ kinds.Signal value) × (least ≤ value)
valued (kinds.Signal value) least h = (value, refl, leb-true least value h)
valued k least h = absurd (false≢true h)

module _ (V : View) (order : List ℕ) (O : Order V.nodes order) (s : State) (C : Counted V (done_of s.phase) s.counter) (n : ℕ) (lt : n < length V.nodes) (d : (x : ℕ) → edge V.nodes x n ≡ true → is_done (s.phase x) ≡ true) where
  met : (k : Kind) → kind_at V n ≡ k → reached k s.counter ≡ true
  met kinds.Command e = refl
  met kinds.Barrier e = refl
  met (kinds.Signal value) e = refl
  met kinds.Host e = refl
  met (kinds.Wait queue value) e =
      let t = O.turns.met n (O.all n lt) (ap is_wait e) in
      let is : meeting V.nodes (kinds.Wait queue value) ≡ Some t.0 = ap (meeting V.nodes) (sym e) ∙ t.1 in
      let p = (position-Some (reaches queue value) V.nodes t.0 no_node is).1 in
      let q = and_parts ((node_at V.nodes t.0).queue == queue) (has_value value (node_at V.nodes t.0).kind) p in
      let v = valued (kind_at V t.0) value q.1 in
      let a : v.0 ≤ s.counter queue = subst (λ z. v.0 ≤ s.counter z) (eqb-true (queue_at V t.0) queue q.0) (C t.0 v.0 (d t.0 (meets_edge V.nodes t.0 n t.1)) v.1) in
      le-leb value (s.counter queue) (omega (arith, a, v.2))

  ready_from : is_idle (s.phase n) ≡ true → ready V s n ≡ true
  ready_from i =
      let after = each_node V (λ x. not (edge V.nodes x n) || is_done (s.phase x)) in
      and_from (nat_lt n (length V.nodes)) (is_idle (s.phase n) && (after && reached (kind_at V n) s.counter)) (lt-ltb n (length V.nodes) lt)
      (and_from (is_idle (s.phase n)) (after && reached (kind_at V n) s.counter) i
      (and_from after (reached (kind_at V n) s.counter) (every_node V (λ x. not (edge V.nodes x n) || is_done (s.phase x)) (λ x lt. held x (cases_Bool (edge V.nodes x n)))) (met (kind_at V n) refl)))
    where
      held : (x : ℕ) → (edge V.nodes x n ≡ true) ⊎ (edge V.nodes x n ≡ false) → (not (edge V.nodes x n) || is_done (s.phase x)) ≡ true
      held x (inl e) = or_right (not (edge V.nodes x n)) (is_done (s.phase x)) (d x e)
      held x (inr e) = or_left (not (edge V.nodes x n)) (is_done (s.phase x)) (ap not e)

-- a command that is not done is idle or begun, and a synchronizing node that is not done has not begun
open_command : (p : Phase) (b : Bool) → b ≡ true → (not (is_idle p) && b) ≡ true → is_done p ≡ false → is_begun p ≡ true
open_command Idle b e h f = absurd (false≢true h)
open_command Begun b e h f = refl
open_command Done b e h f = absurd (false≢true (sym f))

idle_command : (p : Phase) (b : Bool) → b ≡ true → (not (is_idle p) && b) ≡ false → is_idle p ≡ true
idle_command Idle b e h = refl
idle_command Begun b e h = absurd (false≢true (sym h ∙ e))
idle_command Done b e h = absurd (false≢true (sym h ∙ e))

idle_or_begun : (p : Phase) → is_done p ≡ false → (is_idle p ≡ true) ⊎ (is_begun p ≡ true)
idle_or_begun Idle f = inl refl
idle_or_begun Begun f = inr refl
idle_or_begun Done f = absurd (false≢true (sym f))

started_command : (a b : Bool) → (a && b) ≡ true → b ≡ true
started_command a b h = (and_parts a b h).1

module _ (program : Program) (C : Commands program) (sound : IsSound program) (main : Bytes) (holds : HoldsImports program main) (told : List Told) where
  abbrev U : View
  U = view_of program

  abbrev s : State
  s = after program (opened main) told

  counts : Counted (view_of program) (done_of (after program (opened main) told).phase) (after program (opened main) told).counter
  counts = after_counts program C.formed told (opened main) (opened_carries program C.formed main) (λ x value h e. absurd (false≢true h))

  go_on : (n : ℕ) → n < length U.nodes → ((x : ℕ) → edge U.nodes x n ≡ true → is_done (s.phase x) ≡ true) → is_idle (s.phase n) ≡ true → GoesOn U s
  go_on n lt d i = (n, inl (ready_from U sound.0 sound.1.order_is.order s counts n lt d i))

  begins : (n : ℕ) → MayBegin (law_of program) (device_of U s) n → GoesOn U s
  begins n M = go_on n M.within (λ x e. M.entered (access_of U n a.0) (a.1.0, to_law U (out_of program) n a.1.0 a.0 a.1.1) x (ap (λ z. if z then edge U.nodes x n else n == x) M.command ∙ e)) (idle_command (s.phase n) (command_at U n) M.command M.idle)
    where
      a : (a : Access) × Has (view_of program) n a × (changes a.kind ≡ true)
      a = C.formed.stores n M.within M.command

  synchronizes : (n : ℕ) → MaySynchronize (law_of program) (device_of U s) n → GoesOn U s
  synchronizes n M = ⊎_elim (λ i. go_on n M.within before i) (λ b. (n, inr b)) (idle_or_begun (s.phase n) M.fresh)
    where
      before : (x : ℕ) → edge (view_of program).nodes x n ≡ true → is_done ((after program (opened main) told).phase x) ≡ true
      before x e = ⊎_elim
          (λ c. let a = C.formed.stores x (edge_within U.nodes x n e).0 c in M.left x (access_of U x a.0) (a.1.0, to_law U (out_of program) x a.1.0 a.0 a.1.1) c (ap (λ z. if z then edge U.nodes x n else x == n) c ∙ e))
          (λ c. M.edges x (and_from (edge U.nodes x n) (not (command_at U x) && not (command_at U n)) e (and_from (not (command_at U x)) (not (command_at U n)) (ap not c) (ap not M.sync))))
          (cases_Bool (command_at U x))

  goes_on : DeviceGoesOn (law_of program) (device_of U s) → GoesOn U s
  goes_on t = ⊎_elim (λ M. begins t.0 M) (λ r. ⊎_elim (λ b. (t.0, inr (open_command (s.phase t.0) (command_at U t.0) (started_command (not (is_idle (s.phase t.0))) (command_at U t.0) b.0) b.0 b.1))) (λ M. synchronizes t.0 M) r) t.1

  pub progressed : AllDone (view_of program) (after program (opened main) told) ⊎ GoesOn (view_of program) (after program (opened main) told)
  progressed = ⊎_elim (λ all. inl all) (λ t. inr (goes_on t)) (device_progressed (law_of program) (law_formed program C) (law_sound program C sound) main (device_of U s) (history program C.formed main told).0)
