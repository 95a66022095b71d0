-- A node is free where every node with a direct edge to it is done.
use Rattle.std.proofs.Common.{◌≡◌, ℕ, ◌<◌, Bool, true, false, not, ◌&&◌, ◌||◌, ◌==◌, nat_lt, Option, Some, None, List, length, refl, sym, ap, ◌∙◌, subst, ⊎_elim, eq-eqb, eqb-true, arith}
use Rattle.std.proofs.lemmas.Bool.{cases_lt, cases_Bool, false≢true, and_parts, and_from, or_cases, or_left, or_right, or_from, lt-ltb, ltb-true, not-true}
use Rattle.std.proofs.lemmas.List.{get_or_past}
use Rattle.std.proofs.lemmas.List.Quantifiers.{position-Some}
use Rattle.std.proofs.lemmas.Option.{slice_get_within}
use Rattle.std.specs.List.{list_all}
use Rattle.std.specs.Prelude.{if◌then◌else◌}
use Rattle.std.specs.Cmp.{both_ways}
use Rattle.vk.specs.Sets.{meets}
use Rattle.device_nodes.proofs.Below.{some_at, some_one, last_at, last_is, IsLast}
use Rattle.device_nodes.proofs.Ranges.{every_node, at_node, all_items, item_all}
use Rattle.device_nodes.proofs.Signals.{next_some, next_none, next_is, next_is_none}
use Rattle.device_nodes.specs.Internal.Blocked.{is_open, blocks_all, blocks_by_sync, signal_below, Gathers, is_blocked, AreLast, is_free}
use Rattle.device_nodes.specs.declared.blocked.Blocked.{Blocked}
use Rattle.check_order.proofs.Bridge.{is_same}
use Rattle.check_order.specs.Edges.{is_signal, is_sync, is_host, is_at, signals, reaches, holds_back, next_signal, meeting, goes_to, signalled, node_at, edge}
use Rattle.check_order.specs.Nodes.{no_node}
use Rattle.check_order.specs.declared.kind.Kind.{Kind}
use Rattle.check_order.specs.declared.kind.Kind.TheVariants.{Command, Barrier, Wait, Signal, Host}
use Rattle.check_order.specs.declared.node.Node.{Node}
use Rattle.device_model.specs.Ready.{kind_at, each_node}
use Rattle.device_model.specs.States.{is_done}
use Rattle.device_model.specs.declared.phase.Phase.{Phase}
use Rattle.check_access.specs.ValidView.{ValidView}
use Rattle.check_access.specs.Views.{View, queue_at}

-- EDGES

pub met_within : (nodes : List Node) (kind : Kind) (x : ℕ) → meeting nodes kind ≡ Some x → x < length nodes
met_within nodes (Wait queue value) x e = (position-Some (reaches queue value) nodes x no_node e).0
met_within nodes Command x e = absurd cc
met_within nodes Barrier x e = absurd cc
met_within nodes (Signal value) x e = absurd cc
met_within nodes Host x e = absurd cc

pub signal_not_host : (kind : Kind) → is_signal kind ≡ true → is_host kind ≡ false
signal_not_host (Signal value) h = refl
signal_not_host Command h = absurd (false≢true h)
signal_not_host Barrier h = absurd (false≢true h)
signal_not_host (Wait queue value) h = absurd (false≢true h)
signal_not_host Host h = absurd (false≢true h)

module _ (nodes : List Node) (x n : ℕ) where
  line_edge : x < n → holds_back (node_at nodes x) (node_at nodes n) ≡ true → edge nodes x n ≡ true
  line_edge lt h = or_left (nat_lt x n && holds_back (node_at nodes x) (node_at nodes n)) (signalled nodes x n || is_at (meeting nodes (node_at nodes n).kind) x) (and_from (nat_lt x n) (holds_back (node_at nodes x) (node_at nodes n)) (lt-ltb x n lt) h)

  signal_edge : is_signal (node_at nodes x).kind ≡ true → goes_to nodes n (next_signal nodes x) ≡ true → edge nodes x n ≡ true
  signal_edge s h =
      or_right (nat_lt x n && holds_back (node_at nodes x) (node_at nodes n)) (signalled nodes x n || is_at (meeting nodes (node_at nodes n).kind) x)
      (or_left (signalled nodes x n) (is_at (meeting nodes (node_at nodes n).kind) x) (and_from (is_signal (node_at nodes x).kind) (goes_to nodes n (next_signal nodes x)) s h))

  pub met_edge : meeting nodes (node_at nodes n).kind ≡ Some x → edge nodes x n ≡ true
  met_edge e =
      or_right (nat_lt x n && holds_back (node_at nodes x) (node_at nodes n)) (signalled nodes x n || is_at (meeting nodes (node_at nodes n).kind) x)
      (or_right (signalled nodes x n) (is_at (meeting nodes (node_at nodes n).kind) x) (ap (λ o. is_at o x) e ∙ eq-eqb x x refl))

-- a node with an edge is there
no_signal : (nodes : List Node) (x : ℕ) → is_signal (node_at nodes x).kind ≡ true → x < length nodes
no_signal nodes x h = ⊎_elim (λ lt. lt) (λ ge. absurd (false≢true (sym (ap (λ z. is_signal z.kind) (get_or_past nodes x no_node ge)) ∙ h))) (cases_lt x (length nodes))

-- where each node with an edge to node n is done
module _ (V : View) (phase : ℕ → Phase) (n : ℕ) (lt : n < length V.nodes) (h : each_node V (λ x. not (edge V.nodes x n) || is_done (phase x)) ≡ true) where
  pub edge_done : (x : ℕ) → x < length V.nodes → edge V.nodes x n ≡ true → is_done (phase x) ≡ true
  edge_done x l e = ⊎_elim (λ k. absurd (false≢true (sym (ap not e) ∙ k))) (λ k. k) (or_cases (not (edge V.nodes x n)) (is_done (phase x)) (at_node V (λ x. not (edge V.nodes x n) || is_done (phase x)) h x l))

  -- no open node of its queue blocks it
  pub line_clash : (x : ℕ) → x < n → blocks_all V phase (queue_at V n) (node_at V.nodes n).src_stages.0 x ≡ true → (is_sync (kind_at V x) || is_sync (kind_at V n)) ≡ true → ⊥
  line_clash x l k sync =
      let blocked = (node_at V.nodes x).dst_stages.0 in
      let waits = (node_at V.nodes n).src_stages.0 in
      let p = and_parts ((queue_at V x == queue_at V n) && not (is_done (phase x))) (meets blocked waits) k in
      let q = and_parts (queue_at V x == queue_at V n) (not (is_done (phase x))) p.0 in
      let back = and_from (queue_at V x == queue_at V n) ((is_sync (kind_at V x) || is_sync (kind_at V n)) && meets blocked waits) q.0 (and_from (is_sync (kind_at V x) || is_sync (kind_at V n)) (meets blocked waits) sync p.1) in
      false≢true (sym (not-true (is_done (phase x)) q.1) ∙ edge_done x (omega (arith, l, lt)) (line_edge V.nodes x n l back))

module _ (V : View) (S : ValidView V) (phase : ℕ → Phase) (n : ℕ) (lt : n < length V.nodes) (blocked : Blocked) (G : Gathers V phase (queue_at V n) n blocked) (lasts : List (Option ℕ)) (L : AreLast V lasts) where
  abbrev at : ℕ → Node
  at x = node_at V.nodes x

  abbrev goes : ℕ → Bool
  goes x = not (edge V.nodes x n) || is_done (phase x)

  abbrev done_last : Option ℕ → Bool
  done_last last = not (is_open phase last)

  abbrev met : Option ℕ
  met = meeting V.nodes (kind_at V n)

  -- what is gathered of stages
  abbrev waits : Bool → Bool
  waits sync = meets (if sync then blocked.by_all.0 else blocked.by_syncs.0) (at n).src_stages.0

  signal_at : (x : ℕ) → is_signal (at x).kind ≡ true → (q : ℕ) → (at x).queue ≡ q → signals q (at x) ≡ true
  signal_at x s q e = and_from ((at x).queue == q) (is_signal (at x).kind) (eq-eqb (at x).queue q e) s

  open_some : (x : ℕ) → is_open phase (Some x) ≡ false → is_done (phase x) ≡ true
  open_some x h = ⊎_elim (λ e. e) (λ e. absurd (false≢true (sym h ∙ ap not e))) (cases_Bool (is_done (phase x)))

  -- WHERE IT IS FREE

  module _ (h : is_free V phase lasts blocked n ≡ true) where
    outer : (not (is_blocked blocked (at n)) ≡ true) × ((not (is_open phase met) && (not (is_host (kind_at V n)) || list_all done_last lasts)) ≡ true)
    outer = and_parts (not (is_blocked blocked (at n))) (not (is_open phase met) && (not (is_host (kind_at V n)) || list_all done_last lasts)) h

    inner : (not (is_open phase met) ≡ true) × ((not (is_host (kind_at V n)) || list_all done_last lasts) ≡ true)
    inner = and_parts (not (is_open phase met)) (not (is_host (kind_at V n)) || list_all done_last lasts) outer.1

    not_blocked : is_blocked blocked (at n) ≡ true → ⊥
    not_blocked e = false≢true (sym (ap not e) ∙ outer.0)

    by_line : (x : ℕ) → x < n → holds_back (at x) (at n) ≡ true → is_done (phase x) ≡ true
    by_line x l b = ⊎_elim (λ e. e) (λ e. absurd (blocked_at e (is_sync (at n).kind) refl)) (cases_Bool (is_done (phase x)))
      where
        p : (((at x).queue == (at n).queue) ≡ true) × (((is_sync (at x).kind || is_sync (at n).kind) && meets (at x).dst_stages.0 (at n).src_stages.0) ≡ true)
        p = and_parts ((at x).queue == (at n).queue) ((is_sync (at x).kind || is_sync (at n).kind) && meets (at x).dst_stages.0 (at n).src_stages.0) b

        q : ((is_sync (at x).kind || is_sync (at n).kind) ≡ true) × (meets (at x).dst_stages.0 (at n).src_stages.0 ≡ true)
        q = and_parts (is_sync (at x).kind || is_sync (at n).kind) (meets (at x).dst_stages.0 (at n).src_stages.0) p.1

        all : is_done (phase x) ≡ false → blocks_all V phase (queue_at V n) (at n).src_stages.0 x ≡ true
        all e = and_from ((queue_at V x == queue_at V n) && not (is_done (phase x))) (meets (at x).dst_stages.0 (at n).src_stages.0) (and_from (queue_at V x == queue_at V n) (not (is_done (phase x))) p.0 (ap not e)) q.1

        waits_on : is_done (phase x) ≡ false → (b : Bool) → is_sync (at n).kind ≡ b → waits b ≡ true
        waits_on e true s = G.by_all (at n).src_stages.0 ∙ some_at (blocks_all V phase (queue_at V n) (at n).src_stages.0) n x l (all e)
        waits_on e false s =
            let t = ⊎_elim (λ k. k) (λ k. absurd (false≢true (sym s ∙ k))) (or_cases (is_sync (at x).kind) (is_sync (at n).kind) q.0) in
            G.by_syncs (at n).src_stages.0 ∙ some_at (blocks_by_sync V phase (queue_at V n) (at n).src_stages.0) n x l (and_from (is_sync (at x).kind) (blocks_all V phase (queue_at V n) (at n).src_stages.0 x) t (all e))

        blocked_at : is_done (phase x) ≡ false → (b : Bool) → is_sync (at n).kind ≡ b → ⊥
        blocked_at e b s = not_blocked (or_left (waits (is_sync (at n).kind)) (is_signal (at n).kind && blocked.signal) (ap waits s ∙ waits_on e b s))

    by_next : (x : ℕ) → is_signal (at x).kind ≡ true → next_signal V.nodes x ≡ Some n → is_done (phase x) ≡ true
    by_next x s e =
        let f = next_some V.nodes x n e in
        let k = and_parts ((at n).queue == (at x).queue) (is_signal (at n).kind) f.signal in
        let on : (at x).queue ≡ queue_at V n = sym (eqb-true (at n).queue (at x).queue k.0) in
        let last : signal_below V (queue_at V n) n ≡ Some x = subst (λ q. signal_below V q n ≡ Some x) on (last_is (λ y. signals (at x).queue (at y)) n x (record { below = f.after; passes = signal_at x s (at x).queue refl; none = f.none })) in
        let signal : blocked.signal ≡ is_open phase (Some x) = G.signal ∙ ap (is_open phase) last in
        ⊎_elim
        (λ t. absurd (not_blocked (or_right (waits (is_sync (at n).kind)) (is_signal (at n).kind && blocked.signal) (and_from (is_signal (at n).kind) blocked.signal k.1 t))))
        (λ t. open_some x (sym signal ∙ t))
        (cases_Bool blocked.signal)

    by_last : (x : ℕ) → is_signal (at x).kind ≡ true → next_signal V.nodes x ≡ None → is_host (at n).kind ≡ true → is_done (phase x) ≡ true
    by_last x s e host =
        let f = S.family x (no_signal V.nodes x s) (signal_not_host (at x).kind s) in
        let small = slice_get_within V.families (queue_at V x) f.0 f.1 in
        let last : signal_below V (queue_at V x) (length V.nodes) ≡ Some x = last_is (λ y. signals (at x).queue (at y)) (length V.nodes) x (record { below = no_signal V.nodes x s; passes = signal_at x s (at x).queue refl; none = λ k a b. next_none V.nodes x e k a b }) in
        let all : list_all done_last lasts ≡ true = ⊎_elim (λ t. absurd (false≢true (sym (ap not host) ∙ t))) (λ t. t) (or_cases (not (is_host (kind_at V n))) (list_all done_last lasts) inner.1) in
        let here = item_all done_last lasts None all (queue_at V x) (subst (λ m. queue_at V x < m) (sym L.size) small) in
        open_some x (not-true (is_open phase (Some x)) (ap done_last (sym (L.each (queue_at V x) small ∙ last)) ∙ here))

    by_signal : (x : ℕ) (o : Option ℕ) → next_signal V.nodes x ≡ o → is_signal (at x).kind ≡ true → goes_to V.nodes n o ≡ true → is_done (phase x) ≡ true
    by_signal x (Some m) e s g = by_next x s (e ∙ ap (λ z. Some z) (eqb-true m n g))
    by_signal x None e s g = by_last x s e g

    by_met : (x : ℕ) → met ≡ Some x → is_done (phase x) ≡ true
    by_met x e = open_some x (ap (is_open phase) (sym e) ∙ not-true (is_open phase met) inner.0)

    done_before : (x : ℕ) → edge V.nodes x n ≡ true → is_done (phase x) ≡ true
    done_before x e = ⊎_elim
        (λ a. let p = and_parts (nat_lt x n) (holds_back (at x) (at n)) a in by_line x (ltb-true x n p.0) p.1)
        (λ a. ⊎_elim
        (λ b. let p = and_parts (is_signal (at x).kind) (goes_to V.nodes n (next_signal V.nodes x)) b in by_signal x (next_signal V.nodes x) refl p.0 p.1)
        (λ b. by_met x (is_same met x b))
        (or_cases (signalled V.nodes x n) (is_at met x) a))
        (or_cases (nat_lt x n && holds_back (at x) (at n)) (signalled V.nodes x n || is_at met x) e)

    free_each : each_node V goes ≡ true
    free_each = every_node V goes (λ x l. ⊎_elim (λ e. or_right (not (edge V.nodes x n)) (is_done (phase x)) (done_before x e)) (λ e. or_left (not (edge V.nodes x n)) (is_done (phase x)) (ap not e)) (cases_Bool (edge V.nodes x n)))

  -- WHERE EACH IS DONE

  module _ (h : each_node V goes ≡ true) where
    clash : (x : ℕ) → x < length V.nodes → edge V.nodes x n ≡ true → is_done (phase x) ≡ false → ⊥
    clash x l e k = false≢true (sym k ∙ edge_done V phase n lt h x l e)

    no_waits : (b : Bool) → is_sync (at n).kind ≡ b → waits b ≡ true → ⊥
    no_waits true s w =
        let r = some_one (blocks_all V phase (queue_at V n) (at n).src_stages.0) n (sym (G.by_all (at n).src_stages.0) ∙ w) in
        line_clash V phase n lt h r.0 r.1 r.2 (or_right (is_sync (at r.0).kind) (is_sync (at n).kind) s)
    no_waits false s w =
        let r = some_one (blocks_by_sync V phase (queue_at V n) (at n).src_stages.0) n (sym (G.by_syncs (at n).src_stages.0) ∙ w) in
        let p = and_parts (is_sync (at r.0).kind) (blocks_all V phase (queue_at V n) (at n).src_stages.0 r.0) r.2 in
        line_clash V phase n lt h r.0 r.1 p.1 (or_left (is_sync (at r.0).kind) (is_sync (at n).kind) p.0)

    no_signal_open : is_signal (at n).kind ≡ true → (o : Option ℕ) → signal_below V (queue_at V n) n ≡ o → is_open phase o ≡ true → ⊥
    no_signal_open s None e k = false≢true k
    no_signal_open s (Some x) e k =
        let last = last_at (λ y. signals (queue_at V n) (at y)) n x e in
        let p = and_parts ((at x).queue == queue_at V n) (is_signal (at x).kind) last.passes in
        let on : queue_at V n ≡ (at x).queue = sym (eqb-true (at x).queue (queue_at V n) p.0) in
        let next : next_signal V.nodes x ≡ Some n = next_is V.nodes x n (subst (λ q. IsLast (λ y. signals q (at y)) n x) on last) lt (subst (λ q. signals q (at n) ≡ true) on (signal_at n s (queue_at V n) refl)) in
        clash x (omega (arith, last.below, lt)) (signal_edge V.nodes x n p.1 (ap (goes_to V.nodes n) next ∙ eq-eqb n n refl)) (not-true (is_done (phase x)) k)

    free : is_blocked blocked (at n) ≡ false
    free = or_from (waits (is_sync (at n).kind)) (is_signal (at n).kind && blocked.signal)
        (⊎_elim (λ e. absurd (no_waits (is_sync (at n).kind) refl e)) (λ e. e) (cases_Bool (waits (is_sync (at n).kind))))
        (⊎_elim (λ e. absurd (let p = and_parts (is_signal (at n).kind) blocked.signal e in no_signal_open p.0 (signal_below V (queue_at V n) n) refl (sym G.signal ∙ p.1))) (λ e. e) (cases_Bool (is_signal (at n).kind && blocked.signal)))

    met_done : (o : Option ℕ) → met ≡ o → is_open phase o ≡ false
    met_done None e = refl
    met_done (Some x) e = ap not (edge_done V phase n lt h x (met_within V.nodes (kind_at V n) x e) (met_edge V.nodes x n e))

    last_done : is_host (at n).kind ≡ true → (q : ℕ) → q < length V.families → (o : Option ℕ) → signal_below V q (length V.nodes) ≡ o → done_last o ≡ true
    last_done host q l None e = refl
    last_done host q l (Some x) e =
        let last = last_at (λ y. signals q (at y)) (length V.nodes) x e in
        let p = and_parts ((at x).queue == q) (is_signal (at x).kind) last.passes in
        let on : q ≡ (at x).queue = sym (eqb-true (at x).queue q p.0) in
        let none : next_signal V.nodes x ≡ None = next_is_none V.nodes x (subst (λ z. IsLast (λ y. signals z (at y)) (length V.nodes) x) on last) in
        ap (λ z. not (not z)) (edge_done V phase n lt h x last.below (signal_edge V.nodes x n p.1 (ap (goes_to V.nodes n) none ∙ host)))

    lasts_done : (b : Bool) → is_host (at n).kind ≡ b → (not b || list_all done_last lasts) ≡ true
    lasts_done false e = refl
    lasts_done true e = all_items done_last lasts None (λ q l. let small = subst (λ m. q < m) L.size l in ap done_last (L.each q small) ∙ last_done e q small (signal_below V q (length V.nodes)) refl)

    each_free : is_free V phase lasts blocked n ≡ true
    each_free =
        and_from (not (is_blocked blocked (at n))) (not (is_open phase met) && (not (is_host (kind_at V n)) || list_all done_last lasts)) (ap not free)
        (and_from (not (is_open phase met)) (not (is_host (kind_at V n)) || list_all done_last lasts) (ap not (met_done met refl)) (lasts_done (is_host (at n).kind) refl))

  pub free_edges : is_free V phase lasts blocked n ≡ each_node V goes
  free_edges = both_ways (is_free V phase lasts blocked n) (each_node V goes) free_each each_free
