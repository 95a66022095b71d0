-- Signals of a queue are a chain, and the last one is before each host read.
use Rattle.std.proofs.Common.{◌≡◌, inl, inr, ℕ, zero, suc, ◌+◌, ◌-◌, ◌<◌, ◌≤◌, true, ◌&&◌, ◌==◌, nat_lt, not, Option, Some, None, List, length, drop, get_or, if◌then◌else◌, refl, sym, ap, ◌∙◌, subst, ⊎_elim, eq-eqb, eqb-true, arith}
use Rattle.std.proofs.lemmas.Bool.{and_parts, and_from, or_left, or_cases, lt-ltb, cases_eq, cases_lt}
use Rattle.std.proofs.lemmas.List.{get_or-drop, get_or_past}
use Rattle.std.proofs.lemmas.List.Sums.{fails_before_first, passes_at_first}
use Rattle.std.proofs.lemmas.List.Quantifiers.{position-Some}
use Rattle.std.specs.List.{position, position_or_len}
use Rattle.std.specs.Option.{option_map}
use Rattle.base.proofs.Absence.{some_same}
use Rattle.base.proofs.Booleans.{clash}
use Rattle.check_order.proofs.Lines.{met_sync, next_place}
use Rattle.check_order.specs.Edges.{is_sync, is_signal, is_wait, is_host, has_value, reaches, node_at, signalled, goes_to, next_signal, signals, meeting, is_at}
use Rattle.check_order.specs.Nodes.{no_node}
use Rattle.check_order.specs.declared.kind.Kind.{Kind}
use Rattle.check_order.specs.declared.kind.Kind.TheVariants.{Command, Barrier, Wait, Signal, Host}
use Rattle.check_order.specs.declared.node.Node.{Node}
use Rattle.base_reach.specs.Paths.{one, then_on}
use Rattle.check_table.specs.Joined.{Joined, holds_back, edge, UpTo, Before}
use Rattle.check_table.proofs.Nodes.{at, link, link_edge, backed, host_unsynced, signal_sync, up_to_on}

pub none_some : (x : ℕ) → None ≡ Some x → ⊥
none_some x e = cc

pub is_there : (o : Option ℕ) (x : ℕ) → is_at o x ≡ true → o ≡ Some x
is_there None x h = absurd (clash h)
is_there (Some m) x h = ap (λ n. Some n) (eqb-true m x h)

pub there_is : (o : Option ℕ) (x : ℕ) → o ≡ Some x → is_at o x ≡ true
there_is o x e = subst (λ p. is_at p x ≡ true) (sym e) (eq-eqb x x refl)

valued_signal : (kind : Kind) (value : ℕ) → has_value value kind ≡ true → is_signal kind ≡ true
valued_signal (Signal v) value h = refl
valued_signal Command value h = absurd (clash h)
valued_signal Barrier value h = absurd (clash h)
valued_signal (Wait q v) value h = absurd (clash h)
valued_signal Host value h = absurd (clash h)

pub met_signal : (nodes : List Node) (kind : Kind) (x : ℕ) → meeting nodes kind ≡ Some x → is_signal (node_at nodes x).kind ≡ true
met_signal nodes (Wait queue value) x e =
    let p = position-Some (reaches queue value) nodes x no_node e in
    valued_signal (node_at nodes x).kind value (and_parts ((node_at nodes x).queue == queue) (has_value value (node_at nodes x).kind) p.1).1
met_signal nodes Command x e = absurd (none_some x e)
met_signal nodes Barrier x e = absurd (none_some x e)
met_signal nodes (Signal value) x e = absurd (none_some x e)
met_signal nodes Host x e = absurd (none_some x e)

pub met_wait : (nodes : List Node) (kind : Kind) (x : ℕ) → meeting nodes kind ≡ Some x → is_wait kind ≡ true
met_wait nodes (Wait queue value) x e = refl
met_wait nodes Command x e = absurd (none_some x e)
met_wait nodes Barrier x e = absurd (none_some x e)
met_wait nodes (Signal value) x e = absurd (none_some x e)
met_wait nodes Host x e = absurd (none_some x e)

wait_sync : (kind : Kind) → is_wait kind ≡ true → is_sync kind ≡ true
wait_sync (Wait q v) h = refl
wait_sync Command h = absurd (clash h)
wait_sync Barrier h = absurd (clash h)
wait_sync (Signal v) h = absurd (clash h)
wait_sync Host h = absurd (clash h)

host_link : (nodes : List Node) (kind : Kind) (x : ℕ) → is_host kind ≡ true → is_at (meeting nodes kind) x ≡ true → ⊥
host_link nodes Host x h e = clash e
host_link nodes Command x h e = clash h
host_link nodes Barrier x h e = clash h
host_link nodes (Wait q v) x h e = clash h
host_link nodes (Signal v) x h e = clash h

module _ (nodes : List Node) where
  record Next (x y : ℕ) : Type 0 where
    pub n : ℕ
    pub next : next_signal nodes x ≡ Some n
    pub rising : x < n
    pub within : n ≤ y
    pub queue : (node_at nodes n).queue ≡ (node_at nodes x).queue
    pub signal : is_signal (node_at nodes n).kind ≡ true

  -- the next signal stands no later than any later signal
  next_found : (x y j k : ℕ) → x + 1 + j ≡ y → k ≡ position_or_len (signals (node_at nodes x).queue) (drop (x + 1) nodes) → (node_at nodes x).queue ≡ (node_at nodes y).queue → is_signal (node_at nodes y).kind ≡ true → Next x y
  next_found x y j k e f same s = record {
    n = x + 1 + k;
    next = ap (λ o. option_map (λ i. x + 1 + i) o) found;
    rising = omega arith;
    within = omega (arith, e, first);
    queue = eqb-true (node_at nodes (x + 1 + k)).queue (node_at nodes x).queue its.0;
    signal = its.1;
  }
    where
      passes : signals (node_at nodes x).queue (get_or (drop (x + 1) nodes) j no_node) ≡ true
      passes = subst (λ n. signals (node_at nodes x).queue n ≡ true) (sym (get_or-drop (x + 1) nodes j no_node ∙ ap (λ n. node_at nodes n) e))
          (and_from ((node_at nodes y).queue == (node_at nodes x).queue) (is_signal (node_at nodes y).kind) (eq-eqb (node_at nodes y).queue (node_at nodes x).queue (sym same)) s)

      first : k ≤ j
      first = ⊎_elim
          (λ (l : j < k). absurd (clash (sym (fails_before_first (signals (node_at nodes x).queue) (drop (x + 1) nodes) j no_node (subst (λ i. j < i) f l)) ∙ passes)))
          (λ (l : k ≤ j). l) (cases_lt j k)

      no_signal : (d : ℕ) → signals d no_node ≡ true → ⊥
      no_signal d h = clash (and_parts (no_node.queue == d) (is_signal no_node.kind) h).1

      inside : j < length (drop (x + 1) nodes)
      inside = ⊎_elim (λ l. l)
          (λ l. absurd (no_signal (node_at nodes x).queue (subst (λ n. signals (node_at nodes x).queue n ≡ true) (get_or_past (drop (x + 1) nodes) j no_node l) passes)))
          (cases_lt j (length (drop (x + 1) nodes)))

      found : position (signals (node_at nodes x).queue) (drop (x + 1) nodes) ≡ Some k
      found = subst (λ i. position (signals (node_at nodes x).queue) (drop (x + 1) nodes) ≡ Some i) (sym f)
          (ap (λ t. if t then Some (position_or_len (signals (node_at nodes x).queue) (drop (x + 1) nodes)) else None)
          (lt-ltb (position_or_len (signals (node_at nodes x).queue) (drop (x + 1) nodes)) (length (drop (x + 1) nodes)) (omega (arith, f, first, inside))))

      its : ((node_at nodes (x + 1 + k)).queue == (node_at nodes x).queue ≡ true) × (is_signal (node_at nodes (x + 1 + k)).kind ≡ true)
      its =
          let h = passes_at_first (signals (node_at nodes x).queue) (drop (x + 1) nodes) no_node (omega (arith, f, first, inside)) in
          let g = subst (λ i. signals (node_at nodes x).queue (get_or (drop (x + 1) nodes) i no_node) ≡ true) (sym f) h in
          let r = subst (λ n. signals (node_at nodes x).queue n ≡ true) (get_or-drop (x + 1) nodes k no_node) g in
          let t = and_parts ((node_at nodes (x + 1 + k)).queue == (node_at nodes x).queue) (is_signal (node_at nodes (x + 1 + k)).kind) r in
          (t.0, t.1)

  pub goes : (x y n : ℕ) → next_signal nodes x ≡ Some n → n ≡ y → is_signal (node_at nodes x).kind ≡ true → signalled nodes x y ≡ true
  goes x y n e f s = and_from (is_signal (node_at nodes x).kind) (goes_to nodes y (next_signal nodes x)) s (subst (λ o. goes_to nodes y o ≡ true) (sym e) (eq-eqb n y f))

pub next_signals : (nodes : List Node) (x n : ℕ) → next_signal nodes x ≡ Some n → is_signal (node_at nodes n).kind ≡ true
next_signals nodes x n e = go (position (signals (node_at nodes x).queue) (drop (x + 1) nodes)) refl e
  where
    go : (o : Option ℕ) → position (signals (node_at nodes x).queue) (drop (x + 1) nodes) ≡ o → option_map (λ k. x + 1 + k) o ≡ Some n → is_signal (node_at nodes n).kind ≡ true
    go None f g = absurd cc
    go (Some k) f g =
        let p = position-Some (signals (node_at nodes x).queue) (drop (x + 1) nodes) k no_node f in
        let r = subst (λ m. signals (node_at nodes x).queue m ≡ true) (get_or-drop (x + 1) nodes k no_node ∙ ap (λ m. node_at nodes m) (some_same g)) p.1 in
        (and_parts ((node_at nodes n).queue == (node_at nodes x).queue) (is_signal (node_at nodes n).kind) r).1

module _ (W : Joined) where
  -- a signal is before all later ones of its queue
  pub chain : (left x y : ℕ) → y ≤ x + left → x < y → (at W x).queue ≡ (at W y).queue → is_signal (at W x).kind ≡ true → is_signal (at W y).kind ≡ true → Before W x y
  chain zero x y le lt same s t = absurd (omega (arith, le, lt))
  chain (suc left) x y le lt same s t = go (λ n a b c d. chain left n y a b c d t) (next_found W.nodes x y (y - (x + 1)) (position_or_len (signals (at W x).queue) (drop (x + 1) W.nodes)) (omega (arith, lt)) refl same t)
    where
      step : (n : ℕ) → next_signal W.nodes x ≡ Some n → edge W x n ≡ true
      step n e = link_edge W x n (or_left (signalled W.nodes x n) (is_at (meeting W.nodes (at W n).kind) x) (goes W.nodes x n n e refl s))

      go : ((n : ℕ) → y ≤ n + left → n < y → (at W n).queue ≡ (at W y).queue → is_signal (at W n).kind ≡ true → Before W n y) → Next W.nodes x y → Before W x y
      go more r = ⊎_elim
          (λ e. one (subst (λ n. edge W x n ≡ true) e (step r.n r.next)))
          (λ ne. then_on (one (step r.n r.next)) (more r.n (let a = r.rising in omega (arith, le, a)) (let a = r.within in omega (arith, a, ne)) (r.queue ∙ same) r.signal))
          (cases_eq r.n y)

  edge_by : (x y : ℕ) → signalled W.nodes x y ≡ true → edge W x y ≡ true
  edge_by x y s = link_edge W x y (or_left (signalled W.nodes x y) (is_at (meeting W.nodes (at W y).kind) x) s)

  -- a signal is before each host read, by the last signal of its queue
  pub signal_host : (left g m : ℕ) → length W.nodes ≤ g + left → is_signal (at W g).kind ≡ true → is_host (at W m).kind ≡ true → Before W g m
  signal_host zero g m le s h = absurd (past (get_or_past W.nodes g no_node (omega (arith, le))))
    where
      past : at W g ≡ no_node → ⊥
      past e = clash (subst (λ n. is_signal n.kind ≡ true) e s)
  signal_host (suc left) g m le s h = go (λ n a b. signal_host left n m a b h) (next_signal W.nodes g) refl
    where
      go : ((n : ℕ) → length W.nodes ≤ n + left → is_signal (at W n).kind ≡ true → Before W n m) → (o : Option ℕ) → next_signal W.nodes g ≡ o → Before W g m
      go more None e = one (edge_by g m (and_from (is_signal (at W g).kind) (goes_to W.nodes m (next_signal W.nodes g)) s (subst (λ o. goes_to W.nodes m o ≡ true) (sym e) h)))
      go more (Some n) e =
          let p = next_place W.nodes g n (position (signals (at W g).queue) (drop (g + 1) W.nodes)) refl e in
          then_on (one (edge_by g n (goes W.nodes g n n e refl s))) (more n (omega (arith, le, p.0)) (next_signals W.nodes g n e))

  -- what has an edge to a host read is a signal
  pub from_signal : (z m : ℕ) → is_host (at W m).kind ≡ true → edge W z m ≡ true → is_signal (at W z).kind ≡ true
  from_signal z m h e = ⊎_elim
      (λ b. absurd (host_unsynced (at W m).kind h (backed W z m b).to))
      (λ l. ⊎_elim
      (λ s. (and_parts (is_signal (at W z).kind) (goes_to W.nodes m (next_signal W.nodes z)) s).0)
      (λ w. absurd (host_link W.nodes (at W m).kind z h w))
      (or_cases (signalled W.nodes z m) (is_at (meeting W.nodes (at W m).kind) z) l))
      (or_cases (nat_lt z m && (not (W.first z == W.first m) && holds_back W z m)) (link W z m) e)

  pub last_edge : (x m : ℕ) → Before W x m → (z : ℕ) × UpTo W x z × (edge W z m ≡ true)
  last_edge x m (one e) = (x, inl refl, e)
  last_edge x m (then_on {b = z} p q) = let r = last_edge z m q in (r.0, up_to_on W x z r.0 (inr p) r.1, r.2)

  -- an edge is from a node that holds others back
  pub edge_from : (x y : ℕ) → edge W x y ≡ true → is_sync (at W x).kind ≡ true
  edge_from x y h = ⊎_elim
      (λ e. (backed W x y e).from)
      (λ l. ⊎_elim
      (λ s. signal_sync (at W x).kind (and_parts (is_signal (at W x).kind) (goes_to W.nodes y (next_signal W.nodes x)) s).0)
      (λ m. (met_sync W.nodes (at W y).kind x (is_there (meeting W.nodes (at W y).kind) x m)).1)
      (or_cases (signalled W.nodes x y) (is_at (meeting W.nodes (at W y).kind) x) l))
      (or_cases (nat_lt x y && (not (W.first x == W.first y) && holds_back W x y)) (link W x y) h)

  pub before_from : (x y : ℕ) → Before W x y → is_sync (at W x).kind ≡ true
  before_from x y (one e) = edge_from x y e
  before_from x y (then_on {b = z} p q) = before_from x z p
