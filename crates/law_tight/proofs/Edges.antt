-- An edge between nodes is one between the given nodes that they follow.
use Rattle.std.proofs.Common.{◌≡◌, ⊎_elim, ℕ, ◌+◌, ◌==◌, ◌&&◌, ◌||◌, nat_lt, true, false, List, Option, Some, None, option_map, refl, sym, ap, ap₂, ◌∙◌, subst, eq-eqb, eqb-true, arith}
use Rattle.std.specs.List.{position}
use Rattle.std.proofs.lemmas.Bool.{and_from, and_parts, and_right, false≢true, lt-ltb, ltb-true, or_cases, or_left, or_right}
use Rattle.vk.specs.Sets.{meets}
use Rattle.check_order.specs.Edges.{is_signal, is_wait, is_sync, is_host, has_value, signals, reaches, node_at, next_signal, meeting, is_at, holds_back, goes_to, signalled, edge}
use Rattle.check_order.specs.Nodes.{no_node}
use Rattle.check_order.specs.declared.kind.Kind.{Kind}
use Rattle.check_order.specs.declared.kind.Kind.TheVariants.{Command, Barrier, Wait, Signal, Host}
use Rattle.check_order.specs.declared.node.Node.{Node}
use Rattle.law_tight.proofs.Firsts.{Found, one_answer, by_position, carried, falls}
use Rattle.law_tight.proofs.Followed.{Follows}
use Rattle.law_tight.proofs.Lighter.{Lighter}

-- A WAIT IS NO SIGNAL

no_signal : (kind : Kind) → is_wait kind ≡ true → is_signal kind ≡ false
no_signal (Wait queue value) w = refl
no_signal Command w = absurd (false≢true w)
no_signal Barrier w = absurd (false≢true w)
no_signal (Signal value) w = absurd (false≢true w)
no_signal Host w = absurd (false≢true w)

no_value : (least : ℕ) (kind : Kind) → is_wait kind ≡ true → has_value least kind ≡ false
no_value least (Wait queue value) w = refl
no_value least Command w = absurd (false≢true w)
no_value least Barrier w = absurd (false≢true w)
no_value least (Signal value) w = absurd (false≢true w)
no_value least Host w = absurd (false≢true w)

-- LIGHTER NODES

signals_alike : (q : ℕ) (given node : Node) → Lighter given node → signals q given ≡ signals q node
signals_alike q given node L = ap₂ (λ r k. (r == q) && is_signal k) (sym L.queue) (sym L.kind)

reaches_alike : (q value : ℕ) (given node : Node) → Lighter given node → reaches q value given ≡ reaches q value node
reaches_alike q value given node L = ap₂ (λ r k. (r == q) && has_value value k) (sym L.queue) (sym L.kind)

holds_more : (a b x y : Node) → Lighter a x → Lighter b y → holds_back x y ≡ true → holds_back a b ≡ true
holds_more a b x y L M h =
    let p = and_parts (x.queue == y.queue) ((is_sync x.kind || is_sync y.kind) && meets x.dst_stages.0 y.src_stages.0) h in
    let r = and_parts (is_sync x.kind || is_sync y.kind) (meets x.dst_stages.0 y.src_stages.0) p.1 in
    and_from (a.queue == b.queue) ((is_sync a.kind || is_sync b.kind) && meets a.dst_stages.0 b.src_stages.0)
    (ap₂ (λ q s. q == s) (sym L.queue) (sym M.queue) ∙ p.0)
    (and_from (is_sync a.kind || is_sync b.kind) (meets a.dst_stages.0 b.src_stages.0)
    (ap₂ (λ k l. is_sync k || is_sync l) (sym L.kind) (sym M.kind) ∙ r.0)
    (L.held b.src_stages.0 (ap (λ s. meets x.dst_stages.0 s.0) (sym M.waits_for) ∙ r.1)))

none_added : (o : Option ℕ) → option_map (λ k. 0 + k) o ≡ o
none_added None = refl
none_added (Some n) = let same : 0 + n ≡ n = omega arith in ap (λ z. Some z) same

module _ (given nodes : List Node) (up : ℕ → ℕ) (down : ℕ → Option ℕ) (F : Follows given nodes up down) where
  -- the next signal of its queue is that of the given node
  pub next_alike : (x : ℕ) → next_signal given (up x) ≡ option_map up (next_signal nodes x)
  next_alike x = one_answer (signals (node_at given (up x)).queue) given (up x + 1) (next_signal given (up x)) (option_map up (next_signal nodes x)) there carried_over
    where
      L : Lighter (node_at given (up x)) (node_at nodes x)
      L = F.alike x

      idle : (r : ℕ) → signals r no_node ≡ false
      idle r = and_right (0 == r) false refl

      there : Found (signals (node_at given (up x)).queue) given (up x + 1) (next_signal given (up x))
      there = by_position (signals (node_at given (up x)).queue) (idle (node_at given (up x)).queue) given (up x + 1)

      here : Found (signals (node_at given (up x)).queue) nodes (x + 1) (next_signal nodes x)
      here = subst (λ r. Found (signals r) nodes (x + 1) (next_signal nodes x)) L.queue (by_position (signals (node_at nodes x).queue) (idle (node_at nodes x).queue) nodes (x + 1))

      carried_over : Found (signals (node_at given (up x)).queue) given (up x + 1) (option_map up (next_signal nodes x))
      carried_over = carried given nodes up down F (signals (node_at given (up x)).queue)
          (λ n. signals_alike (node_at given (up x)).queue (node_at given (up n)) (node_at nodes n) (F.alike n))
          (λ y e. and_right ((node_at given y).queue == (node_at given (up x)).queue) (is_signal (node_at given y).kind) (no_signal (node_at given y).kind (F.gone y e)))
          (x + 1) (up x + 1)
          (λ n le. let r = F.rises x n (omega (arith, le)) in omega (arith, r))
          (λ n le. let r = falls given nodes up down F x n (omega (arith, le)) in omega (arith, r))
          (next_signal nodes x) here

  -- the signal that meets a wait is that of the given wait
  pub meeting_alike : (kind : Kind) → meeting given kind ≡ option_map up (meeting nodes kind)
  meeting_alike Command = refl
  meeting_alike Barrier = refl
  meeting_alike (Signal value) = refl
  meeting_alike Host = refl
  meeting_alike (Wait q value) = one_answer (reaches q value) given 0 (position (reaches q value) given) (option_map up (position (reaches q value) nodes)) (first given) carried_over
    where
      first : (list : List Node) → Found (reaches q value) list 0 (position (reaches q value) list)
      first list = subst (Found (reaches q value) list 0) (none_added (position (reaches q value) list)) (by_position (reaches q value) (and_right (0 == q) false refl) list 0)

      carried_over : Found (reaches q value) given 0 (option_map up (position (reaches q value) nodes))
      carried_over = carried given nodes up down F (reaches q value)
          (λ n. reaches_alike q value (node_at given (up n)) (node_at nodes n) (F.alike n))
          (λ y e. and_right ((node_at given y).queue == q) (has_value value (node_at given y).kind) (no_value value (node_at given y).kind (F.gone y e)))
          0 0
          (λ n le. omega arith)
          (λ n le. omega arith)
          (position (reaches q value) nodes) (first nodes)

  module _ (x y : ℕ) where
    K : Lighter (node_at given (up x)) (node_at nodes x)
    K = F.alike x

    L : Lighter (node_at given (up y)) (node_at nodes y)
    L = F.alike y

    goes_on : (o : Option ℕ) → goes_to nodes y o ≡ true → goes_to given (up y) (option_map up o) ≡ true
    goes_on None g = ap is_host (sym L.kind) ∙ g
    goes_on (Some m) g = eq-eqb (up m) (up y) (ap up (eqb-true m y g))

    met_on : (o : Option ℕ) → is_at o x ≡ true → is_at (option_map up o) (up x) ≡ true
    met_on None m = m
    met_on (Some m) e = eq-eqb (up m) (up x) (ap up (eqb-true m x e))

    by_stages : (nat_lt x y && holds_back (node_at nodes x) (node_at nodes y)) ≡ true → (nat_lt (up x) (up y) && holds_back (node_at given (up x)) (node_at given (up y))) ≡ true
    by_stages h =
        let p = and_parts (nat_lt x y) (holds_back (node_at nodes x) (node_at nodes y)) h in
        and_from (nat_lt (up x) (up y)) (holds_back (node_at given (up x)) (node_at given (up y))) (lt-ltb (up x) (up y) (F.rises x y (ltb-true x y p.0))) (holds_more (node_at given (up x)) (node_at given (up y)) (node_at nodes x) (node_at nodes y) K L p.1)

    by_signal : signalled nodes x y ≡ true → signalled given (up x) (up y) ≡ true
    by_signal h =
        let p = and_parts (is_signal (node_at nodes x).kind) (goes_to nodes y (next_signal nodes x)) h in
        and_from (is_signal (node_at given (up x)).kind) (goes_to given (up y) (next_signal given (up x))) (ap is_signal (sym K.kind) ∙ p.0) (ap (goes_to given (up y)) (next_alike x) ∙ goes_on (next_signal nodes x) p.1)

    by_meeting : is_at (meeting nodes (node_at nodes y).kind) x ≡ true → is_at (meeting given (node_at given (up y)).kind) (up x) ≡ true
    by_meeting h = ap (λ k. is_at (meeting given k) (up x)) (sym L.kind) ∙ ap (λ o. is_at o (up x)) (meeting_alike (node_at nodes y).kind) ∙ met_on (meeting nodes (node_at nodes y).kind) h

    pub edge_given : edge nodes x y ≡ true → edge given (up x) (up y) ≡ true
    edge_given h = ⊎_elim
        (λ s. or_left (nat_lt (up x) (up y) && holds_back (node_at given (up x)) (node_at given (up y))) (signalled given (up x) (up y) || is_at (meeting given (node_at given (up y)).kind) (up x)) (by_stages s))
        (λ s. or_right (nat_lt (up x) (up y) && holds_back (node_at given (up x)) (node_at given (up y))) (signalled given (up x) (up y) || is_at (meeting given (node_at given (up y)).kind) (up x))
        (⊎_elim
        (λ t. or_left (signalled given (up x) (up y)) (is_at (meeting given (node_at given (up y)).kind) (up x)) (by_signal t))
        (λ t. or_right (signalled given (up x) (up y)) (is_at (meeting given (node_at given (up y)).kind) (up x)) (by_meeting t))
        (or_cases (signalled nodes x y) (is_at (meeting nodes (node_at nodes y).kind) x) s)))
        (or_cases (nat_lt x y && holds_back (node_at nodes x) (node_at nodes y)) (signalled nodes x y || is_at (meeting nodes (node_at nodes y).kind) x) h)
