-- The nodes of a program stand in line: queue by queue, and the host reads last.
use Rattle.std.proofs.Common.{◌≡◌, ℕ, ◌+◌, ◌<◌, ◌≤◌, true, false, ◌&&◌, ◌==◌, nat_lt, not, Option, Some, None, List, length, drop, get_or, refl, sym, ap, ◌∙◌, subst, ⊎_elim, eqb-true, arith}
use Rattle.std.proofs.lemmas.Bool.{cases_lt, cases_Bool, and_parts, lt-ltb, le-ltb}
use Rattle.std.proofs.lemmas.List.{get_or-drop, get_or_past}
use Rattle.std.proofs.lemmas.List.Quantifiers.{position-Some}
use Rattle.std.specs.List.{position}
use Rattle.std.specs.Option.{option_map}
use Rattle.std.proofs.Math.Bool.{and-false}
use Rattle.base.proofs.Absence.{some_same}
use Rattle.check_order.specs.Edges.{is_wait, is_host, is_signal, is_sync, has_value, signals, reaches, meeting, node_at}
use Rattle.check_order.specs.Nodes.{no_node}
use Rattle.check_order.specs.Orders.{is_queued}
use Rattle.check_order.specs.Internal.Queues.{Numbered, Lined, queues_of}
use Rattle.check_order.specs.declared.kind.Kind.{Kind}
use Rattle.check_order.specs.declared.kind.Kind.TheVariants.{Command, Barrier, Wait, Signal, Host}
use Rattle.check_order.specs.declared.node.Node.{Node}
use Rattle.base.proofs.Booleans.{clash}

-- where the nodes of each queue stand; host reads stand after them all
pub record Lines (nodes : List Node) (starts : List ℕ) (queues : ℕ) : Type 0 where
  pub queued : (n : ℕ) → n < length nodes → is_host (node_at nodes n).kind ≡ false → ((node_at nodes n).queue < queues) × (get_or starts (node_at nodes n).queue 0 ≤ n) × (n < get_or starts ((node_at nodes n).queue + 1) 0)
  pub hosts : (n : ℕ) → n < length nodes → is_host (node_at nodes n).kind ≡ true → get_or starts queues 0 ≤ n
  pub rising : (q r : ℕ) → q ≤ r → r ≤ queues → get_or starts q 0 ≤ get_or starts r 0
  pub fewer : get_or starts queues 0 ≤ length nodes

pub sync_no_host : (kind : Kind) → is_sync kind ≡ true → is_host kind ≡ false
sync_no_host Host h = absurd (clash h)
sync_no_host Command h = refl
sync_no_host Barrier h = refl
sync_no_host (Wait queue value) h = refl
sync_no_host (Signal value) h = refl

valued_sync : (kind : Kind) (value : ℕ) → has_value value kind ≡ true → is_sync kind ≡ true
valued_sync (Signal v) value h = refl
valued_sync Command value h = absurd (clash h)
valued_sync Barrier value h = absurd (clash h)
valued_sync (Wait q v) value h = absurd (clash h)
valued_sync Host value h = absurd (clash h)

pub met_sync : (nodes : List Node) (kind : Kind) (x : ℕ) → meeting nodes kind ≡ Some x → (x < length nodes) × (is_sync (node_at nodes x).kind ≡ true)
met_sync nodes (Wait queue value) x e =
    let p = position-Some (reaches queue value) nodes x no_node e in
    (p.0, valued_sync (node_at nodes x).kind value (and_parts ((node_at nodes x).queue == queue) (has_value value (node_at nodes x).kind) p.1).1)
met_sync nodes Command x e = absurd cc
met_sync nodes Barrier x e = absurd cc
met_sync nodes (Signal value) x e = absurd cc
met_sync nodes Host x e = absurd cc

idle_met : (nodes : List Node) (kind : Kind) → is_wait kind ≡ false → meeting nodes kind ≡ None
idle_met nodes (Wait queue value) h = absurd (clash (sym h))
idle_met nodes Command h = refl
idle_met nodes Barrier h = refl
idle_met nodes (Signal value) h = refl
idle_met nodes Host h = refl

pub next_place : (nodes : List Node) (x n : ℕ) (o : Option ℕ) → position (signals (node_at nodes x).queue) (drop (x + 1) nodes) ≡ o → option_map (λ k. x + 1 + k) o ≡ Some n → (x < n) × ((node_at nodes x).queue ≡ (node_at nodes n).queue)
next_place nodes x n None e f = absurd cc
next_place nodes x n (Some k) e f =
    let p = position-Some (signals (node_at nodes x).queue) (drop (x + 1) nodes) k no_node e in
    let same : x + 1 + k ≡ n = some_same f in
    let there : get_or (drop (x + 1) nodes) k no_node ≡ node_at nodes n = get_or-drop (x + 1) nodes k no_node ∙ ap (λ z. node_at nodes z) same in
    let q = and_parts ((node_at nodes n).queue == (node_at nodes x).queue) (is_signal (node_at nodes n).kind) (subst (λ z. signals (node_at nodes x).queue z ≡ true) there p.1) in
    (omega (arith, same), sym (eqb-true (node_at nodes n).queue (node_at nodes x).queue q.0))

module _ (nodes : List Node) (starts : List ℕ) (queues : ℕ) (L : Lines nodes starts queues) where
  abbrev count : ℕ
  count = get_or starts queues 0

  -- a node of a queue stands before the first host read
  low : (n : ℕ) → n < length nodes → is_host (node_at nodes n).kind ≡ false → n < count
  low n lt e =
      let p = L.queued n lt e in
      let r = L.rising ((node_at nodes n).queue + 1) queues (omega (arith, p.0)) (omega arith) in
      omega (arith, p.2, r)

  in_list : (n : ℕ) → n < count → n < length nodes
  in_list n lt = omega (arith, lt, L.fewer)

  not_host : (n : ℕ) → n < count → is_host (node_at nodes n).kind ≡ false
  not_host n lt = ⊎_elim (λ h. let g = L.hosts n (in_list n lt) h in absurd (omega (arith, g, lt))) (λ h. h) (cases_Bool (is_host (node_at nodes n).kind))

  queued : (n : ℕ) → is_queued nodes n ≡ nat_lt n count
  queued n = ⊎_elim
      (λ (lt : n < count). yes (lt-ltb n (length nodes) (in_list n lt)) (not_host n lt) ∙ sym (lt-ltb n count lt))
      (λ (ge : count ≤ n). ⊎_elim
      (λ (lt : n < length nodes). ⊎_elim (λ h. no h) (λ h. let l = low n lt h in absurd (omega (arith, l, ge))) (cases_Bool (is_host (node_at nodes n).kind)) ∙ sym (le-ltb n count ge))
      (λ (out : length nodes ≤ n). ap (λ t. t && not (is_host (node_at nodes n).kind)) (le-ltb n (length nodes) out) ∙ sym (le-ltb n count ge))
      (cases_lt n (length nodes)))
      (cases_lt n count)
    where
      yes : nat_lt n (length nodes) ≡ true → is_host (node_at nodes n).kind ≡ false → is_queued nodes n ≡ true
      yes e f = ap (λ t. t && not (is_host (node_at nodes n).kind)) e ∙ ap (λ t. not t) f

      no : is_host (node_at nodes n).kind ≡ true → is_queued nodes n ≡ false
      no f = ap (λ t. nat_lt n (length nodes) && not t) f ∙ and-false (nat_lt n (length nodes))

  within_list : (n : ℕ) → is_sync (node_at nodes n).kind ≡ true → n < length nodes
  within_list n h = ⊎_elim (λ lt. lt) (λ ge. absurd (clash (sym (ap (λ z. is_sync z.kind) (get_or_past nodes n no_node ge)) ∙ h))) (cases_lt n (length nodes))

  within : (n : ℕ) → is_sync (node_at nodes n).kind ≡ true → n < count
  within n h = low n (within_list n h) (sync_no_host (node_at nodes n).kind h)

  only : (n q : ℕ) → q < queues → get_or starts q 0 ≤ n → n < get_or starts (q + 1) 0 → (node_at nodes n).queue ≡ q
  only n q lt from until =
      let end = L.rising (q + 1) queues (omega (arith, lt)) (omega arith) in
      let here : n < count = omega (arith, end, until) in
      let p = L.queued n (in_list n here) (not_host n here) in
      let r : ℕ = (node_at nodes n).queue in
      ⊎_elim
      (λ (l : r < q). let e = L.rising (r + 1) q (omega (arith, l)) (omega (arith, lt)) in absurd (omega (arith, e, from, p.2)))
      (λ (g : q ≤ r). ⊎_elim
      (λ (l : q < r). let e = L.rising (q + 1) r (omega (arith, l)) (omega (arith, p.0)) in absurd (omega (arith, e, until, p.1)))
      (λ (h : r ≤ q). omega (arith, g, h))
      (cases_lt q r))
      (cases_lt r q)

  numbered : Numbered (queues_of nodes starts) queues count
  numbered = record {
    last = refl;
    rising = L.rising;
    within = λ n lt. L.queued n (in_list n lt) (not_host n lt);
    only = only;
    meets = λ n x e. within x (met_sync nodes (node_at nodes n).kind x e).1;
    idle = λ n h. idle_met nodes (node_at nodes n).kind h;
  }

  pub lined : Lined nodes starts queues (get_or starts queues 0)
  lined = record {
    fewer = L.fewer;
    queued = queued;
    numbered = numbered;
    within = within;
    next = λ x n e. next_place nodes x n (position (signals (node_at nodes x).queue) (drop (x + 1) nodes)) refl e;
  }
