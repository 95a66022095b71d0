-- An edge joins nodes that are there.
use Rattle.std.proofs.Common.{◌≡◌, inl, inr, ℕ, ◌+◌, ◌<◌, Bool, true, false, ◌||◌, ◌&&◌, ◌==◌, nat_lt, not, Option, Some, None, List, length, drop, bit_and, refl, sym, ap, ◌∙◌, ⊎_elim, arith}
use Rattle.std.proofs.lemmas.Bool.{cases_lt, and_parts, and_from, or_cases, or_left, or_right}
use Rattle.std.proofs.lemmas.List.{get_or_past, length-drop}
use Rattle.std.proofs.lemmas.List.Quantifiers.{position-Some}
use Rattle.std.specs.List.{position}
use Rattle.std.specs.Option.{option_map}
use Rattle.std.specs.Int.Bits.{and_zero_r}
use Rattle.base.proofs.Absence.{some_same}
use Rattle.base.proofs.Booleans.{clash}
use Rattle.vk.specs.Sets as sets
use Rattle.check_order.specs.Edges.{is_wait, is_host, is_signal, is_sync, is_at, signals, holds_back, sync_holds_back, meeting, node_at, signalled, edge, sync_edge}
use Rattle.check_order.specs.Nodes.{no_node}
use Rattle.check_order.specs.declared.kind.Kind.{Kind}
use Rattle.check_order.specs.declared.kind.Kind.TheVariants.{Command}
use Rattle.check_order.specs.declared.node.Node.{Node}
use Rattle.check_order.proofs.Bridge.{EdgeCase, edge_cases, met_wait}
use Rattle.check_order.proofs.Lines.{met_sync}

-- what is of a kind stands in the list
within_list : (nodes : List Node) (test : Kind → Bool) → test Command ≡ false → (n : ℕ) → test (node_at nodes n).kind ≡ true → n < length nodes
within_list nodes test none n h = ⊎_elim (λ lt. lt) (λ ge. absurd (clash (sym none ∙ ap (λ z. test z.kind) (sym (get_or_past nodes n no_node ge)) ∙ h))) (cases_lt n (length nodes))

next_within : (nodes : List Node) (x n : ℕ) (o : Option ℕ) → position (signals (node_at nodes x).queue) (drop (x + 1) nodes) ≡ o → option_map (λ k. x + 1 + k) o ≡ Some n → n < length nodes
next_within nodes x n None e f = absurd cc
next_within nodes x n (Some k) e f =
    let p = position-Some (signals (node_at nodes x).queue) (drop (x + 1) nodes) k no_node e in
    let same : x + 1 + k ≡ n = some_same f in
    let len = length-drop (x + 1) nodes in
    omega (arith, p.0, same, len)

pub edge_within : (nodes : List Node) (x y : ℕ) → edge nodes x y ≡ true → (x < length nodes) × (y < length nodes)
edge_within nodes x y h = go (edge_cases nodes x y h)
  where
    held : x < y → holds_back (node_at nodes x) (node_at nodes y) ≡ true → y < length nodes
    held lt k = ⊎_elim (λ l. l) (λ ge.
        let p = and_parts ((node_at nodes x).queue == (node_at nodes y).queue) ((is_sync (node_at nodes x).kind || is_sync (node_at nodes y).kind) && sets.meets (node_at nodes x).dst_stages.0 (node_at nodes y).src_stages.0) k in
        let q = and_parts (is_sync (node_at nodes x).kind || is_sync (node_at nodes y).kind) (sets.meets (node_at nodes x).dst_stages.0 (node_at nodes y).src_stages.0) p.1 in
        absurd (clash (sym (ap (λ z. not (z == 0)) (ap (λ z. bit_and (node_at nodes x).dst_stages.0 z.src_stages.0) (get_or_past nodes y no_node ge) ∙ and_zero_r (node_at nodes x).dst_stages.0)) ∙ q.1))) (cases_lt y (length nodes))

    go : EdgeCase nodes x y → (x < length nodes) × (y < length nodes)
    go (inl a) = let l = held a.0 a.1 in (omega (arith, a.0, l), l)
    go (inr (inl a)) = (within_list nodes is_signal refl x a.0, next_within nodes x y (position (signals (node_at nodes x).queue) (drop (x + 1) nodes)) refl a.1)
    go (inr (inr (inl a))) = ((met_sync nodes (node_at nodes y).kind x a).0, within_list nodes is_wait refl y (met_wait nodes (node_at nodes y).kind x a))
    go (inr (inr (inr a))) = (within_list nodes is_signal refl x a.1, within_list nodes is_host refl y a.0)

-- an edge between synchronizing nodes is one between nodes
pub sync_is_edge : (nodes : List Node) (x y : ℕ) → sync_edge nodes x y ≡ true → edge nodes x y ≡ true
sync_is_edge nodes x y h = ⊎_elim
    (λ k. or_left (nat_lt x y && holds_back (node_at nodes x) (node_at nodes y)) (signalled nodes x y || is_at (meeting nodes (node_at nodes y).kind) x) (held k))
    (λ k. or_right (nat_lt x y && holds_back (node_at nodes x) (node_at nodes y)) (signalled nodes x y || is_at (meeting nodes (node_at nodes y).kind) x) k)
    (or_cases (nat_lt x y && sync_holds_back (node_at nodes x) (node_at nodes y)) (signalled nodes x y || is_at (meeting nodes (node_at nodes y).kind) x) h)
  where
    held : (nat_lt x y && sync_holds_back (node_at nodes x) (node_at nodes y)) ≡ true → (nat_lt x y && holds_back (node_at nodes x) (node_at nodes y)) ≡ true
    held k =
        let a = node_at nodes x in
        let b = node_at nodes y in
        let p = and_parts (nat_lt x y) (sync_holds_back a b) k in
        let q = and_parts (a.queue == b.queue) ((is_sync a.kind && is_sync b.kind) && sets.meets a.dst_stages.0 b.src_stages.0) p.1 in
        let r = and_parts (is_sync a.kind && is_sync b.kind) (sets.meets a.dst_stages.0 b.src_stages.0) q.1 in
        and_from (nat_lt x y) (holds_back a b) p.0 (and_from (a.queue == b.queue) ((is_sync a.kind || is_sync b.kind) && sets.meets a.dst_stages.0 b.src_stages.0) q.0 (and_from (is_sync a.kind || is_sync b.kind) (sets.meets a.dst_stages.0 b.src_stages.0) (or_left (is_sync a.kind) (is_sync b.kind) (and_parts (is_sync a.kind) (is_sync b.kind) r.0).0) r.1))
