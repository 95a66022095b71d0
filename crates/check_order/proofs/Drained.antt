-- What the drain's loop comes to.
use Rattle.std.proofs.Common.{◌≡◌, ℕ, suc, ◌+◌, ◌-◌, ◌<◌, ◌≤◌, true, false, nat_lt, Some, List, [], ◌∷◌, ◌++◌, length, get_or, sym, ap, ◌∙◌, subst, append_assoc, arith}
use Rattle.std.proofs.lemmas.Bool.{and_parts, ltb-true}
use Rattle.std.specs.List.{range_with_len}
use Rattle.base.proofs.Lists.{range_more}
use Rattle.check_order.specs.Edges.{node_at, meeting}
use Rattle.check_order.specs.Orders.{IsLeast, IsStuck}
use Rattle.check_order.specs.Internal.Queues.{Queues, Ready, queues_of, is_open, goes_on}
use Rattle.check_order.specs.declared.node.Node.{Node}
use Rattle.check_order.proofs.Bridge.{least, stuck}
use Rattle.check_order.proofs.Going.{Going, whole, at_index, stuck-at}

pub host_more : (old list more : List ℕ) (from n : ℕ) → from ≤ n → list ≡ old ++ range_with_len from (n - from) → more ≡ list ++ n ∷ [] → more ≡ old ++ range_with_len from (n + 1 - from)
host_more old list more from n le is grows =
    let e : n + 1 - from ≡ suc (n - from) = omega (arith, le) in
    grows ∙ ap (λ l. l ++ n ∷ []) is ∙ append_assoc old (range_with_len from (n - from)) (n ∷ []) ∙ ap (λ l. old ++ l) (sym (ap (λ k. range_with_len from k) e ∙ range_more from (n - from) n (omega (arith, le))))

module _ (nodes : List Node) (starts : List ℕ) (queues : ℕ) (R : Ready nodes starts queues) where
  abbrev count : ℕ
  count = get_or starts queues 0

  abbrev Q : Queues
  Q = queues_of nodes starts

  -- each queue ends in the list
  ends_in : (q : ℕ) → q < queues → get_or starts (q + 1) 0 ≤ length nodes
  ends_in q lt =
      let r = R.lined.numbered.rising (q + 1) queues (omega (arith, lt)) (omega arith) in
      let f = R.lined.fewer in
      omega (arith, r, f)

  pub next_in_list : (q n : ℕ) → q < queues → n < get_or starts (q + 1) 0 → n < length nodes
  next_in_list q n lt less = let f = ends_in q lt in omega (arith, f, less)

  pub met_fits : (next : List ℕ) → length next ≡ queues → (m x : ℕ) → meeting nodes (node_at nodes m).kind ≡ Some x → (x < length nodes) × ((node_at nodes x).queue < length next)
  met_fits next size m x e =
      let low = R.lined.numbered.meets m x e in
      let w = R.lined.numbered.within x low in
      let f = R.lined.fewer in
      (omega (arith, low, f), omega (arith, w.0, size))

  pub next_fits : (next : List ℕ) (q v : ℕ) → length next ≡ queues → (q < queues) × (goes_on Q next q ≡ true) → v ≡ get_or next q v → v < 20000
  next_fits next q v size on e =
      let p = and_parts (nat_lt (get_or next q 0) (get_or starts (q + 1) 0)) (is_open Q next (get_or next q 0)) on.1 in
      let l = ltb-true (get_or next q 0) (get_or starts (q + 1) 0) p.0 in
      let f = ends_in q on.0 in
      let g = at_index next q v (omega (arith, on.0, size)) e in
      omega (arith, l, f, g, R.few)

  pub stuck_fits : (next : List ℕ) (q v : ℕ) → length next ≡ queues → (q < queues) × (get_or next q 0 < get_or starts (q + 1) 0) → v ≡ get_or next q v → v < 20000
  stuck_fits next q v size left e =
      let l = next_in_list q (get_or next q 0) left.0 left.1 in
      let g = at_index next q v (omega (arith, left.0, size)) e in
      omega (arith, l, g, R.few)

  pub hosts_from : (n : ℕ) → n ≡ length nodes → get_or starts queues 0 ≤ n
  hosts_from n e = let f = R.lined.fewer in omega (arith, e, f)

  pub all_least : (next list all : List ℕ) (n : ℕ) → Going Q queues count next list → ((q : ℕ) → q < queues → get_or starts (q + 1) 0 ≤ get_or next q 0) → n ≡ length nodes → all ≡ list ++ range_with_len count (n - count) → IsLeast nodes all
  all_least next list all n G ends e is =
      let f = R.lined.fewer in
      let w = whole Q queues count R.lined.numbered next list G ends in
      subst (λ l. IsLeast nodes l) (sym is) (least nodes starts queues count R.lined list (n - count) (omega (arith, e, f)) G.greedy w.order.whole)

  pub all_stuck : (next list : List ℕ) (q v : ℕ) → Going Q queues count next list → ((q : ℕ) → q < queues → goes_on Q next q ≡ false) → ((r : ℕ) → r < q → get_or starts (r + 1) 0 ≤ get_or next r 0) → (q < queues) × (get_or next q 0 < get_or starts (q + 1) 0) → v ≡ get_or next q v → IsStuck nodes q v
  all_stuck next list q v G none before left e =
      let t = stuck-at Q queues count R.lined.numbered next list G none q v before left e in
      stuck nodes starts queues count R.lined q v t.0 t.1
