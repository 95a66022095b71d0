-- Nodes that are alike run in the same orders.
use Rattle.std.proofs.Common.{◌≡◌, ℕ, ◌<◌, ◌&&◌, nat_lt, not, List, length, sym, ap, ◌∙◌, subst}
use Rattle.check_order.specs.Edges.{is_wait, is_host, node_at, meeting}
use Rattle.check_order.specs.Orders.{is_queued, Order, IsLeast}
use Rattle.check_order.specs.declared.node.Node.{Node}
use Rattle.law_alike.specs.Wholly.{NodesAlike}

pub turned_nodes : (xs ys : List Node) → NodesAlike xs ys → NodesAlike ys xs
turned_nodes xs ys h = record {
  count = sym h.count;
  kind = λ n. sym (h.kind n);
  queue = λ n. sym (h.queue n);
  meeting = λ kind. sym (h.meeting kind);
  edge = λ x y. sym (h.edge x y);
}

module _ (xs ys : List Node) (h : NodesAlike xs ys) where
  queued_same : (n : ℕ) → is_queued xs n ≡ is_queued ys n
  queued_same n =
      ap (λ m. nat_lt n m && not (is_host (node_at xs n).kind)) h.count
      ∙ ap (λ k. nat_lt n (length ys) && not (is_host k)) (h.kind n)

  meeting_same : (n : ℕ) → meeting xs (node_at xs n).kind ≡ meeting ys (node_at ys n).kind
  meeting_same n = ap (λ k. meeting xs k) (h.kind n) ∙ h.meeting (node_at ys n).kind

  pub order_on : (list : List ℕ) → Order xs list → Order ys list
  order_on list O = record {
    once = O.once;
    all = λ n lt. O.all n (subst (λ m. n < m) (sym h.count) lt);
    only = λ n a. subst (λ m. n < m) h.count (O.only n a);
    turns = record {
      queue = λ x n a q lt e. O.turns.queue x n a (queued_same n ∙ q) lt (h.queue x ∙ e ∙ sym (h.queue n));
      met = λ n a w.
          let m = O.turns.met n a (ap is_wait (h.kind n) ∙ w) in
          (m.0, sym (meeting_same n) ∙ m.1, m.2);
    };
    forward = λ x n a e. O.forward x n a (h.edge x n ∙ e);
  }

pub least_on : (xs ys : List Node) → NodesAlike xs ys → (list : List ℕ) → IsLeast xs list → IsLeast ys list
least_on xs ys h list L = record {
  order = order_on xs ys h list L.order;
  least = λ other O. L.least other (order_on ys xs (turned_nodes xs ys h) other O);
}
