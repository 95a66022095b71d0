-- What the nodes of queues need.
use Rattle.std.proofs.Common.{ℕ, ◌&&◌, ◌||◌, ◌==◌, nat_lt, is_none}
use Rattle.check_order.specs.Edges.{is_at}
use Rattle.check_order.specs.Internal.Queues.{Queues}
use Rattle.check_order.proofs.Steps.{Needs}

-- what has to be placed before a node: the earlier ones of its queue, and the signal that meets it
abbrev pub needs_of : Queues → ℕ → Needs
needs_of Q count = record {
  count = count;
  needs = λ x n. ((Q.queue x == Q.queue n) && nat_lt x n) || is_at (Q.met n) x;
  never = λ n. Q.waits n && is_none (Q.met n);
}
