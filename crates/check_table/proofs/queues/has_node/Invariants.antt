use Rattle.std.proofs.Common.{◌≡◌, ℕ, ◌<◌, false}
use Rattle.check_order.specs.Edges.{is_host, node_at}
use Rattle.check_table.proofs.queues.has_node.Given as goal

abbrev pub invariant-loop-n : goal.invariant-loop-n
invariant-loop-n l = (x : ℕ) → x < l.n → is_host (node_at l.fn.edges x).kind ≡ false → (node_at l.fn.edges x).queue ≡ l.fn.queue → ⊥
