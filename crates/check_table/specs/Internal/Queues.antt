-- Queues that nodes are of.
use Rattle.std.specs.Prelude.{◌≡◌, ℕ, ◌<◌, false, List, length}
use Rattle.check_order.specs.Edges.{is_host, node_at}
use Rattle.check_order.specs.declared.node.Node.{Node}

-- a node, and no host read, is of the queue
abbrev pub IsInUse : List Node → ℕ → Type 0
IsInUse nodes queue = (n : ℕ) × (n < length nodes) × (is_host (node_at nodes n).kind ≡ false) × ((node_at nodes n).queue ≡ queue)
