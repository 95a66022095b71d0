-- Queues of nodes, and the next node of each.
use Rattle.std.specs.Prelude.{◌≡◌, ℕ, zero, suc, ◌+◌, ◌-◌, ◌<◌, ◌≤◌, Bool, true, false, ◌&&◌, ◌||◌, nat_lt, not, List, length, get_or, Option, Some, None}
use Rattle.base.specs.Maxima.{max_nodes}
use Rattle.check_order.specs.Edges.{is_wait, is_sync, node_at, next_signal, meeting}
use Rattle.check_order.specs.Orders.{is_queued}
use Rattle.check_order.specs.declared.node.Node.{Node}

-- the queue of each node, where each queue begins, whether a node waits, and the signal that meets it
pub record Queues : Type 0 where
  pub queue : ℕ → ℕ
  pub start : ℕ → ℕ
  pub waits : ℕ → Bool
  pub met : ℕ → Option ℕ

-- nodes are numbered queue by queue
pub record Numbered (Q : Queues) (queues count : ℕ) : Type 0 where
  pub last : Q.start queues ≡ count
  pub rising : (q r : ℕ) → q ≤ r → r ≤ queues → Q.start q ≤ Q.start r
  pub within : (n : ℕ) → n < count → (Q.queue n < queues) × (Q.start (Q.queue n) ≤ n) × (n < Q.start (Q.queue n + 1))
  pub only : (n q : ℕ) → q < queues → Q.start q ≤ n → n < Q.start (q + 1) → Q.queue n ≡ q
  pub meets : (n x : ℕ) → Q.met n ≡ Some x → x < count
  pub idle : (n : ℕ) → Q.waits n ≡ false → Q.met n ≡ None

-- the signal is taken, where the queue of each node and each queue's next node are known
abbrev pub taken : (ℕ → ℕ) → List ℕ → Option ℕ → Bool
taken queue next None = false
taken queue next (Some x) = nat_lt x (get_or next (queue x) 0)

-- node n waits for nothing, or for a signal that is taken
abbrev pub is_open : Queues → List ℕ → ℕ → Bool
is_open Q next n = not (Q.waits n) || taken Q.queue next (Q.met n)

-- the queue has a node left, and it may come next
abbrev pub goes_on : Queues → List ℕ → ℕ → Bool
goes_on Q next q = nat_lt (get_or next q 0) (Q.start (q + 1)) && is_open Q next (get_or next q 0)

-- how many nodes the first queues have left
abbrev pub left_of : Queues → List ℕ → ℕ → ℕ
left_of Q next zero = 0
left_of Q next (suc q) = (Q.start (q + 1) - get_or next q 0) + left_of Q next q

-- of nodes, where it is known at which number each queue begins
abbrev pub queues_of : List Node → List ℕ → Queues
queues_of nodes starts = record {
  queue = λ n. (node_at nodes n).queue;
  start = λ q. get_or starts q 0;
  waits = λ n. is_wait (node_at nodes n).kind;
  met = λ n. meeting nodes (node_at nodes n).kind;
}

-- the same as `is_open`, whatever the starts are
abbrev pub node_open : List Node → List ℕ → ℕ → Bool
node_open nodes next n = not (is_wait (node_at nodes n).kind) || taken (λ x. (node_at nodes x).queue) next (meeting nodes (node_at nodes n).kind)

-- the first `count` nodes are of queues
pub record Lined (nodes : List Node) (starts : List ℕ) (queues count : ℕ) : Type 0 where
  pub fewer : count ≤ length nodes
  pub queued : (n : ℕ) → is_queued nodes n ≡ nat_lt n count
  pub numbered : Numbered (queues_of nodes starts) queues count
  pub within : (n : ℕ) → is_sync (node_at nodes n).kind ≡ true → n < count
  pub next : (x n : ℕ) → next_signal nodes x ≡ Some n → (x < n) × ((node_at nodes x).queue ≡ (node_at nodes n).queue)

-- the nodes of so many queues, and where each queue begins
pub record Ready (nodes : List Node) (starts : List ℕ) (queues : ℕ) : Type 0 where
  pub few : length nodes ≤ max_nodes
  pub lined : Lined nodes starts queues (get_or starts queues 0)
  pub size : length starts ≡ queues + 1
