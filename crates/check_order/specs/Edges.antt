-- Which node is held back by which at once: the direct edges.
use Rattle.std.specs.Prelude.{ℕ, ◌+◌, ◌==◌, ◌&&◌, ◌||◌, nat_lt, nat_le, Bool, true, false, List, drop, get_or, Option, Some, None}
use Rattle.std.specs.List.{position}
use Rattle.std.specs.Option.{option_map}
use Rattle.vk.specs.Sets.{meets}
use Rattle.check_order.specs.Nodes.{no_node}
use Rattle.check_order.specs.declared.kind.Kind.{Kind}
use Rattle.check_order.specs.declared.kind.Kind.TheVariants.{Command, Barrier, Wait, Signal, Host}
use Rattle.check_order.specs.declared.node.Node.{Node}

abbrev pub is_signal : Kind → Bool
is_signal (Signal value) = true
is_signal kind = false

abbrev pub is_wait : Kind → Bool
is_wait (Wait queue value) = true
is_wait kind = false

abbrev pub is_host : Kind → Bool
is_host Host = true
is_host kind = false

-- a barrier, wait or signal
abbrev pub is_sync : Kind → Bool
is_sync Command = false
is_sync Barrier = true
is_sync (Wait queue value) = true
is_sync (Signal value) = true
is_sync Host = false

abbrev pub has_value : ℕ → Kind → Bool
has_value least (Signal value) = nat_le least value
has_value least kind = false

-- a signal of the queue
abbrev pub signals : ℕ → Node → Bool
signals queue node = (node.queue == queue) && is_signal node.kind

-- a signal of the queue with at least that value
abbrev pub reaches : ℕ → ℕ → Node → Bool
reaches queue value node = (node.queue == queue) && has_value value node.kind

abbrev pub node_at : List Node → ℕ → Node
node_at nodes n = get_or nodes n no_node

-- the next signal of the queue of node n
abbrev pub next_signal : List Node → ℕ → Option ℕ
next_signal nodes n = option_map (λ k. n + 1 + k) (position (signals (node_at nodes n).queue) (drop (n + 1) nodes))

-- the signal that meets a wait: the first one of the queue that reaches the value
abbrev pub meeting : List Node → Kind → Option ℕ
meeting nodes (Wait queue value) = position (reaches queue value) nodes
meeting nodes kind = None

abbrev pub is_at : Option ℕ → ℕ → Bool
is_at None n = false
is_at (Some m) n = m == n

-- the first holds the second back, where it stands before it on its queue
abbrev pub holds_back : Node → Node → Bool
holds_back a b = (a.queue == b.queue) && ((is_sync a.kind || is_sync b.kind) && meets a.dst_stages.0 b.src_stages.0)

-- x is a signal, and y the next one of its queue, or x the last one and y a host read
abbrev pub goes_to : List Node → ℕ → Option ℕ → Bool
goes_to nodes y (Some next) = next == y
goes_to nodes y None = is_host (node_at nodes y).kind

abbrev pub signalled : List Node → ℕ → ℕ → Bool
signalled nodes x y = is_signal (node_at nodes x).kind && goes_to nodes y (next_signal nodes x)

-- node x has a direct edge to node y: on one queue by their stages, from a signal to the next one of its queue or, from
-- the last one, to each host read, and from a signal to a wait that it meets
abbrev pub edge : List Node → ℕ → ℕ → Bool
edge nodes x y =
    (nat_lt x y && holds_back (node_at nodes x) (node_at nodes y))
    || (signalled nodes x y || is_at (meeting nodes (node_at nodes y).kind) x)

-- AMONG SYNCHRONIZING NODES ALONE

-- the first holds the second back, where it stands before it on its queue, and neither is a command
abbrev pub sync_holds_back : Node → Node → Bool
sync_holds_back a b = (a.queue == b.queue) && ((is_sync a.kind && is_sync b.kind) && meets a.dst_stages.0 b.src_stages.0)

-- as `edge`, but none from a command or to one
abbrev pub sync_edge : List Node → ℕ → ℕ → Bool
sync_edge nodes x y =
    (nat_lt x y && sync_holds_back (node_at nodes x) (node_at nodes y))
    || (signalled nodes x y || is_at (meeting nodes (node_at nodes y).kind) x)
