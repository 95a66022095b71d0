-- Between which synchronizing nodes (barriers, waits, signals and host reads) the accesses of commands stand.
use Rattle.std.specs.Prelude.{ℕ, ◌==◌, ◌&&◌, nat_lt, Bool, true, false, List}
use Rattle.vk.specs.Sets.{meets}
use Rattle.check_order.specs.Edges.{is_sync, node_at}
use Rattle.check_order.specs.declared.kind.Kind.{Kind}
use Rattle.check_order.specs.declared.kind.Kind.TheVariants.{Command, Barrier, Wait, Signal, Host}
use Rattle.check_order.specs.declared.node.Node.{Node}

abbrev pub is_command : Kind → Bool
is_command Command = true
is_command Barrier = false
is_command (Wait queue value) = false
is_command (Signal value) = false
is_command Host = false

-- node x is a later one of node n's queue, and waits for what is in the stage
abbrev pub waits_for : List Node → ℕ → ℕ → ℕ → Bool
waits_for nodes stage n x =
    nat_lt n x
    && (((node_at nodes n).queue == (node_at nodes x).queue)
    && (is_sync (node_at nodes x).kind && meets stage (node_at nodes x).src_stages.0))

-- node y is an earlier one of node m's queue, and what is in the stage waits for it
abbrev pub lets_in : List Node → ℕ → ℕ → ℕ → Bool
lets_in nodes stage y m =
    nat_lt y m
    && (((node_at nodes y).queue == (node_at nodes m).queue)
    && (is_sync (node_at nodes y).kind && meets (node_at nodes y).dst_stages.0 stage))
