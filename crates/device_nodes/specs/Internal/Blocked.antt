-- What the open nodes of a queue block, up to a number.
use Rattle.std.specs.Prelude.{◌≡◌, ℕ, zero, suc, ◌<◌, ◌==◌, ◌&&◌, ◌||◌, not, List, length, get_or, Bool, false, Option, Some, None, if◌then◌else◌}
use Rattle.std.specs.List.{list_all}
use Rattle.vk.specs.Sets.{meets}
use Rattle.device_nodes.specs.declared.blocked.Blocked.{Blocked}
use Rattle.check_order.specs.Edges.{is_host, is_signal, is_sync, meeting, signals, node_at}
use Rattle.check_order.specs.declared.node.Node.{Node}
use Rattle.device_model.specs.Ready.{kind_at}
use Rattle.device_model.specs.States.{is_done}
use Rattle.device_model.specs.declared.phase.Phase.{Phase}
use Rattle.check_access.specs.Views.{View, queue_at}

-- one of the numbers below n passes
abbrev pub some_below : (ℕ → Bool) → ℕ → Bool
some_below test zero = false
some_below test (suc n) = test n || some_below test n

-- the last one that passes
abbrev pub last_below : (ℕ → Bool) → ℕ → Option ℕ
last_below test zero = None
last_below test (suc n) = if test n then Some n else last_below test n

-- it is a node, and not done
abbrev pub is_open : (ℕ → Phase) → Option ℕ → Bool
is_open phase None = false
is_open phase (Some x) = not (is_done (phase x))

-- node x of queue q is not done, and some later ones wait for it at these stages
abbrev pub blocks_all : View → (ℕ → Phase) → ℕ → ℕ → ℕ → Bool
blocks_all V phase q stages x = ((queue_at V x == q) && not (is_done (phase x))) && meets (node_at V.nodes x).dst_stages.0 stages

abbrev pub blocks_by_sync : View → (ℕ → Phase) → ℕ → ℕ → ℕ → Bool
blocks_by_sync V phase q stages x = is_sync (kind_at V x) && blocks_all V phase q stages x

-- the last signal of queue q below n
abbrev pub signal_below : View → ℕ → ℕ → Option ℕ
signal_below V q n = last_below (λ x. signals q (node_at V.nodes x)) n

-- of the nodes of queue q below n
pub record Gathers (V : View) (phase : ℕ → Phase) (q n : ℕ) (blocked : Blocked) : Type 0 where
  pub by_syncs : (stages : ℕ) → meets blocked.by_syncs.0 stages ≡ some_below (blocks_by_sync V phase q stages) n
  pub by_all : (stages : ℕ) → meets blocked.by_all.0 stages ≡ some_below (blocks_all V phase q stages) n
  pub signal : blocked.signal ≡ is_open phase (signal_below V q n)

-- it blocks the node
abbrev pub is_blocked : Blocked → Node → Bool
is_blocked blocked node = meets (if is_sync node.kind then blocked.by_all.0 else blocked.by_syncs.0) node.src_stages.0 || (is_signal node.kind && blocked.signal)

-- the last signals, queue by queue
pub record AreLast (V : View) (signals : List (Option ℕ)) : Type 0 where
  pub size : length signals ≡ length V.families
  pub each : (q : ℕ) → q < length V.families → get_or signals q None ≡ signal_below V q (length V.nodes)

-- each node with a direct edge to node n is done: what its queue blocks, the signal that meets it, and for a host read the
-- last signals of all queues
abbrev pub is_free : View → (ℕ → Phase) → List (Option ℕ) → Blocked → ℕ → Bool
is_free V phase lasts blocked n =
    not (is_blocked blocked (node_at V.nodes n))
    && (not (is_open phase (meeting V.nodes (kind_at V n)))
    && (not (is_host (kind_at V n)) || list_all (λ last. not (is_open phase last)) lasts))
