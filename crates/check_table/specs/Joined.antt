-- The order of accesses where barriers may be recorded together, in one dependency, and may be releases or acquires.
use Rattle.std.specs.Prelude.{◌≡◌, ◌⊎◌, ℕ, ◌≤◌, ◌==◌, ◌&&◌, ◌||◌, nat_lt, not, Bool, true, false, List, get_or, Option, Some, None}
use Rattle.vk.specs.Sets.{meets}
use Rattle.base_reach.specs.Paths.{Path}
use Rattle.check_order.specs.Edges.{is_sync, is_signal, is_wait, node_at, signalled, meeting, is_at}
use Rattle.check_order.specs.declared.kind.Kind.{Kind}
use Rattle.check_order.specs.declared.kind.Kind.TheVariants.{Command, Barrier, Wait, Signal, Host}
use Rattle.check_order.specs.declared.node.Node.{Node}
use Rattle.check_access_order.specs.Edges as alone
use Rattle.check_table.specs.declared.join.Join.{Join}
use Rattle.check_table.specs.declared.join.Role.{Role}
use Rattle.check_table.specs.declared.join.Role.TheVariants.{Ordinary, Release, Acquire}

-- a release has no out-stages, so it enters no access
abbrev pub gives : Role → Bool
gives Ordinary = true
gives Release = false
gives Acquire = true

-- an acquire has no in-stages, so no access leaves into it
abbrev pub takes : Role → Bool
takes Ordinary = true
takes Release = true
takes Acquire = false

abbrev pub is_release : Role → Bool
is_release Release = true
is_release Ordinary = false
is_release Acquire = false

abbrev pub is_acquire : Role → Bool
is_acquire Acquire = true
is_acquire Ordinary = false
is_acquire Release = false

-- the nodes of a program, with the role of each and the first node of its dependency
pub record Joined : Type 0 where
  pub nodes : List Node
  pub role : ℕ → Role
  pub first : ℕ → ℕ

-- a node that the list does not reach is ordinary, and alone in its dependency
abbrev pub join_at : List Join → ℕ → Join
join_at joins n = get_or joins n (record { role = Ordinary; first = n })

abbrev pub joined : List Node → List Join → Joined
joined nodes joins = record { nodes = nodes; role = λ n. (join_at joins n).role; first = λ n. (join_at joins n).first }

-- a release holds back signals alone, and an acquire is held back by waits alone
abbrev pub fits : Joined → ℕ → ℕ → Bool
fits W x y = (gives (W.role x) || is_signal (node_at W.nodes y).kind) && (takes (W.role y) || is_wait (node_at W.nodes x).kind)

abbrev pub holds_back : Joined → ℕ → ℕ → Bool
holds_back W x y =
    ((node_at W.nodes x).queue == (node_at W.nodes y).queue)
    && ((is_sync (node_at W.nodes x).kind && is_sync (node_at W.nodes y).kind)
    && (fits W x y && meets (node_at W.nodes x).dst_stages.0 (node_at W.nodes y).src_stages.0))

-- as an edge of synchronizing nodes, but none by stages within a dependency
abbrev pub edge : Joined → ℕ → ℕ → Bool
edge W x y =
    (nat_lt x y && (not (W.first x == W.first y) && holds_back W x y))
    || (signalled W.nodes x y || is_at (meeting W.nodes (node_at W.nodes y).kind) x)

abbrev pub waits_for : Joined → ℕ → ℕ → ℕ → Bool
waits_for W stage n x = takes (W.role x) && alone.waits_for W.nodes stage n x

abbrev pub lets_in : Joined → ℕ → ℕ → ℕ → Bool
lets_in W stage y m = gives (W.role y) && alone.lets_in W.nodes stage y m

abbrev pub Before : Joined → ℕ → ℕ → Type 0
Before W x y = Path (edge W) x y

abbrev pub UpTo : Joined → ℕ → ℕ → Type 0
UpTo W x y = (x ≡ y) ⊎ Before W x y

-- what node n does in a stage leaves into node x; what it does in no stage leaves into itself
abbrev pub LeavesIn : Joined → Option ℕ → ℕ → ℕ → Type 0
LeavesIn W (Some stage) n x = waits_for W stage n x ≡ true
LeavesIn W None n x = n ≡ x

abbrev pub EntersIn : Joined → Option ℕ → ℕ → ℕ → Type 0
EntersIn W (Some stage) y m = lets_in W stage y m ≡ true
EntersIn W None y m = y ≡ m

-- from node x on, what node m does in the stage is entered
abbrev pub EnteredFrom : Joined → ℕ → ℕ → Option ℕ → Type 0
EnteredFrom W x m b = (y : ℕ) × UpTo W x y × EntersIn W b y m

-- what node n does in the first stage is before what node m does in the second
abbrev pub InOrder : Joined → ℕ → Option ℕ → ℕ → Option ℕ → Type 0
InOrder W n a m b = (x : ℕ) × LeavesIn W a n x × EnteredFrom W x m b

abbrev pub is_barrier : Kind → Bool
is_barrier Barrier = true
is_barrier Command = false
is_barrier (Wait queue value) = false
is_barrier (Signal value) = false
is_barrier Host = false

-- dependencies are runs of barriers of a queue and have the number of their first node; other nodes are ordinary, and alone
pub record Dependencies (W : Joined) : Type 0 where
  pub low : (n : ℕ) → W.first n ≤ n
  pub its : (n : ℕ) → W.first (W.first n) ≡ W.first n
  pub between : (x m y : ℕ) → x ≤ m → m ≤ y → W.first x ≡ W.first y → W.first x ≡ W.first m
  pub queue : (n : ℕ) → (node_at W.nodes (W.first n)).queue ≡ (node_at W.nodes n).queue
  pub alone : (x y : ℕ) → is_barrier (node_at W.nodes y).kind ≡ false → W.first x ≡ W.first y → x ≡ y
  pub role : (n : ℕ) → is_barrier (node_at W.nodes n).kind ≡ false → W.role n ≡ Ordinary
