-- What comes later: on one queue, or over a signal and a wait.
use Rattle.std.specs.Prelude.{◌≡◌, ◌⊎◌, ℕ, ◌<◌, List, true}
use Rattle.std.specs.Int.RustNames.{bit_or}
use Rattle.vk.specs.Sets.{meets}
use Rattle.vk.specs.Stages.{all_commands, host, expand}
use Rattle.check_order.specs.Edges.{edge, is_signal, is_wait, node_at}
use Rattle.check_order.specs.declared.kind.Kind.TheVariants.{Command}
use Rattle.check_order.specs.declared.node.Node.{Node}
use Rattle.base_reach.specs.Paths.{Path}
use Rattle.check_access.specs.ValidView.{Has}
use Rattle.check_access.specs.Views.{View, makes_available, makes_visible}
use Rattle.check_access.specs.declared.access.Access.{Access}
use Rattle.check_access.specs.declared.access.AccessKind.{AccessKind}
use Rattle.check_access.specs.declared.access.AccessKind.TheVariants.{Load, Store, Transition, Discard, Release, Acquire}

-- x stands before y on one queue
pub record Sooner (nodes : List Node) (x y : ℕ) : Type 0 where
  pub same : (node_at nodes x).queue ≡ (node_at nodes y).queue
  pub less : x < y

-- a signal after x leads to a wait before y
pub record Crossed (nodes : List Node) (x y : ℕ) : Type 0 where
  pub sent : ℕ
  pub got : ℕ
  pub signal : is_signal (node_at nodes sent).kind ≡ true
  pub wait : is_wait (node_at nodes got).kind ≡ true
  pub after : Sooner nodes x sent
  pub before : Sooner nodes got y
  pub path : Path (edge nodes) sent got

abbrev pub Later : List Node → ℕ → ℕ → Type 0
Later nodes x y = Sooner nodes x y ⊎ Crossed nodes x y

-- STAGES

-- what a wait of ALL_COMMANDS holds back, and what a signal of them waits for
abbrev pub wait_stages : ℕ
wait_stages = expand all_commands

abbrev pub signal_stages : ℕ
signal_stages = bit_or (expand all_commands) host

-- node n waits for such waits before it on its queue, and such signals after it wait for it
pub record Open (nodes : List Node) (n : ℕ) : Type 0 where
  pub into : meets wait_stages (node_at nodes n).src_stages.0 ≡ true
  pub out : meets (node_at nodes n).dst_stages.0 signal_stages ≡ true

-- MEMORY

-- node t makes available what such an access left on the piece; only a store has to be
abbrev pub Flushes : AccessKind → View → ℕ → ℕ → Type 0
Flushes (Store agent layout) V t p = makes_available V t agent p ≡ true
Flushes (Load agent layout) V t p = Unit {0}
Flushes (Transition layouts) V t p = Unit {0}
Flushes (Discard layout) V t p = Unit {0}
Flushes (Release handover) V t p = Unit {0}
Flushes (Acquire handover) V t p = Unit {0}

-- node t makes memory of the piece visible to such an access; loads and stores look at it
abbrev pub Shows : AccessKind → View → ℕ → ℕ → Type 0
Shows (Load agent layout) V t p = makes_visible V t agent p ≡ true
Shows (Store agent layout) V t p = makes_visible V t agent p ≡ true
Shows (Transition layouts) V t p = Unit {0}
Shows (Discard layout) V t p = Unit {0}
Shows (Release handover) V t p = Unit {0}
Shows (Acquire handover) V t p = Unit {0}

-- signals and waits are of ALL_COMMANDS, so they serve every access of a command on their queue
pub record IsFull (V : View) : Type 0 where
  pub signals : (s : ℕ) → is_signal (node_at V.nodes s).kind ≡ true → (node_at V.nodes s).src_stages.0 ≡ signal_stages
  pub waits : (w : ℕ) → is_wait (node_at V.nodes w).kind ≡ true → (node_at V.nodes w).dst_stages.0 ≡ wait_stages
  pub flushed : (n s : ℕ) (a : Access) → is_signal (node_at V.nodes s).kind ≡ true → Sooner V.nodes n s → (node_at V.nodes n).kind ≡ Command → Has V n a → Flushes a.kind V s a.piece
  pub shown : (w n : ℕ) (a : Access) → is_wait (node_at V.nodes w).kind ≡ true → Sooner V.nodes w n → (node_at V.nodes n).kind ≡ Command → Has V n a → Shows a.kind V w a.piece
