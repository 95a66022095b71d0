-- Laws of happens-before: a path of direct edges.
use Rattle.std.specs.Prelude.{◌≡◌, ℕ, ◌<◌, true, List, length}
use Rattle.check_order.specs.Edges.{edge, is_host, node_at}
use Rattle.check_order.specs.Nodes.{program_nodes}
use Rattle.check_order.specs.Orders.{Earlier, Order}
use Rattle.check_order.specs.declared.node.Node.{Node}
use Rattle.base_reach.specs.Paths.{Path}
use Rattle.program.specs.declared.program.Program.{Program}

-- what happens before a node stands before it in every order
abbrev pub GoesForward : List Node → Type 0
GoesForward nodes = (order : List ℕ) → Order nodes order → (x y : ℕ) → Path (edge nodes) x y → Earlier order x y

abbrev pub IsTransitive : List Node → Type 0
IsTransitive nodes = (x y z : ℕ) → Path (edge nodes) x y → Path (edge nodes) y z → Path (edge nodes) x z

-- no node happens before itself, where an order exists
abbrev pub IsIrreflexive : List Node → Type 0
IsIrreflexive nodes = (order : List ℕ) → Order nodes order → (x : ℕ) → Path (edge nodes) x x → ⊥

-- a path joins nodes that are there
abbrev pub IsWithin : List Node → Type 0
IsWithin nodes = (x y : ℕ) → Path (edge nodes) x y → (x < length nodes) × (y < length nodes)

-- what happens before a node does not stand after it in an order
abbrev pub IsAsymmetric : List Node → Type 0
IsAsymmetric nodes = (order : List ℕ) → Order nodes order → (x y : ℕ) → Path (edge nodes) x y → Earlier order y x → ⊥

-- no node is held back by a host read
abbrev pub IsEnding : Program → Type 0
IsEnding program = (x y : ℕ) → is_host (node_at (program_nodes program) x).kind ≡ true → edge (program_nodes program) x y ≡ true → ⊥
