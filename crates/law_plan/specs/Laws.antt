-- Laws of recorded programs.
use Rattle.std.specs.Prelude.{ℕ, ◌<◌, List, length}
use Rattle.law_nodes.specs.Sound.{SoundByNodes}
use Rattle.law_plan.specs.Crossings.{Later, IsFull}
use Rattle.law_plan.specs.Facts.{Facts}
use Rattle.law_plan.specs.Levels.{Leveled, Under, by_level}
use Rattle.law_plan.specs.Nodes.{Nodes, Places}
use Rattle.law_plan.specs.Plans.{Plan, Reach}
use Rattle.check_order.specs.Orders.{Earlier, IsLeast, IsStuck, Order}
use Rattle.check_order.specs.declared.node.Node.{Node}
use Rattle.check_access.specs.ValidView.{ValidView}
use Rattle.check_access.specs.Views.{View}

-- a command comes later than what it needs, on one queue or over a signal and a wait, where signals and waits are of all commands
abbrev pub Crosses : Plan → View → Nodes → Type 0
Crosses F V N = IsFull V → Places F V N → (c d : ℕ) → Reach F c d → Later V.nodes (N.command c) (N.command d)

-- a shaped view that has the facts of a plan is sound by its nodes in their least order
abbrev pub MakesSound : Plan → View → Nodes → Type 0
MakesSound F V N = ValidView V → Facts F V N → (order : List ℕ) → IsLeast V.nodes order → SoundByNodes V order

-- of two numbers the one with the lower level stands first, and on one level the lower one
abbrev pub LowerFirst : (ℕ → ℕ) → ℕ → Type 0
LowerFirst level count = (x n : ℕ) → x < count → n < count → Under level x n → Earlier (by_level level count) x n

-- nodes by their levels are in order
abbrev pub LevelsGiveOrder : List Node → (ℕ → ℕ) → Type 0
LevelsGiveOrder nodes level = Leveled nodes level → Order nodes (by_level level (length nodes))

-- and their queues get through
abbrev pub LevelsNeverStick : List Node → (ℕ → ℕ) → Type 0
LevelsNeverStick nodes level = Leveled nodes level → (q n : ℕ) → IsStuck nodes q n → ⊥

-- of nodes that have an order one order is the least
abbrev pub OrderGivesLeast : List Node → Type 0
OrderGivesLeast nodes = (order : List ℕ) → Order nodes order → (least : List ℕ) × IsLeast nodes least
