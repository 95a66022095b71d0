-- What a frame costs: the greatest sum of the costs of commands one of which waits for another.
use Rattle.std.specs.Prelude.{◌≡◌, ◌<◌, ◌≤◌, ◌+◌, ◌/◌, ℕ, List, [], ◌∷◌, Bool, true, map, length, slice_index_or}
use Rattle.std.specs.List.{AllByRecursion}
use Rattle.base.specs.Operands.{destination_of}
use Rattle.base.specs.Shapes.{shape_at, bytes_of}
use Rattle.frame.specs.Numbered.{NumberedFrame}
use Rattle.compile_groups.specs.Groups.{grouping}
use Rattle.compile_groups.specs.Needs.{leads}
use Rattle.compile_groups.specs.declared.command.Command.{Command}
use Rattle.compile_groups.specs.declared.grouping.Grouping.{Grouping}
use Rattle.frame_cull.specs.Culled.{AreKept}

-- PATHS

-- a path, listed from its last number back: a step leads from each to the one before it in the list
abbrev pub IsPath : (ℕ → ℕ → Bool) → List ℕ → Type 0
IsPath step [] = Unit {0}
IsPath step (b ∷ []) = Unit {0}
IsPath step (b ∷ (a ∷ path)) = (step a b ≡ true) × IsPath step (a ∷ path)

abbrev pub cost_at : List ℕ → ℕ → ℕ
cost_at costs n = slice_index_or costs n 0

abbrev pub sum_of : List ℕ → List ℕ → ℕ
sum_of costs [] = 0
sum_of costs (n ∷ path) = cost_at costs n + sum_of costs path

abbrev pub AreBelow : ℕ → List ℕ → Type 0
AreBelow count path = AllByRecursion (λ n. n < count) path

-- the greatest sum of costs on a path of such steps; the empty path costs nothing
pub record IsCost (step : ℕ → ℕ → Bool) (costs : List ℕ) (cost : ℕ) : Type 0 where
  pub path : List ℕ
  pub within : AreBelow (length costs) path
  pub is_path : IsPath step path
  pub sum : sum_of costs path ≡ cost
  pub greatest : (other : List ℕ) → AreBelow (length costs) other → IsPath step other → sum_of costs other ≤ cost

-- COMMANDS

-- 1, and 1 more for each whole 4,096 bytes of its destination
abbrev pub command_cost : Grouping → Command → ℕ
command_cost G command = 1 + bytes_of (shape_at G.shapes (destination_of command.op)) / 4096

abbrev pub costs : Grouping → List ℕ
costs G = map (command_cost G) G.commands

-- over the commands of the passes that are kept and of the exports: a step is a need or along a queue
pub record IsFrameCost (frame : NumberedFrame) (cost : ℕ) : Type 0 where
  pub kept : List Bool
  pub are_kept : AreKept frame kept
  pub is_cost : IsCost (leads (grouping frame kept)) (costs (grouping frame kept)) cost
