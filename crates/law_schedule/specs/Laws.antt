-- What is so of each program that is cut from steps.
use Rattle.std.specs.Prelude.{ℕ, List, length}
use Rattle.base.specs.declared.shape.Family.{Family}
use Rattle.law_plan.specs.Crossings.{IsFull}
use Rattle.law_plan.specs.Levels.{Leveled}
use Rattle.law_schedule.specs.Levels.{level_of, IsByStep}
use Rattle.law_schedule.specs.Standing.{IsCut}
use Rattle.check_order.specs.Nodes.{program_nodes}
use Rattle.check_order.specs.Orders.{IsLeast, IsStuck}
use Rattle.program.specs.declared.program.Program.{Program}
use Rattle.compile_timeline.specs.Steps.{IsScript}
use Rattle.compile_timeline.specs.declared.step.Step.{Step}
use Rattle.check_access.specs.Views.{view_of}

-- of each program that is cut from steps
abbrev pub OfCut : (Program → List Step → ℕ → Type 0) → Type 0
OfCut IsSo = (program : Program) (script : List Step) (families : List Family) → IsCut program script families → IsSo program script (length families)

-- of each that is cut from a script
abbrev pub OfScript : (Program → List Step → ℕ → Type 0) → Type 0
OfScript IsSo = OfCut (λ program script count. IsScript script count → IsSo program script count)

-- its signals and waits are of all commands
abbrev pub IsAllFull : Program → List Step → ℕ → Type 0
IsAllFull program script count = IsFull (view_of program)

-- no edge goes back by steps
abbrev pub IsLeveled : Program → List Step → ℕ → Type 0
IsLeveled program script count = Leveled (program_nodes program) (level_of script count)

-- there is an order by steps
abbrev pub HasOrder : Program → List Step → ℕ → Type 0
HasOrder program script count = (order : List ℕ) × IsByStep program script count order

-- and a least one
abbrev pub HasLeast : Program → List Step → ℕ → Type 0
HasLeast program script count = (order : List ℕ) × IsLeast (program_nodes program) order

-- no queue is ever stuck
abbrev pub IsNeverStuck : Program → List Step → ℕ → Type 0
IsNeverStuck program script count = (q n : ℕ) → IsStuck (program_nodes program) q n → ⊥
