-- What comes later by the steps of a program that is cut from them.
use Rattle.std.specs.Prelude.{◌≡◌, ℕ, ◌<◌, List, slice_get, true, Some}
use Rattle.law_plan.specs.Crossings.{Sooner, Crossed}
use Rattle.check_order.specs.Nodes.{program_nodes}
use Rattle.program.specs.declared.program.Program.{Program}
use Rattle.compile_timeline.specs.Places.{item_number}
use Rattle.compile_timeline.specs.Steps.{has_item, queue_at}
use Rattle.compile_timeline.specs.declared.step.Step.{Step}
use Rattle.compile_timeline.specs.declared.step.Step.TheVariants.{Need}

-- on one queue the item of an earlier step stands before that of a later one
abbrev pub AreSooner : Program → List Step → ℕ → Type 0
AreSooner program script count = (q i k : ℕ) → has_item script q i ≡ true → has_item script q k ≡ true → i < k → Sooner (program_nodes program) (item_number script count q i) (item_number script count q k)

-- from the item that a queue needs a signal and a wait lead to each later item of that queue
abbrev pub AreCrossed : Program → List Step → ℕ → Type 0
AreCrossed program script count = (w q j k : ℕ) → slice_get script w ≡ Some (Need q j) → w < k → has_item script q k ≡ true → Crossed (program_nodes program) (item_number script count (queue_at script j) j) (item_number script count q k)
