-- Levels of nodes by the steps that they stand at, and the order by them.
use Rattle.std.specs.Prelude.{◌≡◌, ℕ, ◌<◌, List, length, slice_get, true}
use Rattle.std.specs.Option.{option_map_or}
use Rattle.law_plan.specs.Levels.{Under}
use Rattle.law_schedule.specs.Standing.{read_number}
use Rattle.check_order.specs.Nodes.{program_nodes}
use Rattle.check_order.specs.Orders.{Earlier, Order}
use Rattle.program.specs.declared.program.Program.{Program}
use Rattle.compile_timeline.specs.Places.{places, wait_number, item_number, signal_number}
use Rattle.compile_timeline.specs.Signals.{has_signal}
use Rattle.compile_timeline.specs.Steps.{has_item}
use Rattle.compile_timeline.specs.Waits.{waits}
use Rattle.compile_timeline.specs.declared.step.Step.{Step}

-- the step at which a node stands; of a host read the number of steps
abbrev pub level_of : List Step → ℕ → ℕ → ℕ
level_of script count n = option_map_or (λ at. at.step) (slice_get (places script count) n) (length script)

pub record AreSteps (script : List Step) (count : ℕ) : Type 0 where
  pub wait : (q i p : ℕ) → q < count → p < count → has_item script q i ≡ true → waits script q i p ≡ true → level_of script count (wait_number script count q i p) ≡ i
  pub item : (q i : ℕ) → q < count → has_item script q i ≡ true → level_of script count (item_number script count q i) ≡ i
  pub signal : (q i : ℕ) → q < count → has_signal script count q i ≡ true → level_of script count (signal_number script count q i) ≡ i
  pub read : (k : ℕ) → level_of script count (read_number script count k) ≡ length script

-- an order of all nodes that takes them step by step, and those of one step by their numbers
pub record IsByStep (program : Program) (script : List Step) (count : ℕ) (list : List ℕ) : Type 0 where
  pub order : Order (program_nodes program) list
  pub levels : (x n : ℕ) → x < length (program_nodes program) → n < length (program_nodes program) → Under (level_of script count) x n → Earlier list x n
  -- items of all queues stand as the steps do
  pub items : (q r i k : ℕ) → has_item script q i ≡ true → has_item script r k ≡ true → i < k → Earlier list (item_number script count q i) (item_number script count r k)
