-- What stands at which number among the nodes of a program that is cut from steps.
use Rattle.std.specs.Prelude.{◌≡◌, ℕ, ◌+◌, ◌<◌, nat_lt, List, length, slice_get, true, Some}
use Rattle.base.specs.declared.shape.Family.{Family}
use Rattle.check_order.specs.Edges.{node_at}
use Rattle.check_order.specs.Nodes.{entry_node, program_nodes}
use Rattle.check_order.specs.Orders.{is_queued}
use Rattle.program.specs.Entries.{Entry, OfWait, OfItem, OfSignal, OfHost, entries_of}
use Rattle.program.specs.Rules.{shapes_of}
use Rattle.program.specs.declared.program.Item as programs
use Rattle.program.specs.declared.program.Program.{Program}
use Rattle.compile_timeline.specs.Batches.{queues}
use Rattle.compile_timeline.specs.Parts.{wait_for, signal_after}
use Rattle.compile_timeline.specs.Places.{places, wait_number, item_number, signal_number}
use Rattle.compile_timeline.specs.Signals.{has_signal}
use Rattle.compile_timeline.specs.Steps.{has_item}
use Rattle.compile_timeline.specs.Waits.{waits}
use Rattle.compile_timeline.specs.declared.step.Step.{Step}
use Rattle.compile_timeline.specs.declared.step.Step.TheVariants.{Item}
use Rattle.check_access.specs.Effects.{entry_effect}
use Rattle.check_access.specs.Views.{view_of, effect_at}

-- the queues of the program are cut from these steps
abbrev pub IsCut : Program → List Step → List Family → Type 0
IsCut program script families = program.queues ≡ queues script families

-- node n is that of an entry, and does what it does
pub record StandsFor (program : Program) (n : ℕ) (entry : Entry) : Type 0 where
  pub within : n < length (program_nodes program)
  pub is : slice_get (entries_of program) n ≡ Some entry
  pub node : node_at (program_nodes program) n ≡ entry_node (length program.queues) entry
  pub effect : effect_at (view_of program) n ≡ entry_effect (shapes_of program) entry

-- of the host's read of piece k of those that are read back: after the nodes of all queues
abbrev pub read_number : List Step → ℕ → ℕ → ℕ
read_number script count k = length (places script count) + k

-- each wait, item, signal and host read stands at its number
pub record AllStand (program : Program) (script : List Step) (count : ℕ) : Type 0 where
  pub wait : (q i p : ℕ) → q < count → p < count → has_item script q i ≡ true → waits script q i p ≡ true → StandsFor program (wait_number script count q i p) (OfWait q (wait_for script count q i p))
  pub item : (q i : ℕ) (item : programs.Item) → q < count → slice_get script i ≡ Some (Item q item) → StandsFor program (item_number script count q i) (OfItem q item)
  pub signal : (q i : ℕ) → q < count → has_signal script count q i ≡ true → StandsFor program (signal_number script count q i) (OfSignal q (signal_after script count i))
  pub read : (k piece : ℕ) → slice_get program.readbacks k ≡ Some piece → StandsFor program (read_number script count k) (OfHost piece)

-- node n is a wait before an item, an item, the signal after one, or a host read
pub data IsOneOf (program : Program) (script : List Step) (count n : ℕ) : Type 0 where
  as_wait : (q i p : ℕ) → q < count → p < count → has_item script q i ≡ true → waits script q i p ≡ true → n ≡ wait_number script count q i p → IsOneOf program script count n
  as_item : (q i : ℕ) (item : programs.Item) → q < count → slice_get script i ≡ Some (Item q item) → n ≡ item_number script count q i → IsOneOf program script count n
  as_signal : (q i : ℕ) → q < count → has_signal script count q i ≡ true → n ≡ signal_number script count q i → IsOneOf program script count n
  as_read : (k piece : ℕ) → slice_get program.readbacks k ≡ Some piece → n ≡ read_number script count k → IsOneOf program script count n

abbrev pub AreThese : Program → List Step → ℕ → Type 0
AreThese program script count = (n : ℕ) → n < length (program_nodes program) → IsOneOf program script count n

-- the nodes of queues come first, and after them the host reads
abbrev pub ReadsAreLast : Program → List Step → ℕ → Type 0
ReadsAreLast program script count = (n : ℕ) → is_queued (program_nodes program) n ≡ nat_lt n (length (places script count))
