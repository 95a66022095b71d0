-- What holds of queues that are cut from a list of steps.
use Rattle.std.specs.Prelude.{◌≡◌, ℕ, suc, ◌<◌, ◌≤◌, List, ◌++◌, map, length, slice_get, true, false, Some}
use Rattle.base.specs.declared.shape.Family.{Family}
use Rattle.program.specs.Entries.{OfHost, entries_of}
use Rattle.program.specs.declared.program.Item as programs
use Rattle.program.specs.declared.program.Program.{Program}
use Rattle.compile_timeline.specs.Batches.{queues}
use Rattle.compile_timeline.specs.Parts.{Waits, Does, Signals, wait_for, signal_after}
use Rattle.compile_timeline.specs.Places.{Place, place, places, entry_of, wait_number, item_number, signal_number}
use Rattle.compile_timeline.specs.Signals.{has_signal, value_at}
use Rattle.compile_timeline.specs.Steps.{queue_at, has_item}
use Rattle.compile_timeline.specs.Waits.{latest, waits}
use Rattle.compile_timeline.specs.declared.step.Step.{Step}
use Rattle.compile_timeline.specs.declared.step.Step.TheVariants.{Item, Need}

-- NODES

-- the nodes of the program are the parts, and then the host reads
abbrev pub AreParts : List Step → List Family → Type 0
AreParts script families = (program : Program) → program.queues ≡ queues script families → entries_of program ≡ map entry_of (places script (length families)) ++ map OfHost program.readbacks

-- a queue for each family
pub record AreOfFamilies (script : List Step) (families : List Family) : Type 0 where
  pub count : length (queues script families) ≡ length families
  pub each : map (λ queue. queue.family) (queues script families) ≡ families

-- the part with a number: a wait before an item of its queue, that item, or the signal after it
pub data Stands (script : List Step) (count n : ℕ) (at : Place) : Type 0 where
  a_wait : (p : ℕ) → p < count → waits script at.queue at.step p ≡ true → at.part ≡ Waits (wait_for script count at.queue at.step p) → n ≡ wait_number script count at.queue at.step p → Stands script count n at
  an_item : (item : programs.Item) → slice_get script at.step ≡ Some (Item at.queue item) → at.part ≡ Does item → n ≡ item_number script count at.queue at.step → Stands script count n at
  a_signal : has_signal script count at.queue at.step ≡ true → at.part ≡ Signals (signal_after script count at.step) → n ≡ signal_number script count at.queue at.step → Stands script count n at

pub record IsNumbered (script : List Step) (count n : ℕ) (at : Place) : Type 0 where
  pub queue : at.queue < count
  pub step : has_item script at.queue at.step ≡ true
  pub stands : Stands script count n at

-- each part is of an item, and has its number
abbrev pub AreNumbered : List Step → ℕ → Type 0
AreNumbered script count = (n : ℕ) (at : Place) → slice_get (places script count) n ≡ Some at → IsNumbered script count n at

-- each wait, item and signal is there
pub record AllThere (script : List Step) (count : ℕ) : Type 0 where
  pub wait : (q i p : ℕ) → q < count → p < count → has_item script q i ≡ true → waits script q i p ≡ true → slice_get (places script count) (wait_number script count q i p) ≡ Some (place q i (Waits (wait_for script count q i p)))
  pub item : (q i : ℕ) (item : programs.Item) → q < count → slice_get script i ≡ Some (Item q item) → slice_get (places script count) (item_number script count q i) ≡ Some (place q i (Does item))
  pub signal : (q i : ℕ) → q < count → has_signal script count q i ≡ true → slice_get (places script count) (signal_number script count q i) ≡ Some (place q i (Signals (signal_after script count i)))

-- on a queue the parts of an earlier step come first, and of one step a wait before the item, by queues
pub record InOrder (script : List Step) (count : ℕ) : Type 0 where
  pub steps : (m n : ℕ) (x y : Place) → slice_get (places script count) m ≡ Some x → slice_get (places script count) n ≡ Some y → x.queue ≡ y.queue → x.step < y.step → m < n
  pub wait : (q i p : ℕ) → p < count → waits script q i p ≡ true → wait_number script count q i p < item_number script count q i
  pub waits : (q i p r : ℕ) → p < r → waits script q i p ≡ true → wait_number script count q i p < wait_number script count q i r

-- WAITS AND SIGNALS

-- a wait is for an item before it that a step of its queue needs, and a signal stands after that item
pub record IsFor (script : List Step) (count q i p : ℕ) : Type 0 where
  pub step : ℕ
  pub latest : latest script q p i ≡ suc step
  pub earlier : step < i
  pub item : has_item script p step ≡ true
  pub signal : has_signal script count p step ≡ true
  pub place : ℕ
  pub below : place < i
  pub need : slice_get script place ≡ Some (Need q step)

abbrev pub AreFor : List Step → ℕ → Type 0
AreFor script count = (q i p : ℕ) → q < count → p < count → has_item script q i ≡ true → waits script q i p ≡ true → IsFor script count q i p

-- before an item of queue q at place k, or an earlier one of q, stands a wait for step j or a later one of its queue
pub record IsMet (script : List Step) (q j k : ℕ) : Type 0 where
  pub item : ℕ
  pub low : item ≤ k
  pub has : has_item script q item ≡ true
  pub waits : waits script q item (queue_at script j) ≡ true
  pub reaches : j < latest script q (queue_at script j) item

-- each need is met before the next item of its queue
abbrev pub AreMet : List Step → Type 0
AreMet script = (i q j k : ℕ) → slice_get script i ≡ Some (Need q j) → i < k → has_item script q k ≡ true → IsMet script q j k

-- a queue ends with a signal
abbrev pub Ends : List Step → ℕ → Type 0
Ends script count = (q i : ℕ) → has_item script q i ≡ true → ((k : ℕ) → i < k → has_item script q k ≡ false) → has_signal script count q i ≡ true

-- the values of a queue's signals rise from 1 on
pub record AreRising (script : List Step) (count : ℕ) : Type 0 where
  pub positive : (q i : ℕ) → has_signal script count q i ≡ true → 1 ≤ value_at script count i
  pub rising : (q i j : ℕ) → has_item script q i ≡ true → has_signal script count q j ≡ true → i < j → value_at script count i < value_at script count j
