-- Each barrier, release, acquire and wait of a compiled program is wanted, and each that is wanted is there.
use Rattle.std.specs.Prelude.{◌≡◌, ℕ, suc, ◌<◌, slice_get, Bool, Some}
use Rattle.vk.specs.Stages.{all_commands}
use Rattle.compile_barriers.specs.Under.{Heap}
use Rattle.compile_groups.specs.Groups.{grouping}
use Rattle.compile_groups.specs.declared.grouping.Grouping.{Grouping}
use Rattle.compile_lifetimes.specs.Ordered.{IsOrdered}
use Rattle.compile_record.specs.Recorded.{heap_with}
use Rattle.compile_record.specs.declared.compiled.Compiled.{Compiled}
use Rattle.frame.specs.Numbered.{NumberedFrame}
use Rattle.law_record.specs.Reasons.{Reason, IsWanted, queue_for}
use Rattle.law_record.specs.Spots.{Spot, Sooner, spot_for}
use Rattle.law_record.specs.Table.{item_for}
use Rattle.law_record.specs.WantedWaits.{IsWaitWanted}
use Rattle.program.specs.Entries.{OfWait, OfItem, OfSignal, entries_of}
use Rattle.program.specs.declared.program.Item.{Item}
use Rattle.program.specs.declared.program.Program.{Program}
use Rattle.program.specs.declared.program.Signal.{Signal}
use Rattle.program.specs.declared.program.WaitFor.{WaitFor}

-- ITEMS

-- the items are those that are wanted, each once, with its number among the nodes, and in order
pub record AreItems (G : Grouping) (heap : Heap) (program : Program) (node : Reason → ℕ) : Type 0 where
  pub each : (x : Reason) → IsWanted G heap x → slice_get (entries_of program) (node x) ≡ Some (OfItem (queue_for G x) (item_for G heap x))
  pub only : (n q : ℕ) (item : Item) → slice_get (entries_of program) n ≡ Some (OfItem q item) → (x : Reason) × IsWanted G heap x × (n ≡ node x)
  pub once : (x y : Reason) → IsWanted G heap x → IsWanted G heap y → node x ≡ node y → x ≡ y
  pub order : (x y : Reason) → IsWanted G heap x → IsWanted G heap y → queue_for G x ≡ queue_for G y → Sooner (spot_for G x) (spot_for G y) → node x < node y

-- WAITS

-- node n, a wait of queue q, is wanted for an item. Its value is that of the signal right after the item. It stands at its spot:
-- after the items of its queue that are sooner, and before those that are later
pub record IsForItem (G : Grouping) (heap : Heap) (program : Program) (node : Reason → ℕ) (n q : ℕ) (wait : WaitFor) : Type 0 where
  pub at : Spot
  pub item : Reason
  pub wanted : IsWaitWanted G heap q at item
  pub is : IsWanted G heap item
  pub queue : wait.queue ≡ queue_for G item
  pub signal : Signal
  pub signalled : slice_get (entries_of program) (suc (node item)) ≡ Some (OfSignal wait.queue signal)
  pub value : wait.value ≡ signal.value
  pub stages : wait.stages.0 ≡ all_commands
  pub after : (x : Reason) → IsWanted G heap x → queue_for G x ≡ q → Sooner (spot_for G x) at → node x < n
  pub before : (x : Reason) → IsWanted G heap x → queue_for G x ≡ q → Sooner at (spot_for G x) → n < node x

-- before node k queue q waits for an item, or for a later node of the item's queue
pub record IsAwaited (G : Grouping) (program : Program) (node : Reason → ℕ) (q k : ℕ) (item : Reason) : Type 0 where
  pub place : ℕ
  pub wait : WaitFor
  pub there : slice_get (entries_of program) place ≡ Some (OfWait q wait)
  pub earlier : place < k
  pub queue : wait.queue ≡ queue_for G item
  pub signalled : ℕ
  pub signal : Signal
  pub value : wait.value ≡ signal.value
  pub stands : slice_get (entries_of program) signalled ≡ Some (OfSignal wait.queue signal)
  pub later : node item < signalled

-- each wait is wanted. Each that is wanted is there, at its spot or a sooner one: before every item of its queue that is later
-- stands a wait for the same or a later node
pub record AreWaits (G : Grouping) (heap : Heap) (program : Program) (node : Reason → ℕ) : Type 0 where
  pub each : (n q : ℕ) (wait : WaitFor) → slice_get (entries_of program) n ≡ Some (OfWait q wait) → IsForItem G heap program node n q wait
  pub met : (q : ℕ) (at : Spot) (item x : Reason) → IsWaitWanted G heap q at item → IsWanted G heap x → queue_for G x ≡ q → Sooner at (spot_for G x) → IsAwaited G program node q (node x) item

-- ALL OF A FRAME

-- `ordered` tells which placed units are used before which, `node` which number each item has
pub record AreNeeded (frame : NumberedFrame) (made : Compiled Program) : Type 0 where
  pub ordered : ℕ → ℕ → Bool
  pub is_ordered : IsOrdered (grouping frame made.kept) ordered
  pub node : Reason → ℕ
  pub items : AreItems (grouping frame made.kept) (heap_with ordered made.placement) made.program node
  pub waits : AreWaits (grouping frame made.kept) (heap_with ordered made.placement) made.program node
