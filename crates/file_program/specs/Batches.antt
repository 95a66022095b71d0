-- Batches, with optional `waits`, `items` and `signal`; queues, with `family` and `batches`.
use Rattle.std.specs.Prelude.{ℕ, List, [], ◌∷◌, Option, Some, None, IfSome, Ok, unwrap_or, codes}
use Rattle.std.specs.List.{AllByRecursion}
use Rattle.file_json.specs.Leaves.{text_at, text_data}
use Rattle.file_json.specs.Parts.{Reader, object_at, member_at, optional_at, list_at, others_at, array_of, members_in}
use Rattle.file_json.specs.Reading.{◌>>=◌}
use Rattle.file_shapes.specs.Families.{family_of}
use Rattle.base.specs.Families.{family_name}
use Rattle.program.specs.declared.program.Batch.{Batch}
use Rattle.program.specs.declared.program.Queue.{Queue}
use Rattle.program.specs.declared.program.Signal.{Signal}
use Rattle.serde_json.specs.Data.{Data, object}
use Rattle.file_program.specs.Items.{item_at, item_data, FitsItem}
use Rattle.file_program.specs.Timelines.{wait_at, wait_data, FitsWait, signal_at, signal_data, FitsSignal}

unfoldable pub batch_at : Reader Batch
batch_at at d = do
  start ← object_at at d
  waits ← optional_at (list_at wait_at) (codes "waits") at d
  items ← optional_at (list_at item_at) (codes "items") at d
  signal ← optional_at signal_at (codes "signal") at d
  end ← others_at (codes "waits" ∷ codes "items" ∷ codes "signal" ∷ []) at d
  Ok (record { waits = unwrap_or waits []; items = unwrap_or items []; signal = signal })

abbrev pub with_signal : Option Signal → List (List ℕ × Data) → List (List ℕ × Data)
with_signal None members = members
with_signal (Some signal) members = (codes "signal", signal_data signal) ∷ members

-- waits and items are written where there are none, too
abbrev pub batch_data : Batch → Data
batch_data batch = object (members_in (
    (codes "items", array_of item_data batch.items) ∷
    with_signal batch.signal (
    (codes "waits", array_of wait_data batch.waits) ∷
    [])))

-- what the format says of a batch
pub record FitsBatch (batch : Batch) : Type 0 where
  pub waits : AllByRecursion FitsWait batch.waits
  pub items : AllByRecursion FitsItem batch.items
  pub signal : IfSome batch.signal FitsSignal

unfoldable pub queue_at : Reader Queue
queue_at at d = do
  start ← object_at at d
  family ← member_at (text_at family_of) (codes "family") at d
  batches ← member_at (list_at batch_at) (codes "batches") at d
  end ← others_at (codes "family" ∷ codes "batches" ∷ []) at d
  Ok (record { family = family; batches = batches })

abbrev pub queue_data : Queue → Data
queue_data queue = object (members_in (
    (codes "batches", array_of batch_data queue.batches) ∷
    (codes "family", text_data family_name queue.family) ∷
    []))

-- what the format says of a queue
abbrev pub FitsQueue : Queue → Type 0
FitsQueue queue = AllByRecursion FitsBatch queue.batches
