-- The nodes of a program: queue by queue, each queue's in the order of submission, and then the host reads.
use Rattle.std.specs.Prelude.{◌≡◌, ℕ, ◌+◌, ◌<◌, ◌≤◌, List, ◌++◌, map, length, take, slice_get, Option, Some, None, option_to_list}
use Rattle.std.specs.List.{flat_map}
use Rattle.program.specs.Places.{all_in}
use Rattle.program.specs.declared.entry.Entry as lent
use Rattle.program.specs.declared.entry.Entry.TheVariants.{Wait, Item, Signal, Host}
use Rattle.program.specs.declared.program.Batch.{Batch}
use Rattle.program.specs.declared.program.Item as items
use Rattle.program.specs.declared.program.Program.{Program}
use Rattle.program.specs.declared.program.Queue.{Queue}
use Rattle.program.specs.declared.program.Signal as signals
use Rattle.program.specs.declared.program.WaitFor.{WaitFor}

-- what a node stands for: a wait, an item or a signal, with the number of its queue, or the host's read of a piece
pub data Entry : Type 0 where
  OfWait : ℕ → WaitFor → Entry
  OfItem : ℕ → items.Item → Entry
  OfSignal : ℕ → signals.Signal → Entry
  OfHost : ℕ → Entry

-- what is lent of it
abbrev pub seen : lent.Entry → Entry
seen (Wait queue wait) = OfWait queue wait.now
seen (Item queue item) = OfItem queue item.now
seen (Signal queue signal) = OfSignal queue signal.now
seen (Host piece) = OfHost piece

-- the waits, the items, and then the signal
abbrev pub batch_entries : ℕ → Batch → List Entry
batch_entries q batch = map (OfWait q) batch.waits ++ map (OfItem q) batch.items ++ map (OfSignal q) (option_to_list batch.signal)

abbrev pub queue_entries : ℕ → Queue → List Entry
queue_entries q queue = flat_map (batch_entries q) queue.batches

abbrev pub entries_of : Program → List Entry
entries_of program = all_in queue_entries 0 program.queues ++ map OfHost program.readbacks

-- THE NODES OF A QUEUE

-- of a host read none
abbrev pub queue_of : Entry → Option ℕ
queue_of (OfWait q wait) = Some q
queue_of (OfItem q item) = Some q
queue_of (OfSignal q signal) = Some q
queue_of (OfHost piece) = None

-- how many nodes the queues before a queue have; of the number of queues, how many all have
abbrev pub first_node : Program → ℕ → ℕ
first_node program q = length (all_in queue_entries 0 (take q program.queues))

-- each queue's nodes stand between its first node and that of the next queue, and the host reads after them all
pub record ByQueue (program : Program) : Type 0 where
  pub queued : (n q : ℕ) (entry : Entry) → slice_get (entries_of program) n ≡ Some entry → queue_of entry ≡ Some q → (q < length program.queues) × (first_node program q ≤ n) × (n < first_node program (q + 1))
  pub hosts : (n : ℕ) (entry : Entry) → slice_get (entries_of program) n ≡ Some entry → queue_of entry ≡ None → first_node program (length program.queues) ≤ n
  pub rising : (q r : ℕ) → q ≤ r → first_node program q ≤ first_node program r
  pub count : length (entries_of program) ≡ first_node program (length program.queues) + length program.readbacks
