-- What holds of a program that breaks no rule.
use Rattle.std.specs.Prelude.{◌≡◌, ◌≤◌, ℕ, length, slice_get, take, true, Some, IfSome}
use Rattle.std.specs.List.{All}
use Rattle.base.specs.Bounds.{sides_allowed, size_allowed}
use Rattle.base.specs.Maxima.{max_queues, max_memories, max_pieces, max_nodes, max_readbacks, max_memory_bytes}
use Rattle.program.specs.Entries.{Entry, OfWait, OfItem, OfSignal, OfHost, entries_of}
use Rattle.program.specs.Limits.{all_bytes}
use Rattle.program.specs.Rules.{piece_obeys, wait_obeys, item_obeys, signal_obeys, readback_obeys, shapes_of}
use Rattle.program.specs.Timelines.{highest}
use Rattle.program.specs.declared.program.Batch.{Batch}
use Rattle.program.specs.declared.program.Program.{Program}
use Rattle.program.specs.declared.program.Queue.{Queue}
use Rattle.program.specs.declared.rule.Rule.{Rule}

-- batch b of a queue obeys a rule
pub record BatchObeys (rule : Rule) (program : Program) (queue : Queue) (b : ℕ) (batch : Batch) : Type 0 where
  pub waits : All (λ wait. wait_obeys rule (length program.queues) queue.family wait ≡ true) batch.waits
  pub items : All (λ item. item_obeys rule (shapes_of program) queue.family item ≡ true) batch.items
  pub signal : IfSome batch.signal (λ signal. signal_obeys rule queue.family (highest (take b queue.batches)) signal ≡ true)

-- the batch with the number b of the queue with the number q
pub record BatchAt (program : Program) (q : ℕ) (b : ℕ) (queue : Queue) (batch : Batch) : Type 0 where
  pub queue_is : slice_get program.queues q ≡ Some queue
  pub batch_is : slice_get queue.batches b ≡ Some batch

-- each part of the program obeys a rule: nothing where it is the rule on limits
pub record Obeys (rule : Rule) (program : Program) : Type 0 where
  pub pieces : All (λ piece. piece_obeys rule program.memories piece ≡ true) program.pieces
  pub batches : (q b : ℕ) (queue : Queue) (batch : Batch) → BatchAt program q b queue batch → BatchObeys rule program queue b batch
  pub readbacks : All (λ piece. readback_obeys rule (shapes_of program) piece ≡ true) program.readbacks

-- an entry obeys a rule, on the queue that it is of
abbrev pub EntryObeys : Rule → Program → Entry → Type 0
EntryObeys rule program (OfWait q wait) = (queue : Queue) × (slice_get program.queues q ≡ Some queue) × (wait_obeys rule (length program.queues) queue.family wait ≡ true)
EntryObeys rule program (OfItem q item) = (queue : Queue) × (slice_get program.queues q ≡ Some queue) × (item_obeys rule (shapes_of program) queue.family item ≡ true)
EntryObeys rule program (OfSignal q signal) = (queue : Queue) × (reached : ℕ) × (slice_get program.queues q ≡ Some queue) × (signal_obeys rule queue.family reached signal ≡ true)
EntryObeys rule program (OfHost piece) = readback_obeys rule (shapes_of program) piece ≡ true

-- the limits, but for that on rectangles
pub record IsSmall (program : Program) : Type 0 where
  pub some_queue : 1 ≤ length program.queues
  pub queues : length program.queues ≤ max_queues
  pub memories : length program.memories ≤ max_memories
  pub pieces : length program.pieces ≤ max_pieces
  pub entries : length (entries_of program) ≤ max_nodes
  pub readbacks : length program.readbacks ≤ max_readbacks
  pub sides : All (λ piece. sides_allowed piece.shape ≡ true) program.pieces
  pub sizes : All (λ piece. size_allowed piece.shape ≡ true) program.pieces
  pub bytes : all_bytes program.memories ≤ max_memory_bytes
