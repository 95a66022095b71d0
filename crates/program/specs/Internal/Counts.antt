-- How many nodes there are.
use Rattle.std.specs.Prelude.{ℕ, List, [], ◌∷◌, ◌+◌, length, Option, Some, None}
use Rattle.program.specs.declared.program.Batch.{Batch}
use Rattle.program.specs.declared.program.Queue.{Queue}
use Rattle.program.specs.declared.program.Signal.{Signal}

abbrev pub signal_count : Option Signal → ℕ
signal_count None = 0
signal_count (Some signal) = 1

abbrev pub batch_count : Batch → ℕ
batch_count batch = length batch.waits + length batch.items + signal_count batch.signal

abbrev pub batches_count : List Batch → ℕ
batches_count [] = 0
batches_count (batch ∷ batches) = batch_count batch + batches_count batches

abbrev pub queues_count : List Queue → ℕ
queues_count [] = 0
queues_count (queue ∷ queues) = batches_count queue.batches + queues_count queues
