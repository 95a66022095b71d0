-- The nodes of a program: queue by queue, each queue's in the order of submission, and then the host reads.
use Rattle.std.specs.Prelude.{ℕ, List, [], ◌∷◌, ◌++◌, map, length, Option, Some, None}
use Rattle.std.specs.List.{range_with_len}
use Rattle.program.specs.Places.{all_in}
use Rattle.program.specs.declared.nodes.NodeAt.{NodeAt}
use Rattle.program.specs.declared.nodes.NodeAt.TheVariants as node
use Rattle.program.specs.declared.program.Batch.{Batch}
use Rattle.program.specs.declared.program.Program.{Program}
use Rattle.program.specs.declared.program.Queue.{Queue}
use Rattle.program.specs.declared.program.Signal.{Signal}

abbrev pub signal_nodes : ℕ → ℕ → Option Signal → List NodeAt
signal_nodes q b None = []
signal_nodes q b (Some signal) = node.Signal q b ∷ []

-- the waits, the items, and then the signal
abbrev pub batch_nodes : ℕ → ℕ → Batch → List NodeAt
batch_nodes q b batch =
    map (λ k. node.Wait q b k) (range_with_len 0 (length batch.waits))
    ++ map (λ k. node.Item q b k) (range_with_len 0 (length batch.items))
    ++ signal_nodes q b batch.signal

abbrev pub queue_nodes : ℕ → Queue → List NodeAt
queue_nodes q queue = all_in (batch_nodes q) 0 queue.batches

abbrev pub nodes_of : Program → List NodeAt
nodes_of program = all_in queue_nodes 0 program.queues ++ map (λ k. node.Host k) (range_with_len 0 (length program.readbacks))
