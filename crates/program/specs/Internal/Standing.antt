-- What stands at a location of a program.
use Rattle.std.specs.Prelude.{ℕ, slice_get, Option, None}
use Rattle.std.specs.Option.{option_and_then, option_map}
use Rattle.program.specs.Entries.{Entry, OfWait, OfItem, OfSignal, OfHost}
use Rattle.program.specs.declared.nodes.NodeAt.{NodeAt}
use Rattle.program.specs.declared.nodes.NodeAt.TheVariants as at
use Rattle.program.specs.declared.program.Batch.{Batch}
use Rattle.program.specs.declared.program.Program.{Program}

abbrev pub batch_entry : NodeAt → Batch → Option Entry
batch_entry (at.Wait q b k) batch = option_map (OfWait q) (slice_get batch.waits k)
batch_entry (at.Item q b k) batch = option_map (OfItem q) (slice_get batch.items k)
batch_entry (at.Signal q b) batch = option_map (OfSignal q) batch.signal
batch_entry (at.Host k) batch = None

abbrev pub queued_entry : Program → NodeAt → ℕ → ℕ → Option Entry
queued_entry program location q b = option_and_then (λ queue. option_and_then (batch_entry location) (slice_get queue.batches b)) (slice_get program.queues q)

abbrev pub entry_at : Program → NodeAt → Option Entry
entry_at program (at.Wait q b k) = queued_entry program (at.Wait q b k) q b
entry_at program (at.Item q b k) = queued_entry program (at.Item q b k) q b
entry_at program (at.Signal q b) = queued_entry program (at.Signal q b) q b
entry_at program (at.Host k) = option_map OfHost (slice_get program.readbacks k)
