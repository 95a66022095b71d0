-- What a program is written as has no float and nests little, so its text is read as the same value.
use Rattle.std.proofs.Common.{ℕ, arith, List, Option, Some, None, refl, codes}
use Rattle.base.specs.declared.op.Op.{Op}
use Rattle.base.specs.declared.shape.Shape.{Shape}
use Rattle.base.specs.declared.shape.Shape.TheVariants as shapes
use Rattle.vk.specs.declared.layout.Layouts.{Layouts}
use Rattle.vk.specs.declared.sharing.Sharing.{Sharing}
use Rattle.vk.specs.declared.sharing.Sharing.TheVariants.{Exclusive, Concurrent}
use Rattle.file_json.proofs.Flat.{IsFlat, number_flat, text_flat, items_plain, items_shallow, with_one, object_flat}
use Rattle.file_json.specs.Leaves.{number_data}
use Rattle.file_ops.proofs.OpFlat.{members_flat}
use Rattle.file_ops.specs.OpWriting.{op_members}
use Rattle.program.specs.declared.program.Batch.{Batch}
use Rattle.program.specs.declared.program.Item.{Item}
use Rattle.program.specs.declared.program.Item.TheVariants as items
use Rattle.program.specs.declared.program.Memory.{Memory}
use Rattle.program.specs.declared.program.Memory.TheVariants as memories
use Rattle.program.specs.declared.program.Piece.{Piece}
use Rattle.program.specs.declared.program.Program.{Program}
use Rattle.program.specs.declared.program.Queue.{Queue}
use Rattle.program.specs.declared.program.Signal.{Signal}
use Rattle.program.specs.declared.program.Transfer as transfers
use Rattle.program.specs.declared.program.WaitFor.{WaitFor}
use Rattle.serde_json.specs.Data.{string}
use Rattle.file_program.specs.Batches.{batch_data, queue_data}
use Rattle.file_program.specs.Items.{item_data, command_data}
use Rattle.file_program.specs.Memories.{memory_data}
use Rattle.file_program.specs.Pieces.{piece_data, shape_data}
use Rattle.file_program.specs.Programs.{program_data}
use Rattle.file_program.specs.Timelines.{wait_data}
use Rattle.file_program.specs.Transfers.{transfer_data}

wait_flat : (wait : WaitFor) → IsFlat 1 (wait_data wait)
wait_flat wait = record { plain = refl; shallow = omega arith }

-- a command's members are those of its operation, and `item`
command_flat : (op : Op ℕ) → IsFlat 3 (command_data op)
command_flat op =
    object_flat 2 _ (
    with_one (codes "item") (string (codes "command")) 2 (op_members number_data op) (text_flat 2 (codes "command")) (
    members_flat number_data (number_flat 2) op))

transfer_flat : (item : List ℕ) (t : transfers.Transfer) (layouts : Option Layouts) → IsFlat 3 (transfer_data item (record t { layouts = layouts }))
transfer_flat item t None = record { plain = refl; shallow = omega arith }
transfer_flat item t (Some layouts) = record { plain = refl; shallow = omega arith }

item_flat : (item : Item) → IsFlat 3 (item_data item)
item_flat (items.Command op) = command_flat op
item_flat (items.Global masks) = record { plain = refl; shallow = omega arith }
item_flat (items.BufferBarrier piece masks) = record { plain = refl; shallow = omega arith }
item_flat (items.ImageBarrier piece layouts masks) = record { plain = refl; shallow = omega arith }
item_flat (items.Release t) = transfer_flat (codes "release") t t.layouts
item_flat (items.Acquire t) = transfer_flat (codes "acquire") t t.layouts

module _ (waits : List WaitFor) (items : List Item) where
  batch_with : (signal : Option Signal) → IsFlat 5 (batch_data (record { waits = waits; items = items; signal = signal }))
  batch_with None = record {
    plain = rw (items_plain item_data 3 item_flat items, items_plain wait_data 1 wait_flat waits) refl;
    shallow = omega (arith, items_shallow item_data 3 item_flat items, items_shallow wait_data 1 wait_flat waits);
  }
  batch_with (Some signal) = record {
    plain = rw (items_plain item_data 3 item_flat items, items_plain wait_data 1 wait_flat waits) refl;
    shallow = omega (arith, items_shallow item_data 3 item_flat items, items_shallow wait_data 1 wait_flat waits);
  }

batch_flat : (batch : Batch) → IsFlat 5 (batch_data batch)
batch_flat batch = batch_with batch.waits batch.items batch.signal

queue_flat : (queue : Queue) → IsFlat 7 (queue_data queue)
queue_flat queue = record {
  plain = rw (items_plain batch_data 5 batch_flat queue.batches) refl;
  shallow = omega (arith, items_shallow batch_data 5 batch_flat queue.batches);
}

memory_flat : (memory : Memory) → IsFlat 1 (memory_data memory)
memory_flat (memories.Plain size) = record { plain = refl; shallow = omega arith }
memory_flat (memories.Import bytes) = record { plain = refl; shallow = omega arith }

shape_flat : (shape : Shape) (memory offset : ℕ) (sharing : Sharing) → IsFlat 2 (shape_data shape memory offset sharing)
shape_flat (shapes.Buffer size) memory offset Exclusive = record { plain = refl; shallow = omega arith }
shape_flat (shapes.Buffer size) memory offset Concurrent = record { plain = refl; shallow = omega arith }
shape_flat (shapes.Image width height texel) memory offset Exclusive = record { plain = refl; shallow = omega arith }
shape_flat (shapes.Image width height texel) memory offset Concurrent = record { plain = refl; shallow = omega arith }

piece_flat : (piece : Piece) → IsFlat 2 (piece_data piece)
piece_flat piece = shape_flat piece.shape piece.memory piece.offset piece.sharing

pub program_flat : (program : Program) → IsFlat 9 (program_data program)
program_flat program = record {
  plain = rw (items_plain memory_data 1 memory_flat program.memories, items_plain piece_data 2 piece_flat program.pieces, items_plain queue_data 7 queue_flat program.queues, items_plain number_data 0 (number_flat 0) program.readbacks) refl;
  shallow = omega (arith, items_shallow memory_data 1 memory_flat program.memories, items_shallow piece_data 2 piece_flat program.pieces, items_shallow queue_data 7 queue_flat program.queues, items_shallow number_data 0 (number_flat 0) program.readbacks);
}
