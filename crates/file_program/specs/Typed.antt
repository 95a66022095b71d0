-- What types say of the parts of a program: numbers are those that a `u32` holds, and bytes are bytes.
use Rattle.std.specs.Prelude.{⊤}
use Rattle.std.specs.List.{AllByRecursion}
use Rattle.file_json.specs.Leaves.{FitsWhole}
use Rattle.file_ops.specs.OpFits.{FitsOp}
use Rattle.program.specs.declared.program.Batch.{Batch}
use Rattle.program.specs.declared.program.Item.{Item}
use Rattle.program.specs.declared.program.Item.TheVariants as items
use Rattle.program.specs.declared.program.Piece.{Piece}
use Rattle.program.specs.declared.program.Program.{Program}
use Rattle.program.specs.declared.program.Queue.{Queue}
use Rattle.program.specs.declared.program.WaitFor.{WaitFor}
use Rattle.file_program.specs.Memories.{FitsMemory}

abbrev pub IsTypedPiece : Piece → Type 0
IsTypedPiece piece = FitsWhole piece.memory × FitsWhole piece.offset

abbrev pub IsTypedWait : WaitFor → Type 0
IsTypedWait wait = FitsWhole wait.queue

abbrev pub IsTypedItem : Item → Type 0
IsTypedItem (items.Command op) = FitsOp FitsWhole op
IsTypedItem (items.Global masks) = ⊤
IsTypedItem (items.BufferBarrier piece masks) = FitsWhole piece
IsTypedItem (items.ImageBarrier piece layouts masks) = FitsWhole piece
IsTypedItem (items.Release t) = FitsWhole t.piece
IsTypedItem (items.Acquire t) = FitsWhole t.piece

pub record IsTypedBatch (batch : Batch) : Type 0 where
  pub waits : AllByRecursion IsTypedWait batch.waits
  pub items : AllByRecursion IsTypedItem batch.items

abbrev pub IsTypedQueue : Queue → Type 0
IsTypedQueue queue = AllByRecursion IsTypedBatch queue.batches

pub record IsTypedProgram (program : Program) : Type 0 where
  pub memories : AllByRecursion FitsMemory program.memories
  pub pieces : AllByRecursion IsTypedPiece program.pieces
  pub queues : AllByRecursion IsTypedQueue program.queues
  pub readbacks : AllByRecursion FitsWhole program.readbacks
