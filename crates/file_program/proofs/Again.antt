-- What was written is read again.
use Rattle.std.proofs.Common.{◌≡◌, ℕ, suc, false, List, [], ◌∷◌, ◌++◌, map, Option, Some, None, Ok, refl, ap, codes}
use Rattle.std.specs.Prelude.{IfSome}
use Rattle.std.specs.List.{AllByRecursion}
use Rattle.base.specs.declared.op.Op.{Op}
use Rattle.base.specs.declared.path.Leg.{Leg}
use Rattle.base.specs.declared.path.Leg.TheVariants as leg
use Rattle.base.specs.declared.shape.Family.{Family}
use Rattle.base.specs.declared.shape.Shape.{Shape}
use Rattle.base.specs.declared.shape.Shape.TheVariants as shapes
use Rattle.vk.specs.Layouts.{layout_name, layout_of}
use Rattle.vk.specs.declared.accesses.Accesses.{Accesses}
use Rattle.vk.specs.declared.layout.Layout.{Layout}
use Rattle.vk.specs.declared.layout.Layouts.{Layouts}
use Rattle.vk.specs.declared.masks.Masks.{Masks}
use Rattle.vk.specs.declared.sharing.Sharing.{Sharing}
use Rattle.vk.specs.declared.sharing.Sharing.TheVariants.{Exclusive, Concurrent}
use Rattle.vk.specs.declared.stages.Stages.{Stages}
use Rattle.file_json.proofs.Again.{number_again, whole_again, list_again, text_again}
use Rattle.file_json.specs.Leaves.{whole_at, greatest, number_data, text_at, text_data, FitsWhole}
use Rattle.file_json.specs.Parts.{below, entries_at, array_of}
use Rattle.file_ops.proofs.Beside.{holds_beside, others_beside}
use Rattle.file_ops.proofs.OpAgain.{parts_again}
use Rattle.file_ops.specs.Kinds.{is_in, members_of, op_kind}
use Rattle.file_ops.specs.OpFits.{FitsOp}
use Rattle.file_ops.specs.OpWriting.{op_members}
use Rattle.file_ops.specs.declared.kind.Kind.{Kind}
use Rattle.file_ops.specs.declared.kind.Kind.TheVariants as kinds
use Rattle.file_shapes.proofs.Again.{bytes_again, family_again, texel_again}
use Rattle.file_shapes.specs.Bodies.{FitsLayers}
use Rattle.program.specs.declared.program.Batch.{Batch}
use Rattle.program.specs.declared.program.Item.{Item}
use Rattle.program.specs.declared.program.Item.TheVariants as items
use Rattle.program.specs.declared.program.Memory.{Memory}
use Rattle.program.specs.declared.program.Memory.TheVariants as memories
use Rattle.program.specs.declared.program.Piece.{Piece}
use Rattle.program.specs.declared.program.Program.{Program}
use Rattle.program.specs.declared.program.Queue.{Queue}
use Rattle.program.specs.declared.program.Signal.{Signal}
use Rattle.program.specs.declared.program.Transfer as transfers
use Rattle.program.specs.declared.program.WaitFor.{WaitFor}
use Rattle.serde_json.specs.Data.{string}
use Rattle.serde_json.specs.Find.{get}
use Rattle.serde_json.specs.View.{items_of}
use Rattle.serde_json.proofs.Views.{get_member-put}
use Rattle.file_program.specs.BarrierMasks.{masks_at, FitsMasks}
use Rattle.file_program.specs.Batches.{batch_at, batch_data, FitsBatch, queue_at, queue_data, FitsQueue}
use Rattle.file_program.specs.Items.{command_at, global_at, buffer_at, image_at, kind_at, item_at, item_data, command_data, FitsItem}
use Rattle.file_program.specs.LayoutWords.{layout_again}
use Rattle.file_program.specs.Masks.{stages_of, stages_text, stages_at, stages_data, FitsStages, accesses_of, accesses_text, accesses_at, accesses_data, FitsAccesses}
use Rattle.file_program.specs.Memories.{plain_at, import_at, memory_at, memory_data, FitsMemory}
use Rattle.file_program.specs.Pieces as pieces
use Rattle.file_program.specs.Pieces.{entry_at, pieces_at, piece_data, flat, FitsPiece}
use Rattle.file_program.specs.Programs.{parts_at as program_parts_at, program_at, program_data, FitsProgram}
use Rattle.file_program.specs.Timelines.{wait_at, wait_data, FitsWait, signal_at, signal_data, FitsSignal}
use Rattle.file_program.specs.Transfers.{both_at, layouts_at, transfer_at, transfer_data, FitsTransfer}
use Rattle.file_program.proofs.MaskAgain.{stages_again, accesses_again}

-- the members of an object at a place
module _ (at : List Leg) where
  layout_member : (member : List ℕ) (layout : Layout) → text_at layout_of (below at member) (text_data layout_name layout) ≡ Ok layout
  layout_member member layout = text_again layout_of layout_name (below at member) layout (layout_again layout tt)

  stages_member : (member : List ℕ) (set : Stages) → FitsStages set → stages_at (below at member) (stages_data set) ≡ Ok set
  stages_member member set fits = text_again stages_of stages_text (below at member) set (stages_again set fits)

  accesses_member : (member : List ℕ) (set : Accesses) → FitsAccesses set → accesses_at (below at member) (accesses_data set) ≡ Ok set
  accesses_member member set fits = text_again accesses_of accesses_text (below at member) set (accesses_again set fits)

-- TIMELINES

pub wait_again : (at : List Leg) (wait : WaitFor) → FitsWait wait → wait_at at (wait_data wait) ≡ Ok wait
unfolding wait_at
wait_again at wait fits = rw (whole_again (below at (codes "queue")) wait.queue fits.queue, stages_member at (codes "stage") wait.stages fits.stages) refl

pub signal_again : (at : List Leg) (signal : Signal) → FitsSignal signal → signal_at at (signal_data signal) ≡ Ok signal
unfolding signal_at
signal_again at signal fits = rw (stages_member at (codes "stage") signal.stages fits) refl

-- BARRIERS

module _ (at : List Leg) (masks : Masks) (fits : FitsMasks masks) where
  global_again : item_at at (item_data (items.Global masks)) ≡ Ok (items.Global masks)
  unfolding item_at kind_at global_at masks_at
  global_again = rw (stages_member at (codes "src_stage") masks.src_stages fits.src_stages, accesses_member at (codes "src_access") masks.src_accesses fits.src_accesses, stages_member at (codes "dst_stage") masks.dst_stages fits.dst_stages, accesses_member at (codes "dst_access") masks.dst_accesses fits.dst_accesses) refl

  module _ (piece : ℕ) (p : FitsWhole piece) where
    buffer_again : item_at at (item_data (items.BufferBarrier piece masks)) ≡ Ok (items.BufferBarrier piece masks)
    unfolding item_at kind_at buffer_at masks_at
    buffer_again = rw (whole_again (below at (codes "piece")) piece p, stages_member at (codes "src_stage") masks.src_stages fits.src_stages, accesses_member at (codes "src_access") masks.src_accesses fits.src_accesses, stages_member at (codes "dst_stage") masks.dst_stages fits.dst_stages, accesses_member at (codes "dst_access") masks.dst_accesses fits.dst_accesses) refl

    image_again : (layouts : Layouts) → item_at at (item_data (items.ImageBarrier piece layouts masks)) ≡ Ok (items.ImageBarrier piece layouts masks)
    unfolding item_at kind_at image_at both_at masks_at
    image_again layouts = rw (whole_again (below at (codes "piece")) piece p, layout_member at (codes "from") layouts.from, layout_member at (codes "to") layouts.to, stages_member at (codes "src_stage") masks.src_stages fits.src_stages, accesses_member at (codes "src_access") masks.src_accesses fits.src_accesses, stages_member at (codes "dst_stage") masks.dst_stages fits.dst_stages, accesses_member at (codes "dst_access") masks.dst_accesses fits.dst_accesses) refl

    -- the object of a release or an acquire, but for its word
    module _ (item : List ℕ) (from_family to_family : Family) where
      transfer_with : (layouts : Option Layouts) → transfer_at at (transfer_data item (record { piece = piece; from_family = from_family; to_family = to_family; layouts = layouts; masks = masks })) ≡ Ok (record { piece = piece; from_family = from_family; to_family = to_family; layouts = layouts; masks = masks })
      unfolding transfer_at layouts_at both_at masks_at
      transfer_with None = rw (whole_again (below at (codes "piece")) piece p, family_again (below at (codes "from_family")) from_family, family_again (below at (codes "to_family")) to_family, stages_member at (codes "src_stage") masks.src_stages fits.src_stages, accesses_member at (codes "src_access") masks.src_accesses fits.src_accesses, stages_member at (codes "dst_stage") masks.dst_stages fits.dst_stages, accesses_member at (codes "dst_access") masks.dst_accesses fits.dst_accesses) refl
      transfer_with (Some layouts) = rw (whole_again (below at (codes "piece")) piece p, family_again (below at (codes "from_family")) from_family, family_again (below at (codes "to_family")) to_family, layout_member at (codes "from") layouts.from, layout_member at (codes "to") layouts.to, stages_member at (codes "src_stage") masks.src_stages fits.src_stages, accesses_member at (codes "src_access") masks.src_accesses fits.src_accesses, stages_member at (codes "dst_stage") masks.dst_stages fits.dst_stages, accesses_member at (codes "dst_access") masks.dst_accesses fits.dst_accesses) refl

transfer_again : (at : List Leg) (item : List ℕ) (t : transfers.Transfer) → FitsTransfer t → transfer_at at (transfer_data item t) ≡ Ok t
transfer_again at item t fits = transfer_with at t.masks fits.masks t.piece fits.piece item t.from_family t.to_family t.layouts

-- the word of a half is there, whichever its layouts
word_of_transfer : (item : List ℕ) (t : transfers.Transfer) (layouts : Option Layouts) → get (codes "item") (transfer_data item (record t { layouts = layouts })) ≡ Some (string item)
word_of_transfer item t None = refl
word_of_transfer item t (Some layouts) = refl

release_again : (at : List Leg) (t : transfers.Transfer) → FitsTransfer t → item_at at (transfer_data (codes "release") t) ≡ Ok (items.Release t)
unfolding item_at kind_at
release_again at t fits = rw (word_of_transfer (codes "release") t t.layouts, transfer_again at (codes "release") t fits) refl

acquire_again : (at : List Leg) (t : transfers.Transfer) → FitsTransfer t → item_at at (transfer_data (codes "acquire") t) ≡ Ok (items.Acquire t)
unfolding item_at kind_at
acquire_again at t fits = rw (word_of_transfer (codes "acquire") t t.layouts, transfer_again at (codes "acquire") t fits) refl

-- COMMANDS

item_is_new : (op : Op ℕ) → is_in (members_of (op_kind op)) (codes "item") ≡ false
item_is_new op = by_kind (op_kind op)
  where
    by_kind : (kind : Kind) → is_in (members_of kind) (codes "item") ≡ false
    by_kind kinds.FillBuffer = refl
    by_kind kinds.ClearImage = refl
    by_kind kinds.CopyBuffer = refl
    by_kind kinds.CopyImage = refl
    by_kind kinds.BufferToImage = refl
    by_kind kinds.ImageToBuffer = refl
    by_kind kinds.Ramp = refl
    by_kind kinds.Map = refl
    by_kind kinds.Combine = refl
    by_kind kinds.Select = refl
    by_kind kinds.Convert = refl
    by_kind kinds.Box3 = refl
    by_kind kinds.Halve = refl
    by_kind kinds.Histogram = refl
    by_kind kinds.Draw = refl

command_again : (at : List Leg) (op : Op ℕ) → FitsOp FitsWhole op → item_at at (command_data op) ≡ Ok (items.Command op)
unfolding item_at kind_at command_at
command_again at op fits =
    rw (
      get_member-put (codes "item") (string (codes "command")) (op_members number_data op),
      parts_again whole_at number_data FitsWhole whole_again at op (command_data op) (holds_beside (codes "item") (string (codes "command")) number_data op (item_is_new op)) fits,
      others_beside (codes "item") (string (codes "command")) number_data op at,
    ) refl

pub item_again : (at : List Leg) (item : Item) → FitsItem item → item_at at (item_data item) ≡ Ok item
item_again at (items.Command op) fits = command_again at op fits
item_again at (items.Global masks) fits = global_again at masks fits
item_again at (items.BufferBarrier piece masks) fits = buffer_again at masks fits.1 piece fits.0
item_again at (items.ImageBarrier piece layouts masks) fits = image_again at masks fits.1 piece fits.0 layouts
item_again at (items.Release t) fits = release_again at t fits
item_again at (items.Acquire t) fits = acquire_again at t fits

-- QUEUES

module _ (at : List Leg) (waits : List WaitFor) (items : List Item) (w : AllByRecursion FitsWait waits) (i : AllByRecursion FitsItem items) where
  batch_with : (signal : Option Signal) → IfSome signal FitsSignal → batch_at at (batch_data (record { waits = waits; items = items; signal = signal })) ≡ Ok (record { waits = waits; items = items; signal = signal })
  unfolding batch_at
  batch_with None fits = rw (list_again wait_at wait_data FitsWait wait_again (below at (codes "waits")) waits w, list_again item_at item_data FitsItem item_again (below at (codes "items")) items i) refl
  batch_with (Some signal) fits = rw (list_again wait_at wait_data FitsWait wait_again (below at (codes "waits")) waits w, list_again item_at item_data FitsItem item_again (below at (codes "items")) items i, signal_again (below at (codes "signal")) signal fits) refl

pub batch_again : (at : List Leg) (batch : Batch) → FitsBatch batch → batch_at at (batch_data batch) ≡ Ok batch
batch_again at batch fits = batch_with at batch.waits batch.items fits.waits fits.items batch.signal fits.signal

pub queue_again : (at : List Leg) (queue : Queue) → FitsQueue queue → queue_at at (queue_data queue) ≡ Ok queue
unfolding queue_at
queue_again at queue fits = rw (family_again (below at (codes "family")) queue.family, list_again batch_at batch_data FitsBatch batch_again (below at (codes "batches")) queue.batches fits) refl

-- MEMORIES AND PIECES

pub memory_again : (at : List Leg) (memory : Memory) → FitsMemory memory → memory_at at (memory_data memory) ≡ Ok memory
unfolding memory_at plain_at import_at
memory_again at (memories.Plain size) fits = rw (whole_again (below at (codes "size")) size fits) refl
memory_again at (memories.Import bytes) fits = rw (bytes_again (below at (codes "import")) bytes fits) refl

module _ (at : List Leg) (memory offset : ℕ) (m : FitsWhole memory) (o : FitsWhole offset) where
  shape_again : (shape : Shape) (sharing : Sharing) → FitsLayers shape 1 → entry_at 2 at (pieces.shape_data shape memory offset sharing) ≡ Ok (record { shape = shape; memory = memory; offset = offset; sharing = sharing } ∷ [])
  unfolding entry_at
  shape_again (shapes.Buffer size) Exclusive s = rw (number_again 1 greatest (below at (codes "buffer")) size s.0, whole_again (below at (codes "memory")) memory m, whole_again (below at (codes "offset")) offset o) refl
  shape_again (shapes.Buffer size) Concurrent s = rw (number_again 1 greatest (below at (codes "buffer")) size s.0, whole_again (below at (codes "memory")) memory m, whole_again (below at (codes "offset")) offset o) refl
  shape_again (shapes.Image width height texel) Exclusive s = rw (number_again 1 greatest (below at (codes "image") ++ leg.Position 0 ∷ []) width s.0, number_again 1 greatest (below at (codes "image") ++ leg.Position 1 ∷ []) height s.1, texel_again (below at (codes "texel")) texel, whole_again (below at (codes "memory")) memory m, whole_again (below at (codes "offset")) offset o) refl
  shape_again (shapes.Image width height texel) Concurrent s = rw (number_again 1 greatest (below at (codes "image") ++ leg.Position 0 ∷ []) width s.0, number_again 1 greatest (below at (codes "image") ++ leg.Position 1 ∷ []) height s.1, texel_again (below at (codes "texel")) texel, whole_again (below at (codes "memory")) memory m, whole_again (below at (codes "offset")) offset o) refl

-- a piece that was written is an entry of one piece
entry_again : (at : List Leg) (piece : Piece) → FitsPiece piece → entry_at 2 at (piece_data piece) ≡ Ok (piece ∷ [])
entry_again at piece fits = shape_again at piece.memory piece.offset fits.memory fits.offset piece.shape piece.sharing fits.shape

abbrev rows_of : List Piece → List (List Piece)
rows_of [] = []
rows_of (piece ∷ pieces) = (piece ∷ []) ∷ rows_of pieces

entries_again : (at : List Leg) (i : ℕ) (pieces : List Piece) → AllByRecursion FitsPiece pieces → entries_at (entry_at 2) at i (items_of (map piece_data pieces)) ≡ Ok (rows_of pieces)
entries_again at i [] fits = refl
entries_again at i (piece ∷ pieces) fits = rw (entry_again (at ++ leg.Position i ∷ []) piece fits.0, entries_again at (suc i) pieces fits.1) refl

flat_rows : (pieces : List Piece) → flat (rows_of pieces) ≡ pieces
flat_rows [] = refl
flat_rows (piece ∷ pieces) = ap (λ rest. piece ∷ rest) (flat_rows pieces)

pieces_again : (at : List Leg) (pieces : List Piece) → AllByRecursion FitsPiece pieces → pieces_at 2 at (array_of piece_data pieces) ≡ Ok pieces
pieces_again at pieces fits = rw (entries_again at 0 pieces fits) (ap Ok (flat_rows pieces))

-- PROGRAMS

pub program_again : (at : List Leg) (program : Program) → FitsProgram program → program_at at (program_data program) ≡ Ok program
unfolding program_at program_parts_at
program_again at program fits =
    rw (
      list_again memory_at memory_data FitsMemory memory_again (below at (codes "memories")) program.memories fits.memories,
      pieces_again (below at (codes "pieces")) program.pieces fits.pieces,
      list_again queue_at queue_data FitsQueue queue_again (below at (codes "queues")) program.queues fits.queues,
      list_again whole_at number_data FitsWhole whole_again (below at (codes "readbacks")) program.readbacks fits.readbacks,
    ) refl
