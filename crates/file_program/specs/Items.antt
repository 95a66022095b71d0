-- Items: `item`, and then the members of its kind.
use Rattle.std.specs.Prelude.{ℕ, [], ◌∷◌, Some, Ok, codes}
use Rattle.vk.specs.declared.layout.Layouts.{Layouts}
use Rattle.vk.specs.declared.masks.Masks.{Masks}
use Rattle.base.specs.declared.op.Op.{Op}
use Rattle.file_json.specs.Leaves.{whole_at, number_data, text_at, FitsWhole}
use Rattle.file_json.specs.Parts.{Reader, object_at, member_at, others_at}
use Rattle.file_json.specs.Reading.{◌>>=◌}
use Rattle.file_ops.specs.Kinds.{members_of, op_kind}
use Rattle.file_ops.specs.OpFits.{FitsOp}
use Rattle.file_ops.specs.OpReading.{parts_at}
use Rattle.file_ops.specs.OpWriting.{op_members}
use Rattle.program.specs.declared.program.Item.{Item}
use Rattle.program.specs.declared.program.Item.TheVariants as items
use Rattle.serde_json.specs.Data.{Data, string, object, put}
use Rattle.file_program.specs.BarrierMasks.{masks_at, mask_members, piece_members, FitsMasks}
use Rattle.file_program.specs.ItemKinds.{item_kind_of}
use Rattle.file_program.specs.Transfers.{both_at, with_layouts, transfer_at, transfer_data, FitsTransfer}
use Rattle.file_program.specs.declared.item_kind.ItemKind.{ItemKind}
use Rattle.file_program.specs.declared.item_kind.ItemKind.TheVariants as kinds

-- an operation whose operands are the numbers of pieces
unfoldable pub command_at : Reader Item
command_at at d = do
  op ← parts_at whole_at at d
  end ← others_at (codes "item" ∷ members_of (op_kind op)) at d
  Ok (items.Command op)

unfoldable pub global_at : Reader Item
global_at at d = do
  masks ← masks_at at d
  end ← others_at (codes "item" ∷ codes "src_stage" ∷ codes "src_access" ∷ codes "dst_stage" ∷ codes "dst_access" ∷ []) at d
  Ok (items.Global masks)

unfoldable pub buffer_at : Reader Item
buffer_at at d = do
  piece ← member_at whole_at (codes "piece") at d
  masks ← masks_at at d
  end ← others_at (codes "item" ∷ codes "piece" ∷ codes "src_stage" ∷ codes "src_access" ∷ codes "dst_stage" ∷ codes "dst_access" ∷ []) at d
  Ok (items.BufferBarrier piece masks)

unfoldable pub image_at : Reader Item
image_at at d = do
  piece ← member_at whole_at (codes "piece") at d
  layouts ← both_at at d
  masks ← masks_at at d
  end ← others_at (codes "item" ∷ codes "piece" ∷ codes "from" ∷ codes "to" ∷ codes "src_stage" ∷ codes "src_access" ∷ codes "dst_stage" ∷ codes "dst_access" ∷ []) at d
  Ok (items.ImageBarrier piece layouts masks)

-- an item of this kind, whose word was examined before
unfoldable pub kind_at : ItemKind → Reader Item
kind_at kinds.Command at d = command_at at d
kind_at kinds.Global at d = global_at at d
kind_at kinds.Buffer at d = buffer_at at d
kind_at kinds.Image at d = image_at at d
kind_at kinds.Release at d = transfer_at at d >>= λ t. Ok (items.Release t)
kind_at kinds.Acquire at d = transfer_at at d >>= λ t. Ok (items.Acquire t)

unfoldable pub item_at : Reader Item
item_at at d = do
  start ← object_at at d
  kind ← member_at (text_at item_kind_of) (codes "item") at d
  kind_at kind at d

-- the members of an operation, and `item` among them
abbrev pub command_data : Op ℕ → Data
command_data op = object (put (codes "item") (string (codes "command")) (op_members number_data op))

-- barriers: the masks, and what their kind has beside; members stand in the byte order of their names
abbrev pub global_data : Masks → Data
global_data masks = object (put (codes "item") (string (codes "global")) (mask_members masks))

abbrev pub buffer_data : ℕ → Masks → Data
buffer_data piece masks = object (piece_members (codes "buffer") piece masks)

abbrev pub image_data : ℕ → Layouts → Masks → Data
image_data piece layouts masks = object (with_layouts (Some layouts) (piece_members (codes "image") piece masks))

abbrev pub item_data : Item → Data
item_data (items.Command op) = command_data op
item_data (items.Global masks) = global_data masks
item_data (items.BufferBarrier piece masks) = buffer_data piece masks
item_data (items.ImageBarrier piece layouts masks) = image_data piece layouts masks
item_data (items.Release t) = transfer_data (codes "release") t
item_data (items.Acquire t) = transfer_data (codes "acquire") t

-- what the format says of an item
abbrev pub FitsItem : Item → Type 0
FitsItem (items.Command op) = FitsOp FitsWhole op
FitsItem (items.Global masks) = FitsMasks masks
FitsItem (items.BufferBarrier piece masks) = FitsWhole piece × FitsMasks masks
FitsItem (items.ImageBarrier piece layouts masks) = FitsWhole piece × FitsMasks masks
FitsItem (items.Release t) = FitsTransfer t
FitsItem (items.Acquire t) = FitsTransfer t
