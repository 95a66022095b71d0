-- Halves of transfers of ownership: `piece`, `from_family`, `to_family`, `from` and `to` or neither, and the masks.
use Rattle.std.specs.Prelude.{ℕ, ◌||◌, Bool, is_some, List, [], ◌∷◌, Option, Some, None, Ok, if◌then◌else◌, codes}
use Rattle.base.specs.declared.shape.Family.{Family}
use Rattle.vk.specs.Layouts.{layout_name, layout_of}
use Rattle.vk.specs.declared.layout.Layouts.{Layouts}
use Rattle.file_json.specs.Leaves.{whole_at, text_at, text_data, FitsWhole}
use Rattle.file_json.specs.Parts.{Reader, member_at, others_at}
use Rattle.file_json.specs.Reading.{◌>>=◌}
use Rattle.file_shapes.specs.Families.{family_of}
use Rattle.base.specs.Families.{family_name}
use Rattle.program.specs.declared.program.Transfer as transfers
use Rattle.serde_json.specs.Data.{Data, object, Members, put}
use Rattle.serde_json.specs.Find.{get}
use Rattle.file_program.specs.BarrierMasks.{masks_at, piece_members, FitsMasks}

-- a transition between two layouts
unfoldable pub both_at : Reader Layouts
both_at at d = do
  from ← member_at (text_at layout_of) (codes "from") at d
  to ← member_at (text_at layout_of) (codes "to") at d
  Ok (record { from = from; to = to })

-- one of the two members
abbrev pub has_layouts : Data → Bool
has_layouts d = is_some (get (codes "from") d) || is_some (get (codes "to") d)

-- both or neither: where one stands alone, the other is absent
unfoldable pub layouts_at : Reader (Option Layouts)
layouts_at at d = if has_layouts d then (both_at at d >>= λ layouts. Ok (Some layouts)) else Ok None

-- an object whose `item` was examined before
unfoldable pub transfer_at : Reader transfers.Transfer
transfer_at at d = do
  piece ← member_at whole_at (codes "piece") at d
  from_family ← member_at (text_at family_of) (codes "from_family") at d
  to_family ← member_at (text_at family_of) (codes "to_family") at d
  layouts ← layouts_at at d
  masks ← masks_at at d
  end ← others_at (codes "item" ∷ codes "piece" ∷ codes "from_family" ∷ codes "to_family" ∷ codes "from" ∷ codes "to" ∷ codes "src_stage" ∷ codes "src_access" ∷ codes "dst_stage" ∷ codes "dst_access" ∷ []) at d
  Ok (record { piece = piece; from_family = from_family; to_family = to_family; layouts = layouts; masks = masks })

-- both layouts are written where they are there
abbrev pub with_layouts : Option Layouts → Members → Members
with_layouts None members = members
with_layouts (Some layouts) members = put (codes "to") (text_data layout_name layouts.to) (put (codes "from") (text_data layout_name layouts.from) members)

abbrev pub with_families : Family → Family → Members → Members
with_families from to members = put (codes "to_family") (text_data family_name to) (put (codes "from_family") (text_data family_name from) members)

-- `item` is the word of this half; members stand in the byte order of their names
abbrev pub transfer_data : List ℕ → transfers.Transfer → Data
transfer_data item t = object (
    with_layouts t.layouts (
    with_families t.from_family t.to_family (
    piece_members item t.piece t.masks)))

-- what the format says of a transfer
pub record FitsTransfer (t : transfers.Transfer) : Type 0 where
  pub piece : FitsWhole t.piece
  pub masks : FitsMasks t.masks
