-- Entries of `pieces`: `buffer`, or `image`, `texel` and, in format 2, optional `layers`; `memory`; `offset`; and in format 2
-- optional `sharing`. An entry with layers stands for so many pieces, one behind another.
use Rattle.std.specs.Prelude.{ℕ, zero, suc, ◌==◌, ◌+◌, ◌-◌, ◌*◌, ◌/◌, nat_le, List, [], ◌∷◌, ◌++◌, Option, Some, None, option_map, option_and_then, Ok, if◌then◌else◌, codes}
use Rattle.base.specs.Shapes.{bytes_of}
use Rattle.base.specs.declared.shape.Shape.{Shape}
use Rattle.base.specs.declared.shape.Shape.TheVariants as shapes
use Rattle.base.specs.declared.shape.Texel.{Texel}
use Rattle.vk.specs.declared.sharing.Sharing.{Sharing}
use Rattle.vk.specs.declared.sharing.Sharing.TheVariants.{Exclusive, Concurrent}
use Rattle.file_json.specs.Leaves.{whole_at, greatest, number_data, text_data, FitsWhole}
use Rattle.file_json.specs.Parts.{Reader, below, or_at, object_at, member_at, list_at, others_at, members_in}
use Rattle.file_json.specs.Reading.{◌>>=◌}
use Rattle.file_shapes.specs.Bodies.{body_at, FitsLayers}
use Rattle.file_shapes.specs.Sharings.{sharing_at, sharing_text}
use Rattle.file_shapes.specs.Texels.{texel_text}
use Rattle.program.specs.declared.program.Piece.{Piece}
use Rattle.serde_json.specs.Data.{Data, array, object, item, no_items}

-- PLACES

-- the least multiple of 256 at or after the end of a piece
abbrev pub start_after : Piece → ℕ
start_after piece = (piece.offset + bytes_of piece.shape + 255) / 256 * 256

-- the piece behind a piece, where its start is a u32
abbrev pub piece_after : Piece → Option Piece
piece_after piece = if nat_le (start_after piece) greatest then Some (record piece { offset = start_after piece }) else None

-- so many pieces one behind another, the first of them behind this one
abbrev pub behind : ℕ → Piece → Option (List Piece)
behind zero piece = Some []
behind (suc more) piece = option_and_then (λ next. option_map (λ row. next ∷ row) (behind more next)) (piece_after piece)

-- a piece for each of so many layers
abbrev pub row_of : ℕ → Piece → Option (List Piece)
row_of layers piece = option_map (λ row. piece ∷ row) (behind (layers - 1) piece)

-- READING

-- the members of a piece of this shape, in a file of this format
abbrev pub members_of : ℕ → Shape → List (List ℕ)
members_of format (shapes.Buffer size) =
    if format == 1 then codes "buffer" ∷ codes "memory" ∷ codes "offset" ∷ []
    else codes "buffer" ∷ codes "memory" ∷ codes "offset" ∷ codes "sharing" ∷ []
members_of format (shapes.Image width height texel) =
    if format == 1 then codes "image" ∷ codes "texel" ∷ codes "memory" ∷ codes "offset" ∷ []
    else codes "image" ∷ codes "texel" ∷ codes "layers" ∷ codes "memory" ∷ codes "offset" ∷ codes "sharing" ∷ []

-- the pieces of an entry; where one would start past a u32, the entry is refused at `layers` after all else
unfoldable pub entry_at : ℕ → Reader (List Piece)
entry_at format at d = do
  start ← object_at at d
  body ← body_at format at d
  memory ← member_at whole_at (codes "memory") at d
  offset ← member_at whole_at (codes "offset") at d
  sharing ← sharing_at format at d
  end ← others_at (members_of format body.shape) at d
  or_at (below at (codes "layers")) (row_of body.layers (record { shape = body.shape; memory = memory; offset = offset; sharing = sharing }))

-- the entries of all lists, in order
abbrev pub flat : {X : Type 0} → List (List X) → List X
flat [] = []
flat (row ∷ rows) = row ++ flat rows

-- the pieces of all entries
abbrev pub pieces_at : ℕ → Reader (List Piece)
pieces_at format at d = list_at (entry_at format) at d >>= λ rows. Ok (flat rows)

-- WRITING

-- that a piece is exclusive is not written
abbrev pub with_sharing : Sharing → List (List ℕ × Data) → List (List ℕ × Data)
with_sharing Exclusive members = members
with_sharing Concurrent members = (codes "sharing", text_data sharing_text Concurrent) ∷ members

abbrev pub buffer_data : ℕ → ℕ → ℕ → Sharing → Data
buffer_data size memory offset sharing = object (members_in (
    (codes "buffer", number_data size) ∷
    (codes "memory", number_data memory) ∷
    (codes "offset", number_data offset) ∷
    with_sharing sharing
    []))

abbrev pub image_data : ℕ → ℕ → Texel → ℕ → ℕ → Sharing → Data
image_data width height texel memory offset sharing = object (members_in (
    (codes "image", array (item (number_data width) (item (number_data height) no_items))) ∷
    (codes "memory", number_data memory) ∷
    (codes "offset", number_data offset) ∷
    with_sharing sharing (
    (codes "texel", text_data texel_text texel) ∷
    [])))

abbrev pub shape_data : Shape → ℕ → ℕ → Sharing → Data
shape_data (shapes.Buffer size) memory offset sharing = buffer_data size memory offset sharing
shape_data (shapes.Image width height texel) memory offset sharing = image_data width height texel memory offset sharing

-- each piece is an entry, without layers
abbrev pub piece_data : Piece → Data
piece_data piece = shape_data piece.shape piece.memory piece.offset piece.sharing

-- what the format says of a piece
pub record FitsPiece (piece : Piece) : Type 0 where
  pub shape : FitsLayers piece.shape 1
  pub memory : FitsWhole piece.memory
  pub offset : FitsWhole piece.offset
