-- What a device is opened with.
use Rattle.std.specs.Prelude.{◌≡◌, ℕ, ◌+◌, ◌*◌, ◌<◌, List, length, replicate, slice_index_or}
use Rattle.base.specs.Shapes.{bytes_of}
use Rattle.program.specs.declared.program.Memory.{Memory}
use Rattle.program.specs.declared.program.Memory.TheVariants.{Plain, Import}
use Rattle.program.specs.declared.program.Piece.{Piece}
use Rattle.check_access.specs.Views.{View, no_piece, piece_at}

abbrev pub opened_memory : ℕ → Memory → List ℕ
opened_memory fill (Plain size) = replicate size fill
opened_memory fill (Import bytes) = bytes

-- zeros for a piece
abbrev pub room_of : View → ℕ → List ℕ
room_of V p = replicate (bytes_of (piece_at V p).shape) 0

abbrev pub piece_in : List Piece → ℕ → Piece
piece_in pieces p = slice_index_or pieces p no_piece

-- the place behind its last byte
abbrev pub piece_end : Piece → ℕ
piece_end piece = piece.offset + bytes_of piece.shape

-- the ends of the first pieces, two for each
pub record HasCuts (pieces : List Piece) (count : ℕ) (cuts : List (ℕ × ℕ)) : Type 0 where
  pub many : length cuts ≡ 2 * count
  pub starts : (p : ℕ) → p < count → slice_index_or cuts (2 * p) (0, 0) ≡ ((piece_in pieces p).memory, (piece_in pieces p).offset)
  pub ends : (p : ℕ) → p < count → slice_index_or cuts (2 * p + 1) (0, 0) ≡ ((piece_in pieces p).memory, piece_end (piece_in pieces p))
