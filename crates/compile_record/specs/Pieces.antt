-- The memories of a frame's submissions, and the pieces that its units have in them. A resource is a unit, or the buffer
-- that an export is copied into; these are numbered after the units.
use Rattle.std.specs.Prelude.{ℕ, List, ◌∷◌, ◌+◌, ◌&&◌, ◌||◌, nat_le, map, length, slice_get, Bool, Option, Some, None, option_and_then, if◌then◌else◌}
use Rattle.std.specs.List.{count_by, filter, range_with_len}
use Rattle.base.specs.Shapes.{shape_at, bytes_of}
use Rattle.frame.specs.Numbered.{NumberedFrame}
use Rattle.compile_groups.specs.Groups.{sharing_of}
use Rattle.compile_groups.specs.Needs.{is_touched}
use Rattle.compile_groups.specs.Placed.{is_import}
use Rattle.compile_groups.specs.declared.grouping.Grouping.{Grouping}
use Rattle.compile_heap.specs.Placing.{number_at}
use Rattle.program.specs.declared.program.Memory.{Memory}
use Rattle.program.specs.declared.program.Memory.TheVariants.{Plain, Import}
use Rattle.program.specs.declared.program.Piece.{Piece}
use Rattle.compile_barriers.specs.Under.{place_of}

-- WHICH

abbrev pub resources : Grouping → List ℕ
resources G = range_with_len 0 (length G.shapes)

-- the buffer that an export is copied into
abbrev pub is_readback : Grouping → ℕ → Bool
is_readback G r = nat_le (length G.imports) r

-- what a command uses has a piece
abbrev pub has_piece : Grouping → ℕ → Bool
has_piece G r = is_readback G r || is_touched G r

-- imports and readbacks have a memory of their own; all others lie in the heap
abbrev pub has_memory : Grouping → ℕ → Bool
has_memory G r = is_readback G r || (is_touched G r && is_import G r)

-- NUMBERS

abbrev pub piece_of : Grouping → ℕ → ℕ
piece_of G r = count_by (has_piece G) (range_with_len 0 r)

-- the heap is memory 0
abbrev pub memory_of : Grouping → ℕ → ℕ
memory_of G r = if has_memory G r then 1 + count_by (has_memory G) (range_with_len 0 r) else 0

abbrev pub offset_of : Grouping → List ℕ → ℕ → ℕ
offset_of G offsets r = if has_memory G r then 0 else number_at offsets (place_of G r)

-- PIECES AND MEMORIES

-- where the placed units begin is told by their places
abbrev pub piece : Grouping → List ℕ → ℕ → Piece
piece G offsets r = record {
  shape = shape_at G.shapes r;
  memory = memory_of G r;
  offset = offset_of G offsets r;
  sharing = sharing_of G.sharings r;
}

abbrev pub pieces : Grouping → List ℕ → List Piece
pieces G offsets = map (piece G offsets) (filter (has_piece G) (resources G))

-- the bytes of an import
abbrev pub imported : NumberedFrame → ℕ → Option (List ℕ)
imported frame r = option_and_then (λ unit. unit.imported) (slice_get frame.units r)

abbrev pub own_memory : Grouping → ℕ → Option (List ℕ) → Memory
own_memory G r None = Plain (bytes_of (shape_at G.shapes r))
own_memory G r (Some bytes) = Import bytes

abbrev pub memories : NumberedFrame → Grouping → ℕ → List Memory
memories frame G heap = Plain heap ∷ map (λ r. own_memory G r (imported frame r)) (filter (has_memory G) (resources G))

-- the pieces that the host reads
abbrev pub readbacks : Grouping → List ℕ
readbacks G = map (piece_of G) (filter (is_readback G) (resources G))
