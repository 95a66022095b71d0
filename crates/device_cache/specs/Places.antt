-- All memories lie end to end, each byte at an address of its own; segments have them in the order of their addresses.
use Rattle.std.specs.Prelude.{ℕ, Bool, [], ◌∷◌, List, suc, ◌==◌, ◌||◌, nat_lt, if◌then◌else◌, slice_index_or}
use Rattle.std.specs.List.{list_any}
use Rattle.device_cache.specs.declared.cell.Cell.{Cell}
use Rattle.device_cache.specs.declared.cell.Cell.TheVariants as cells
use Rattle.device_cache.specs.declared.row.Row.{Row}
use Rattle.device_cache.specs.declared.segment.Segment.{Segment}

-- past the last segment
abbrev pub nowhere : Segment
nowhere = record { end = 0; row = record { main = record { slot = 0; start = 0 }; lines = [] } }

abbrev pub segment_at : List Segment → ℕ → Segment
segment_at segments k = slice_index_or segments k nowhere

-- how many segments end at or before the address: the number of the segment that has it
abbrev pub place : List Segment → ℕ → ℕ
place [] x = 0
place (s ∷ rest) x = if nat_lt x s.end then 0 else suc (place rest x)

-- the row of the address
unfoldable pub row_at : List Segment → ℕ → Row
row_at segments x = (segment_at segments (place segments x)).row

abbrev pub cell_at : List Cell → ℕ → Cell
cell_at lines g = slice_index_or lines g cells.Empty

-- the lines of an agent
abbrev pub line_by : Row → ℕ → Cell
line_by r g = cell_at r.lines g

-- a segment begins at the address, or the last one ends there
unfoldable pub cut_in : List Segment → ℕ → Bool
cut_in segments x = (x == 0) || list_any (λ s. s.end == x) segments
