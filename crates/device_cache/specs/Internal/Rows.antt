-- What a row of the table has, and what a change makes of it.
use Rattle.std.specs.Prelude.{ℕ, Bool, List, ◌≡◌, ◌<◌, length, slice_set, Option, Some, None, if◌then◌else◌}
use Rattle.device_cache.specs.declared.part.Part.{Part}
use Rattle.device_cache.specs.declared.cell.Cell.{Cell}
use Rattle.device_cache.specs.declared.cell.Cell.TheVariants as cells
use Rattle.device_cache.specs.declared.change.Change.{Change}
use Rattle.device_cache.specs.declared.change.Change.TheVariants as changes
use Rattle.device_cache.specs.declared.row.Row.{Row}
use Rattle.device_cache.specs.declared.segment.Segment.{Segment}
use Rattle.device_cache.specs.Places.{line_by, row_at}
use Rattle.device_cache.specs.Tables.{byte_in}

abbrev pub written_part : Cell → Part → Part
written_part (cells.Dirty p) main = p
written_part _ main = main

abbrev pub main_after : Change → Part → Cell → Part
main_after changes.WriteBack main line = written_part line main
main_after (changes.Junk p) main line = p
main_after _ main line = main

abbrev pub cleaned_cell : Cell → Cell
cleaned_cell (cells.Dirty p) = cells.Clean p
cleaned_cell line = line

abbrev pub cell_without_clean : Cell → Cell
cell_without_clean (cells.Clean p) = cells.Empty
cell_without_clean line = line

abbrev pub filled_cell : Cell → Part → Cell
filled_cell cells.Empty main = cells.Clean main
filled_cell line main = line

abbrev pub line_after : Change → Part → Cell → Cell
line_after (changes.Put p) main line = cells.Dirty p
line_after changes.WriteBack main line = cleaned_cell line
line_after changes.DropClean main line = cell_without_clean line
line_after changes.Fill main line = filled_cell line main
line_after _ main line = line

abbrev pub changed : ℕ → Change → Row → Row
changed g change r = record { main = main_after change r.main (line_by r g); lines = slice_set r.lines g (line_after change r.main (line_by r g)) }

-- a row of those that are changed, or another one
abbrev pub changed_if : Bool → ℕ → Change → Row → Row
changed_if is g change r = if is then changed g change r else r

abbrev pub CellIn : ℕ → Cell → Type 0
CellIn count cells.Empty = Unit {0}
CellIn count (cells.Clean p) = p.slot < count
CellIn count (cells.Dirty p) = p.slot < count

-- the row has a line for each agent, and names slots below the count
pub record RowIn (count : ℕ) (r : Row) : Type 0 where
  pub lines : length r.lines ≡ 32
  pub main : r.main.slot < count
  pub cells : (g : ℕ) → g < 32 → CellIn count (line_by r g)

-- a part that the change brings is of a slot below the count
abbrev pub ChangeIn : ℕ → Change → Type 0
ChangeIn count (changes.Put p) = p.slot < count
ChangeIn count (changes.Junk p) = p.slot < count
ChangeIn count _ = Unit {0}

abbrev pub part_or : Part → Cell → Part
part_or main cells.Empty = main
part_or main (cells.Clean p) = p
part_or main (cells.Dirty p) = p

-- the part that an agent sees, or main's
abbrev pub seen_part : Row → Option ℕ → Part
seen_part r None = r.main
seen_part r (Some g) = part_or r.main (line_by r g)

-- the byte of an address that an agent sees, or main's
abbrev pub seen_byte : List (List ℕ) → List Segment → Option ℕ → ℕ → ℕ
seen_byte slots segments g x = byte_in slots (seen_part (row_at segments x) g) x

-- the row has a line for the agent, if one is named
abbrev pub HasLine : Row → Option ℕ → Type 0
HasLine r None = Unit {0}
HasLine r (Some g) = g < length r.lines
