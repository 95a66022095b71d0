-- How many parts of a table name a slot, and counts of them.
use Rattle.std.specs.Prelude.{ℕ, ◌+◌, ◌-◌, ◌<◌, ◌≤◌, ◌==◌, ◌≡◌, if◌then◌else◌, List, length, slice_index_or}
use Rattle.std.specs.List.{sum_by}
use Rattle.device_cache.specs.declared.part.Part.{Part}
use Rattle.device_cache.specs.declared.cell.Cell.{Cell}
use Rattle.device_cache.specs.declared.cell.Cell.TheVariants as cells
use Rattle.device_cache.specs.declared.row.Row.{Row}
use Rattle.device_cache.specs.declared.segment.Segment.{Segment}

abbrev pub part_uses : ℕ → Part → ℕ
part_uses slot p = if p.slot == slot then 1 else 0

abbrev pub cell_uses : ℕ → Cell → ℕ
cell_uses slot cells.Empty = 0
cell_uses slot (cells.Clean p) = part_uses slot p
cell_uses slot (cells.Dirty p) = part_uses slot p

abbrev pub lines_uses : ℕ → List Cell → ℕ
lines_uses slot lines = sum_by (cell_uses slot) lines

abbrev pub row_uses : ℕ → Row → ℕ
row_uses slot r = part_uses slot r.main + lines_uses slot r.lines

abbrev pub uses : ℕ → List Segment → ℕ
uses slot segments = sum_by (λ s. row_uses slot s.row) segments

-- COUNTS

-- a count at its type's end stays there
abbrev pub many : ℕ
many = 4294967295

abbrev pub raised : ℕ → ℕ
raised n = if n == many then many else n + 1

abbrev pub lowered : ℕ → ℕ
lowered n = if n == many then many else n - 1

abbrev pub count_at : List ℕ → ℕ → ℕ
count_at counts slot = slice_index_or counts slot many

-- a slot after slot 0 that no part names
abbrev pub IsFree : List ℕ → List (List ℕ) → ℕ → Type 0
IsFree counts slots slot = (0 < slot) × ((slot < length slots) × (count_at counts slot ≡ 0))

-- no slot has more uses than its count says; one at its type's end says nothing
abbrev pub Counts : List ℕ → (ℕ → ℕ) → Type 0
Counts counts f = (slot : ℕ) → count_at counts slot < many → f slot ≤ count_at counts slot
