-- Which slots the parts of a table name.
use Rattle.std.proofs.Common.{◌≡◌, ◌≢◌, ℕ, ◌<◌, ◌≤◌, List, length, refl, subst, arith}
use Rattle.std.proofs.lemmas.List.{get_or_default}
use Rattle.std.proofs.lemmas.List.Sums.{get_or-le-sum_by, sum_by-le}
use Rattle.device_cache.specs.declared.part.Part.{Part}
use Rattle.device_cache.specs.declared.cell.Cell.{Cell}
use Rattle.device_cache.specs.declared.cell.Cell.TheVariants as cells
use Rattle.device_cache.specs.declared.row.Row.{Row}
use Rattle.device_cache.specs.declared.segment.Segment.{Segment}
use Rattle.device_cache.specs.Internal.Rows.{CellIn, RowIn}
use Rattle.device_cache.specs.Internal.Uses.{part_uses, cell_uses, row_uses, uses}
use Rattle.device_cache.specs.Places.{line_by, nowhere, segment_at}
use Rattle.device_cache.specs.Internal.Segments.{IsLaid}
use Rattle.device_cache.proofs.Counting.{own_part, other_part}

part_none : (count : ℕ) (p : Part) → p.slot < count → part_uses count p ≡ 0
part_none count p lt = other_part count p (λ (e : p.slot ≡ count). omega (arith, lt, e))

cell_none : (count : ℕ) (cell : Cell) → CellIn count cell → cell_uses count cell ≡ 0
cell_none count cells.Empty f = refl
cell_none count (cells.Clean p) f = part_none count p f
cell_none count (cells.Dirty p) f = part_none count p f

row_none : (count : ℕ) (r : Row) → RowIn count r → row_uses count r ≡ 0
row_none count r R = omega (arith, part_none count r.main R.main, sum_by-le (cell_uses count) 0 r.lines (λ k d lt. let P : Cell → Type 0 = λ c. cell_uses count c ≤ 0 in subst P (get_or_default r.lines k cells.Empty d lt) (omega (arith, cell_none count (line_by r k) (R.cells k (omega (arith, lt, R.lines)))))))

-- no part names a slot that is not there yet
pub new_unnamed : (count : ℕ) (segments : List Segment) → IsLaid count segments → uses count segments ≡ 0
new_unnamed count segments L = omega (arith, sum_by-le (λ (s : Segment). row_uses count s.row) 0 segments (λ k d lt. let P : Segment → Type 0 = λ s. row_uses count s.row ≤ 0 in subst P (get_or_default segments k nowhere d lt) (omega (arith, row_none count (segment_at segments k).row (L k lt)))))

pub row_unnamed : (slot : ℕ) (segments : List Segment) → uses slot segments ≡ 0 → (k : ℕ) → k < length segments → row_uses slot (segment_at segments k).row ≡ 0
row_unnamed slot segments e k lt = omega (arith, e, get_or-le-sum_by (λ (s : Segment). row_uses slot s.row) segments k nowhere lt)

pub part_other : (slot : ℕ) (p : Part) → part_uses slot p ≡ 0 → p.slot ≢ slot
part_other slot p none e = omega (arith, none, own_part slot p e)

pub main_other : (slot : ℕ) (r : Row) → row_uses slot r ≡ 0 → r.main.slot ≢ slot
main_other slot r e = part_other slot r.main (omega (arith, e))

pub cell_other : (slot : ℕ) (r : Row) → row_uses slot r ≡ 0 → (g : ℕ) → g < length r.lines → cell_uses slot (line_by r g) ≡ 0
cell_other slot r e g lt = omega (arith, e, get_or-le-sum_by (cell_uses slot) r.lines g cells.Empty lt)
