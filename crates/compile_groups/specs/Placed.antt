-- The units that get a place in the heap.
use Rattle.std.specs.Prelude.{ℕ, List, ◌≤◌, ◌&&◌, not, map, length, slice_index_or, Bool, false}
use Rattle.std.specs.List.{All, filter, range_with_len, sum_by}
use Rattle.base.specs.Shapes.{shape_at, bytes_of}
use Rattle.compile_groups.specs.Needs.{is_touched}
use Rattle.compile_groups.specs.declared.grouping.Grouping.{Grouping}

abbrev pub is_import : Grouping → ℕ → Bool
is_import G unit = slice_index_or G.imports unit false

-- the units that are used and are no imports, in their order
abbrev pub placed : Grouping → List ℕ
placed G = filter (λ unit. is_touched G unit && not (is_import G unit)) (range_with_len 0 (length G.imports))

-- the unit at a place in this list
abbrev pub unit_at : Grouping → ℕ → ℕ
unit_at G a = slice_index_or (placed G) a 0

-- in bytes, by places in this list
abbrev pub sizes : Grouping → List ℕ
sizes G = map (λ unit. bytes_of (shape_at G.shapes unit)) (placed G)

-- what holds of these of a valid frame
pub record AreSmall (sizes : List ℕ) : Type 0 where
  pub few : length sizes ≤ 256
  pub each : All (λ size. size ≤ 16777216) sizes
  pub sum : sum_by (λ size. size) sizes ≤ 268435456
