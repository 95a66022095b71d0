-- A lower bound of the heap, as it is printed.
use Rattle.std.specs.Prelude.{ℕ, List, ◌++◌, codes}
use Rattle.std.specs.List.{flat_map}
use Rattle.std.specs.Fmt.{decimal}
use Rattle.frame.specs.declared.frame.Frame.{Frame}
use Rattle.compile_groups.specs.Placed.{placed}
use Rattle.compile_groups.specs.declared.grouping.Grouping.{Grouping}
use Rattle.compile_heap.specs.Placing.{number_at}
use Rattle.report.specs.UnitNames.{unit_text}

-- how many bytes no heap is smaller than, and how many the heap has
abbrev pub bound_line : ℕ → ℕ → List ℕ
bound_line least heap = codes "bound " ++ decimal least ++ codes " heap " ++ decimal heap ++ codes "\n"

abbrev pub name_line : Frame → ℕ → List ℕ
name_line frame unit = unit_text frame unit ++ codes "\n"

-- the names of chosen units, each by its place among the placed ones
abbrev pub name_lines : Frame → List ℕ → List ℕ → List ℕ
name_lines frame placed chosen = flat_map (λ k. name_line frame (number_at placed k)) chosen

-- what `bound` prints
abbrev pub bound_text : Frame → Grouping → ℕ → ℕ → List ℕ → List ℕ
bound_text frame G least heap chosen = bound_line least heap ++ name_lines frame (placed G) chosen
