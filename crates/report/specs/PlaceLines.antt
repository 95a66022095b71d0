-- Where transient resources lie, as it is printed.
use Rattle.std.specs.Prelude.{ℕ, suc, List, [], ◌∷◌, ◌++◌, codes}
use Rattle.std.specs.List.{sum}
use Rattle.std.specs.Fmt.{decimal}
use Rattle.frame.specs.declared.frame.Frame.{Frame}
use Rattle.compile_groups.specs.Placed.{placed, sizes}
use Rattle.compile_groups.specs.declared.grouping.Grouping.{Grouping}
use Rattle.compile_heap.specs.Placing.{Places, number_at}
use Rattle.report.specs.UnitNames.{unit_text}

-- how many bytes the heap has, and how many the resources would have with memory of their own
abbrev pub heap_line : List ℕ → ℕ → List ℕ
heap_line sizes heap = codes "heap " ++ decimal heap ++ codes " separate " ++ decimal (sum sizes) ++ codes "\n"

-- where a unit begins, how many bytes it has, and its name
abbrev pub place_line : Frame → ℕ → ℕ → ℕ → List ℕ
place_line frame offset size unit = decimal offset ++ codes " " ++ decimal size ++ codes " " ++ unit_text frame unit ++ codes "\n"

-- the lines of units, the first of which has place k in the lists of sizes and offsets
abbrev pub place_lines : Frame → List ℕ → List ℕ → ℕ → List ℕ → List ℕ
place_lines frame sizes offsets k [] = []
place_lines frame sizes offsets k (unit ∷ units) = place_line frame (number_at offsets k) (number_at sizes k) unit ++ place_lines frame sizes offsets (suc k) units

-- what `place` prints of the placed units at these places
abbrev pub place_text : Frame → Grouping → Places → List ℕ
place_text frame G places = heap_line (sizes G) places.heap ++ place_lines frame (sizes G) places.offsets 0 (placed G)
