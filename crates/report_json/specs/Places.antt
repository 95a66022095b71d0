-- Where transient resources lie, as JSON.
use Rattle.std.specs.Prelude.{ℕ, List, [], ◌∷◌, codes}
use Rattle.std.specs.List.{sum}
use Rattle.frame.specs.declared.frame.Frame.{Frame}
use Rattle.compile_groups.specs.Placed.{placed, sizes}
use Rattle.compile_groups.specs.declared.grouping.Grouping.{Grouping}
use Rattle.compile_heap.specs.Placing.{Places, number_at}
use Rattle.report.specs.UnitNames.{unit_text}
use Rattle.report_json.specs.Json.{number, string, member, object, array, answer}

-- where a unit begins, how many bytes it has, and its name
abbrev pub place_object : Frame → ℕ → ℕ → ℕ → List ℕ
place_object frame offset size unit = object
    (member (codes "offset") (number offset))
    (member (codes "size") (number size) ∷ member (codes "unit") (string (unit_text frame unit)) ∷ [])

-- the unit with place k in the lists of offsets and sizes
abbrev pub placed_at : Frame → List ℕ → List ℕ → ℕ → ℕ → List ℕ
placed_at frame offsets sizes k unit = place_object frame (number_at offsets k) (number_at sizes k) unit

-- what `place --json` prints of the placed units at these places
abbrev pub place_json : Frame → Grouping → Places → List ℕ
place_json frame G places = answer
    (member (codes "heap") (number places.heap))
    (member (codes "separate") (number (sum (sizes G)))
    ∷ member (codes "units") (array (placed_at frame places.offsets (sizes G)) (placed G)) ∷ [])
