-- A lower bound of the heap, as JSON.
use Rattle.std.specs.Prelude.{ℕ, List, [], ◌∷◌, codes}
use Rattle.frame.specs.declared.frame.Frame.{Frame}
use Rattle.compile_groups.specs.Placed.{placed}
use Rattle.compile_groups.specs.declared.grouping.Grouping.{Grouping}
use Rattle.compile_heap.specs.Placing.{number_at}
use Rattle.report.specs.UnitNames.{unit_text}
use Rattle.report_json.specs.Json.{number, string, member, array, answer}

-- the name of a chosen unit, by its place among the placed ones
abbrev pub chosen_unit : Frame → List ℕ → ℕ → ℕ → List ℕ
chosen_unit frame placed entry k = string (unit_text frame (number_at placed k))

-- what `bound --json` prints
abbrev pub bound_json : Frame → Grouping → ℕ → ℕ → List ℕ → List ℕ
bound_json frame G least heap chosen = answer
    (member (codes "bound") (number least))
    (member (codes "heap") (number heap)
    ∷ member (codes "units") (array (chosen_unit frame (placed G)) chosen) ∷ [])
