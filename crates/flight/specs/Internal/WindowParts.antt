-- The parts of a window, frame after frame, with what is left under persisting names.
use Rattle.std.specs.Prelude.{ℕ, suc, List, [], ◌∷◌, ◌++◌, map, Option}
use Rattle.flight.specs.Internal.Left.{carried, carries_by, holders_of, imports_by, left_after}
use Rattle.frame.specs.declared.frame.Frame.{Frame}
use Rattle.frame.specs.declared.frame.Pass.{Pass}
use Rattle.frame.specs.declared.frame.Resource.{Resource}
use Rattle.frame.specs.declared.frame.Spot.{Spot}
use Rattle.law_window.specs.NamedJoins.{named_joins}
use Rattle.law_window.specs.Names.{rename_in}
use Rattle.law_window.specs.Passes.{renamed_passes, renamed_spot}
use Rattle.law_window.specs.Resources.{renamed_resources, set_imports}

abbrev pub resources_by : ℕ → List (Option ℕ) → List (Option (List ℕ)) → List (Option (List ℕ)) → List Resource → List Resource
resources_by i holders persisted left rs = renamed_resources i 0 (set_imports holders (imports_by persisted left) rs)

abbrev pub all_resources : List (List ℕ) → List (Option (List ℕ)) → ℕ → List (Option (List ℕ)) → List Frame → List Resource
all_resources persist persisted i left [] = []
all_resources persist persisted i left (frame ∷ frames) = resources_by i (holders_of persist frame) persisted left frame.resources ++ all_resources persist persisted (suc i) (left_after i (holders_of persist frame) left) frames

abbrev pub passes_by : List ℕ → ℕ → List (Option ℕ) → List (Option (List ℕ)) → Frame → List Pass
passes_by queue i holders left frame = named_joins i queue (map carried (carries_by i frame.resources holders left)) ++ renamed_passes i 0 (rename_in i frame) frame.passes

abbrev pub all_passes : List ℕ → List (List ℕ) → ℕ → List (Option (List ℕ)) → List Frame → List Pass
all_passes queue persist i left [] = []
all_passes queue persist i left (frame ∷ frames) = passes_by queue i (holders_of persist frame) left frame ++ all_passes queue persist (suc i) (left_after i (holders_of persist frame) left) frames

abbrev pub all_exports : ℕ → List Frame → List Spot
all_exports i [] = []
all_exports i (frame ∷ frames) = map (renamed_spot (rename_in i frame)) frame.exports ++ all_exports (suc i) frames
