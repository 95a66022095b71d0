-- A declared frame with its passes on other queues.
use Rattle.std.specs.Prelude.{◌<◌, ℕ, List, [], ◌∷◌, map, length, slice_get}
use Rattle.std.specs.List.{AllByRecursion}
use Rattle.std.specs.Option.{option_map_or}
use Rattle.frame.specs.declared.frame.Frame.{Frame}
use Rattle.frame.specs.declared.frame.Pass.{Pass}

-- the name of a queue
abbrev pub queue_name : Frame → ℕ → List ℕ
queue_name frame q = option_map_or (λ d. d.name) (slice_get frame.queues q) []

-- the passes on queues of these names
abbrev pub passes_on : List (List ℕ) → List Pass → List Pass
passes_on [] passes = passes
passes_on (name ∷ names) [] = []
passes_on (name ∷ names) (pass ∷ passes) = record pass { queue = name } ∷ passes_on names passes

abbrev pub frame_on : List ℕ → Frame → Frame
frame_on qs frame = record frame { passes = passes_on (map (queue_name frame) qs) frame.passes }

abbrev pub AreQueues : Frame → List ℕ → Type 0
AreQueues frame qs = AllByRecursion (λ q. q < length frame.queues) qs
