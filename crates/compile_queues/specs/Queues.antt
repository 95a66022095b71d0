-- The same frame with its passes on other queues.
use Rattle.std.specs.Prelude.{◌≡◌, ℕ, List, [], ◌∷◌, Bool, true, false, map, slice_get}
use Rattle.std.specs.List.{list_all}
use Rattle.std.specs.Option.{option_map_or}
use Rattle.base.specs.Runs.{runs}
use Rattle.base.specs.declared.shape.Family.{Family}
use Rattle.frame.specs.Numbered.{NumberedFrame}
use Rattle.frame.specs.declared.numbered.NumberedPass.{NumberedPass}

-- the queue of each pass
abbrev pub queues_of : NumberedFrame → List ℕ
queues_of frame = map (λ pass. pass.queue) frame.passes

-- the passes on these queues, one for each of them
abbrev pub requeued : List ℕ → List NumberedPass → List NumberedPass
requeued [] passes = passes
requeued (q ∷ qs) [] = []
requeued (q ∷ qs) (pass ∷ passes) = record pass { queue = q } ∷ requeued qs passes

abbrev pub on_queues : List ℕ → NumberedFrame → NumberedFrame
on_queues qs frame = record frame { passes = requeued qs frame.passes }

-- the queue is there, and all operations of the pass run on it
abbrev pub serves : List Family → NumberedPass → ℕ → Bool
serves queues pass q = option_map_or (λ family. list_all (λ op. runs op family) pass.ops) (slice_get queues q) false

abbrev pub AllServe : List Family → List ℕ → List NumberedPass → Type 0
AllServe queues [] passes = Unit {0}
AllServe queues (q ∷ qs) [] = Unit {0}
AllServe queues (q ∷ qs) (pass ∷ passes) = (serves queues pass q ≡ true) × AllServe queues qs passes
