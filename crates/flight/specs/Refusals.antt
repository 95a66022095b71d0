-- Which frames do not fly together, and why.
use Rattle.std.specs.Prelude.{ℕ, zero, suc, Bool, true, false, List, [], ◌∷◌, map, ◌&&◌, ◌==◌, is_some, Option, Some, None, slice_get, unwrap_or, option_and_then, if◌then◌else◌}
use Rattle.std.specs.Option.{option_map, option_map_or, option_or}
use Rattle.std.specs.Str.{bytes_eq}
use Rattle.base.specs.Shapes.{bytes_of}
use Rattle.base.specs.Walks.{first_in}
use Rattle.base.specs.declared.limit.Limit.{Limit}
use Rattle.base.specs.declared.shape.Family.{Family}
use Rattle.base.specs.declared.shape.Family.TheVariants.{Graphics, Compute, Transfer}
use Rattle.flight.specs.Flights.{queues_of, size_in, window_at, window_count}
use Rattle.flight.specs.declared.fault.FlightFault.{FlightFault}
use Rattle.flight.specs.declared.fault.FlightFault.TheVariants.{Queues, Persist, Window}
use Rattle.frame.specs.Limits.{limit_broken}
use Rattle.frame.specs.declared.frame.Frame.{Frame}
use Rattle.frame.specs.declared.frame.QueueDecl.{QueueDecl}
use Rattle.frame.specs.declared.frame.Resource.{Resource}
use Rattle.law_window.specs.Declared.{holder_in}

-- QUEUES

abbrev pub same_family : Family → Family → Bool
same_family Graphics Graphics = true
same_family Graphics Compute = false
same_family Graphics Transfer = false
same_family Compute Graphics = false
same_family Compute Compute = true
same_family Compute Transfer = false
same_family Transfer Graphics = false
same_family Transfer Compute = false
same_family Transfer Transfer = true

abbrev pub same_queue : QueueDecl → QueueDecl → Bool
same_queue a b = bytes_eq a.name b.name && same_family a.family b.family

-- the same names and families in the same order
abbrev pub same_queues : List QueueDecl → List QueueDecl → Bool
same_queues [] [] = true
same_queues [] (b ∷ bs) = false
same_queues (a ∷ others) [] = false
same_queues (a ∷ others) (b ∷ bs) = same_queue a b && same_queues others bs

-- frame i, where its queues are others than these
abbrev pub other_at : List QueueDecl → ℕ → Frame → Option FlightFault
other_at queues i frame = if same_queues queues frame.queues then None else Some (Queues i)

-- the first frame whose queues are not those of the first one
abbrev pub other_queues : List Frame → Option FlightFault
other_queues frames = first_in (other_at (queues_of frames)) 0 frames

-- PERSISTING NAMES

abbrev pub is_persisted : ℕ → Resource → Bool
is_persisted size r = is_some r.import && bytes_of r.shape == size

-- the frame does not have the name, or has it for an import of the size that belongs to it
abbrev pub persists : List Frame → Frame → List ℕ → Bool
persists frames frame name = option_map_or (λ k. option_map_or (is_persisted (unwrap_or (size_in frames name) 0)) (slice_get frame.resources k) false) (holder_in frame.resources name) true

abbrev pub lost_at : List Frame → ℕ → Frame → ℕ → List ℕ → Option FlightFault
lost_at frames i frame k name = if persists frames frame name then None else Some (Persist i name)

-- in frame i, the first name that does not persist
abbrev pub lost_in : List Frame → List (List ℕ) → ℕ → Frame → Option FlightFault
lost_in frames persist i frame = first_in (lost_at frames i frame) 0 persist

abbrev pub first_lost : List Frame → List (List ℕ) → Option FlightFault
first_lost frames persist = first_in (lost_in frames persist) 0 frames

-- LIMITS

abbrev pub limit_in : Frame → Option Limit
limit_in frame = option_and_then (λ b. b.limit) (limit_broken frame)

-- no limit depends on what is persisted, so none is given
abbrev pub unpersisted : List (List ℕ) → List (Option (List ℕ))
unpersisted persist = map (λ name. None) persist

abbrev pub too_large : List Frame → List (List ℕ) → ℕ → ℕ → Option FlightFault
too_large frames persist depth w = option_map (λ limit. Window w limit) (limit_in (window_at frames persist depth (unpersisted persist) w))

-- the first of so many windows from window w on that breaks a limit
abbrev pub first_too_large : List Frame → List (List ℕ) → ℕ → ℕ → ℕ → Option FlightFault
first_too_large frames persist depth zero w = None
first_too_large frames persist depth (suc n) w = option_or (too_large frames persist depth w) (first_too_large frames persist depth n (suc w))

-- why frames with these persisting names do not fly in windows of this depth, if they do not
abbrev pub first_refusal : List Frame → List (List ℕ) → ℕ → Option FlightFault
first_refusal frames persist depth =
    option_or (other_queues frames)
    (option_or (first_lost frames persist)
    (first_too_large frames persist depth (window_count depth frames) 0))
