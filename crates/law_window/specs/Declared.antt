-- A declared frame of several that run one after another, with the resources that have persisting names.
use Rattle.std.specs.Prelude.{ℕ, zero, suc, List, [], ◌∷◌, ◌+◌, map, Option}
use Rattle.std.specs.List.{position}
use Rattle.std.specs.Option.{option_map}
use Rattle.std.specs.Str.{bytes_eq}
use Rattle.frame.specs.Numbered.{numbered}
use Rattle.frame.specs.declared.frame.Frame.{Frame}
use Rattle.frame.specs.declared.frame.Resource.{Resource}
use Rattle.law_window.specs.Flown.{Flown}

-- a frame, and for each persisting name the number of the resource that has it, where one has
pub record Declared : Type 0 where
  pub frame : Frame
  pub holders : List (Option ℕ)

abbrev pub holder_in : List Resource → List ℕ → Option ℕ
holder_in resources name = position (bytes_eq name) (map (λ r. r.name) resources)

-- the frame with these persisting names
abbrev pub declared_in : List (List ℕ) → Frame → Declared
declared_in persist frame = record { frame = frame; holders = map (holder_in frame.resources) persist }

-- how many units stand before those of resource k
abbrev pub unit_at : List Resource → ℕ → ℕ
unit_at [] k = 0
unit_at (r ∷ rs) zero = 0
unit_at (r ∷ rs) (suc k) = r.layers + unit_at rs k

abbrev pub places_in : List Resource → List (Option ℕ) → List (Option ℕ)
places_in resources holders = map (option_map (unit_at resources)) holders

-- the same frame by its numbers
abbrev pub flown_of : Declared → Flown
flown_of d = record { frame = numbered d.frame; places = places_in d.frame.resources d.holders }
