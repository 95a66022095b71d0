-- How the code holds where the bytes of persisting names are: beside each name the resource of the window that has them, none
-- while they are as they were persisted.
use Rattle.std.specs.Prelude.{ℕ, suc, List, [], ◌∷◌, ◌++◌, map, Option, Some, None, option_to_list, if◌then◌else◌}
use Rattle.std.specs.List.{list_any}
use Rattle.std.specs.Str.{bytes_eq}
use Rattle.flight.specs.Flights.{persisted_bytes}
use Rattle.flight.specs.declared.joins.Carry.{Carry}
use Rattle.frame.specs.declared.frame.Frame.{Frame}
use Rattle.frame.specs.declared.frame.Resource.{Resource}
use Rattle.law_window.specs.Declared.{holder_in}
use Rattle.frame.specs.declared.frame.Spot.{Spot}
use Rattle.law_window.specs.NamedJoins.{NamedCarry, size_of, whole}
use Rattle.law_window.specs.Names.{numbered_name}
use Rattle.law_window.specs.Resources.{set_import}
use Rattle.law_window.specs.NamedSources.{NamedSource, Kept, Named, named_import}

abbrev pub source_by : List ℕ → Option (List ℕ) → NamedSource
source_by bytes None = Kept bytes
source_by bytes (Some name) = Named name

abbrev pub sources_by : List (List ℕ) → List (Option (List ℕ)) → List NamedSource
sources_by [] left = []
sources_by (bytes ∷ persisted) [] = []
sources_by (bytes ∷ persisted) (name ∷ left) = source_by bytes name ∷ sources_by persisted left

-- before a window
abbrev pub nothing_left : List (List ℕ) → List (Option (List ℕ))
nothing_left persist = map (λ name. None) persist

-- after frame i
abbrev pub left_by : ℕ → Option ℕ → Option (List ℕ) → Option (List ℕ)
left_by i None name = name
left_by i (Some k) name = Some (numbered_name i k)

abbrev pub left_after : ℕ → List (Option ℕ) → List (Option (List ℕ)) → List (Option (List ℕ))
left_after i [] left = []
left_after i (holder ∷ holders) [] = []
left_after i (holder ∷ holders) (name ∷ left) = left_by i holder name ∷ left_after i holders left

abbrev pub holders_of : List (List ℕ) → Frame → List (Option ℕ)
holders_of persist frame = map (holder_in frame.resources) persist

-- after frames from frame i on
abbrev pub last_left : List (List ℕ) → ℕ → List (Option (List ℕ)) → List Frame → List (Option (List ℕ))
last_left persist i left [] = left
last_left persist i left (frame ∷ frames) = last_left persist (suc i) (left_after i (holders_of persist frame) left) frames

-- the names that are there
abbrev pub names_left : List (Option (List ℕ)) → List (List ℕ)
names_left [] = []
names_left (name ∷ left) = option_to_list name ++ names_left left

abbrev pub imports_by : List (Option (List ℕ)) → List (Option (List ℕ)) → List (Option (List ℕ))
imports_by persisted left = map named_import (sources_by (persisted_bytes persisted) left)

-- resource k with this import, or none
abbrev pub set_held : Option ℕ → Option (List ℕ) → List Resource → List Resource
set_held None import rs = rs
set_held (Some k) import rs = set_import rs k import

-- COPIES

abbrev pub carried : Carry → NamedCarry
carried carry = record { from = carry.from; to = carry.to; size = carry.size }

abbrev pub carry_by : ℕ → List Resource → Option ℕ → Option (List ℕ) → Option Carry
carry_by i rs None name = None
carry_by i rs (Some k) None = None
carry_by i rs (Some k) (Some name) = Some (record { from = name; to = numbered_name i k; size = size_of rs k })

abbrev pub carries_by : ℕ → List Resource → List (Option ℕ) → List (Option (List ℕ)) → List Carry
carries_by i rs [] left = []
carries_by i rs (holder ∷ holders) [] = []
carries_by i rs (holder ∷ holders) (name ∷ left) = option_to_list (carry_by i rs holder name) ++ carries_by i rs holders left

-- OTHER EXPORTS

-- as an export, where none of these spots has the name
abbrev pub other_by : List Spot → Option (List ℕ) → Option Spot
other_by own None = None
other_by own (Some name) = if list_any (λ spot. bytes_eq name spot.name) own then None else Some (whole name)

abbrev pub others_by : List Spot → List (Option (List ℕ)) → List Spot
others_by own [] = []
others_by own (name ∷ left) = option_to_list (other_by own name) ++ others_by own left
