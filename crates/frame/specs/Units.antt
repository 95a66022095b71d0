-- Units: buffers and single layers of images, numbered by resource in the order of declaration, and then by layer.
use Rattle.std.specs.Prelude.{ℕ, suc, List, [], ◌∷◌, ◌++◌, ◌+◌, ◌-◌, ◌==◌, nat_lt, map, replicate, Option, Some, None, slice_get, unwrap_or, option_and_then, if◌then◌else◌}
use Rattle.std.specs.List.{position, range_with_len, flat_map}
use Rattle.std.specs.Option.{option_map_or}
use Rattle.std.specs.Str.{bytes_eq}
use Rattle.base.specs.Shapes.{is_image}
use Rattle.base.specs.declared.shape.Shape.{Shape}
use Rattle.vk.specs.declared.sharing.Sharing.{Sharing}
use Rattle.frame.specs.declared.frame.Frame.{Frame}
use Rattle.frame.specs.declared.frame.Resource.{Resource}
use Rattle.frame.specs.declared.frame.Spot.{Spot}
use Rattle.frame.specs.declared.numbered.Span.{Span}
use Rattle.frame.specs.declared.numbered.Stretch.{Stretch}

-- WHERE THE UNITS OF EACH RESOURCE STAND

-- the stretches of resources whose units begin at n: each begins where the one before it ends
abbrev pub stretches : ℕ → List Resource → List Stretch
stretches n [] = []
stretches n (r ∷ rs) = record { first = n; layers = r.layers; is_image = is_image r.shape } ∷ stretches (n + r.layers) rs

-- the layers of all of them
abbrev pub layers_of : List Resource → ℕ
layers_of [] = 0
layers_of (r ∷ rs) = r.layers + layers_of rs

-- the names of resources, and beside each its units
pub record Numbering : Type 0 where
  pub names : List (List ℕ)
  pub stretches : List Stretch

abbrev pub numbering : Frame → Numbering
numbering frame = record { names = map (λ r. r.name) frame.resources; stretches = stretches 0 frame.resources }

abbrev pub stretch_of : Numbering → List ℕ → Option Stretch
stretch_of n name = option_and_then (slice_get n.stretches) (position (bytes_eq name) n.names)

-- the unit of one layer, 0 where there is none
abbrev pub layer_unit : Stretch → ℕ → ℕ
layer_unit s layer = if nat_lt layer s.layers then s.first + layer else 0

-- the units of an entry: from the first on, up to the end
abbrev pub units_in : Span → List ℕ
units_in span = range_with_len span.first (span.end - span.first)

abbrev pub no_units : Span
no_units = record { first = 0; end = 0 }

abbrev pub span_in : Option ℕ → Stretch → Span
span_in None s = record { first = s.first; end = s.first + s.layers }
span_in (Some layer) s = record { first = layer_unit s layer; end = layer_unit s layer + 1 }

abbrev pub unit_in : Option ℕ → Stretch → ℕ
unit_in layer s = layer_unit s (unwrap_or layer 0)

-- the units that an entry of reads, writes or exports stands for; none where nothing has its name
abbrev pub span_of : Numbering → Spot → Span
span_of n spot = option_map_or (span_in spot.layer) (stretch_of n spot.name) no_units

abbrev pub units_of : Numbering → Spot → List ℕ
units_of n spot = units_in (span_of n spot)

-- the unit that an operand stands for, 0 where nothing has its name
abbrev pub unit_of : Numbering → Spot → ℕ
unit_of n spot = option_map_or (unit_in spot.layer) (stretch_of n spot.name) 0

-- THE UNITS THEMSELVES

-- what one unit is; an import is the bytes that it holds before the frame
pub record Unit : Type 0 where
  pub shape : Shape
  pub sharing : Sharing
  pub imported : Option (List ℕ)

abbrev pub unit_from : Resource → Unit
unit_from r = record { shape = r.shape; sharing = r.sharing; imported = r.import }

abbrev pub units_from : Resource → List Unit
units_from r = replicate r.layers (unit_from r)

abbrev pub units : Frame → List Unit
units frame = flat_map units_from frame.resources

-- the resource of each unit, where the resources are numbered from i on
abbrev pub owners : ℕ → List Resource → List ℕ
owners i [] = []
owners i (r ∷ rs) = replicate r.layers i ++ owners (suc i) rs

abbrev pub layer_spot : List ℕ → ℕ → Spot
layer_spot name layer = record { name = name; layer = Some layer }

-- how units are named: by the resource alone where it has one layer
abbrev pub spots_of : Resource → List Spot
spots_of r = if r.layers == 1 then record { name = r.name; layer = None } ∷ [] else map (layer_spot r.name) (range_with_len 0 r.layers)

abbrev pub unit_spots : Frame → List Spot
unit_spots frame = flat_map spots_of frame.resources
