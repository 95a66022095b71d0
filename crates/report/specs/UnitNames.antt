-- Units by their names.
use Rattle.std.specs.Prelude.{ℕ, List, [], ◌++◌, codes, slice_get}
use Rattle.std.specs.Fmt.{decimal}
use Rattle.std.specs.Option.{option_map_or}
use Rattle.frame.specs.Units.{unit_spots}
use Rattle.frame.specs.declared.frame.Frame.{Frame}
use Rattle.frame.specs.declared.frame.Spot.{Spot}

abbrev pub layer_text : ℕ → List ℕ
layer_text layer = codes "/" ++ decimal layer

-- the name of a resource, and the layer where it has several
abbrev pub spot_text : Spot → List ℕ
spot_text spot = spot.name ++ option_map_or layer_text spot.layer []

-- the name of a unit; nothing where there is none with the number
abbrev pub unit_text : Frame → ℕ → List ℕ
unit_text frame unit = option_map_or spot_text (slice_get (unit_spots frame) unit) []
