-- The path of a location.
use Rattle.std.specs.Prelude.{List, [], ◌∷◌, ◌++◌}
use Rattle.base.specs.declared.path.Leg.{Leg}
use Rattle.base.specs.declared.path.Leg.TheVariants as leg
use Rattle.file_json.specs.declared.location.Location.{Location, fold-Location}
use Rattle.file_json.specs.declared.location.Location.TheOpen.{Location-F}

abbrev pub step : Location-F (List Leg) → List Leg
step Location-F.Top = []
step (Location-F.Member up name) = up.now ++ leg.Member name.now ∷ []
step (Location-F.Position up at) = up.now ++ leg.Position at ∷ []

abbrev pub legs : Location → List Leg
legs = fold-Location (List Leg) step
