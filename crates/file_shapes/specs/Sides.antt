-- The sides of an image: a list of two whole numbers of at least 1, its width and its height.
use Rattle.std.specs.Prelude.{ℕ, List, [], ◌∷◌, ◌++◌, Ok, Err}
use Rattle.base.specs.declared.path.Leg.{Leg}
use Rattle.base.specs.declared.path.Leg.TheVariants as leg
use Rattle.file_json.specs.Leaves.{number_at, greatest, FitsRange}
use Rattle.file_json.specs.Parts.{Reader}
use Rattle.file_json.specs.Reading.{Reading, ◌>>=◌}
use Rattle.serde_json.specs.Data.{Data, null, boolean, number, string, array, object, Items, no_items, item}
use Rattle.file_shapes.specs.declared.sides.Sides.{Sides}

abbrev pub side_at : List Leg → ℕ → Data → Reading ℕ
side_at at position d = number_at 1 greatest (at ++ leg.Position position ∷ []) d

-- another length is refused at the list
abbrev pub two_at : List Leg → Items → Reading Sides
two_at at no_items = Err at
two_at at (item a no_items) = Err at
two_at at (item a (item b no_items)) = do
  width ← side_at at 0 a
  height ← side_at at 1 b
  Ok (record { width = width; height = height })
two_at at (item a (item b (item c more))) = Err at

abbrev pub sides_at : Reader Sides
sides_at at null = Err at
sides_at at (boolean b) = Err at
sides_at at (number n) = Err at
sides_at at (string s) = Err at
sides_at at (array ds) = two_at at ds
sides_at at (object ms) = Err at

abbrev pub FitsSides : Sides → Type 0
FitsSides sides = FitsRange 1 greatest sides.width × FitsRange 1 greatest sides.height
