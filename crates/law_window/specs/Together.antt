-- Frames that can be compiled together.
use Rattle.std.specs.Prelude.{◌≡◌, ◌≢◌, ◌<◌, ℕ, List, [], ◌∷◌, map, length, Option, Some, None}
use Rattle.std.specs.List.{All}
use Rattle.base.specs.Shapes.{shape_at}
use Rattle.base.specs.declared.shape.Family.{Family}
use Rattle.base.specs.declared.shape.Shape.{Shape}
use Rattle.base.specs.declared.shape.Shape.TheVariants.{Buffer}
use Rattle.frame.specs.Valid.{IsValid, shapes_in}
use Rattle.law_window.specs.Flown.{Flown}

abbrev pub Absent : ℕ → List (Option ℕ) → Type 0
Absent x [] = Unit {0}
Absent x (None ∷ places) = Absent x places
Absent x (Some y ∷ places) = (x ≢ y) × Absent x places

-- different buffers of these shapes, each of the size that belongs to its name
abbrev pub ArePlaced : List ℕ → List (Option ℕ) → List Shape → Type 0
ArePlaced [] [] shapes = Unit {0}
ArePlaced [] (place ∷ places) shapes = ⊥
ArePlaced (size ∷ sizes) [] shapes = ⊥
ArePlaced (size ∷ sizes) (None ∷ places) shapes = ArePlaced sizes places shapes
ArePlaced (size ∷ sizes) (Some x ∷ places) shapes = (x < length shapes) × (shape_at shapes x ≡ Buffer size) × Absent x places × ArePlaced sizes places shapes

-- a valid frame over these queues, whose persisting buffers have these sizes
pub record Flies (queues : List Family) (sizes : List ℕ) (flown : Flown) : Type 0 where
  pub good : IsValid flown.frame
  pub same : flown.frame.queues ≡ queues
  pub placed : ArePlaced sizes flown.places (shapes_in flown.frame)

-- a frame at least, and for each name persisted bytes of its size
pub record FlyTogether (queues : List Family) (sizes : List ℕ) (frames : List Flown) (persisted : List (List ℕ)) : Type 0 where
  pub some : 0 < length frames
  pub each : All (Flies queues sizes) frames
  pub sized : map length persisted ≡ sizes
