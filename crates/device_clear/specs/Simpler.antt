-- An operation in the place of another one.
use Rattle.std.specs.Prelude.{◌≡◌, ◌<◌, ◌≤◌, ℕ, List, [], ◌∷◌, Option, Some, None, true, length, take, slice_index_or}
use Rattle.std.specs.List.{All}
use Rattle.base.specs.Applied.{applied}
use Rattle.base.specs.Fits.{fits}
use Rattle.base.specs.Operands.{operands_of, sources_of, destination_of, mapped}
use Rattle.base.specs.Shapes.{bytes_of, shape_at}
use Rattle.base.specs.declared.op.Op.{Op}
use Rattle.base.specs.declared.shape.Shape.{Shape}
use Rattle.device_clear.specs.declared.simpler.Simpler.{Simpler}

-- an operation fits the shapes, and these are the bytes of its sources and then, or not, the old ones of its destination
pub record Reads (shapes : List Shape) (op : Op ℕ) (loaded : List (List ℕ)) : Type 0 where
  pub operands : All (λ p. p < length shapes) (operands_of op)
  pub fitting : fits (mapped (shape_at shapes) op) ≡ true
  pub sources : length (sources_of op) ≤ length loaded
  pub sized : (k : ℕ) → k < length loaded → length (slice_index_or loaded k []) ≡ bytes_of (shape_at shapes (slice_index_or (operands_of op) k 0))

-- the sources that are left of those that were loaded
abbrev pub left_of : List (List ℕ) → Option ℕ → List (List ℕ)
left_of loaded None = []
left_of loaded (Some k) = slice_index_or loaded k [] ∷ []

-- the other operation leaves the same in the same destination, by the sources that are left, whatever was there before
pub record IsSimpler (shapes : List Shape) (op : Op ℕ) (loaded : List (List ℕ)) (other : Simpler) : Type 0 where
  pub reads : Reads shapes other.op (left_of loaded other.source)
  pub all : length (left_of loaded other.source) ≡ length (sources_of other.op)
  pub destination : destination_of other.op ≡ destination_of op
  pub there : (k : ℕ) → other.source ≡ Some k → k < length loaded
  pub same : (old before : List ℕ) → applied shapes other.op (left_of loaded other.source) before ≡ applied shapes op (take (length (sources_of op)) loaded) old
