-- What is known of one choice.
use Rattle.std.specs.Prelude.{◌≡◌, ◌<◌, ℕ, List, length, Bool}
use Rattle.std.specs.List.{All}
use Rattle.compile_bound.specs.Bounds.{low}
use Rattle.compile_bound.specs.Choices.{choice}
use Rattle.compile_bound.specs.declared.bound.Bound.{Bound}

-- the choice that begins with r, and its low
pub record IsChoice (sizes : List ℕ) (ordered : ℕ → ℕ → Bool) (r : ℕ) (bound : Bound) : Type 0 where
  pub is : bound.chosen ≡ choice sizes ordered r
  pub least : bound.least ≡ low sizes bound.chosen
  pub within : All (λ s. s < length sizes) bound.chosen
