-- A resource that is moved up past those that are placed.
use Rattle.std.specs.Prelude.{◌≡◌, ◌<◌, ◌≤◌, ◌%◌, ◌^◌, ℕ, List, length, slice_index_or, Bool, false}
use Rattle.std.specs.List.{All}
use Rattle.base.specs.Maxima.{max_size, max_units}
use Rattle.compile_heap.specs.Placing.{collides, granule}

-- it collides with none of the first k of these
abbrev pub IsClear : List ℕ → (ℕ → ℕ → Bool) → List ℕ → List ℕ → ℕ → ℕ → ℕ → Type 0
IsClear sizes ordered offsets placed k i offset = (m d : ℕ) → m < k → collides sizes ordered offsets i offset (slice_index_or placed m d) ≡ false

-- neither at this offset nor at a later one it collides with any of the first k of these
abbrev pub IsPast : List ℕ → (ℕ → ℕ → Bool) → List ℕ → List ℕ → ℕ → ℕ → ℕ → Type 0
IsPast sizes ordered offsets placed k i offset = (later : ℕ) → offset ≤ later → IsClear sizes ordered offsets placed k i later

-- at no lower multiple of the granule it is clear of all of these
abbrev pub IsTaken : List ℕ → (ℕ → ℕ → Bool) → List ℕ → List ℕ → ℕ → ℕ → Type 0
IsTaken sizes ordered offsets placed i offset = (lower : ℕ) → lower < offset → lower % granule ≡ 0 → IsClear sizes ordered offsets placed (length placed) i lower → ⊥

-- the least multiple of the granule at which it is clear of these
pub record IsLowest (sizes : List ℕ) (ordered : ℕ → ℕ → Bool) (offsets : List ℕ) (placed : List ℕ) (i offset : ℕ) : Type 0 where
  pub aligned : offset % granule ≡ 0
  pub clear : IsClear sizes ordered offsets placed (length placed) i offset
  pub taken : IsTaken sizes ordered offsets placed i offset

-- the lists have the lengths that belong together, and no offset is far out
pub record Fits (sizes : List ℕ) (offsets : List ℕ) : Type 0 where
  pub few : length sizes ≤ max_units
  pub count : length offsets ≡ length sizes
  pub each : All (λ size. size ≤ max_size) sizes
  pub near : All (λ offset. offset ≤ 2 ^ 31) offsets
