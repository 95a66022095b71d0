-- Placed resources in rising order of their offsets.
use Rattle.std.specs.Prelude.{◌<◌, ◌≤◌, ℕ, List, length, slice_index_or}
use Rattle.std.specs.List.Sorted.{IsNonDecreasingBy}
use Rattle.compile_heap.specs.Placing.{number_at}

-- none begins before one that stands before it
abbrev pub IsRising : List ℕ → List ℕ → Type 0
IsRising offsets placed = IsNonDecreasingBy (number_at offsets) placed

-- a resource that begins at this offset fits in here: those before begin no later, and the others no earlier
pub record IsIndex (offsets placed : List ℕ) (offset index : ℕ) : Type 0 where
  pub within : index ≤ length placed
  pub before : (k d : ℕ) → k < index → number_at offsets (slice_index_or placed k d) ≤ offset
  pub after : (k d : ℕ) → index ≤ k → k < length placed → offset ≤ number_at offsets (slice_index_or placed k d)
