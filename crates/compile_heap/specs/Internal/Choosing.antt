-- In which order resources are placed.
use Rattle.std.specs.Prelude.{◌≡◌, ◌≢◌, ◌<◌, ◌≤◌, ℕ, List, length, slice_index_or, Bool, true, false}
use Rattle.std.specs.List.{All, Contains}
use Rattle.compile_heap.specs.Placing.{number_at, goes_first}

-- keys with the size and the number of each resource, in rising number
pub record IsKeyed {X : Type 0} (size number : X → ℕ) (sizes : List ℕ) (keys : List X) : Type 0 where
  pub count : length keys ≡ length sizes
  pub numbered : (k : ℕ) (d : X) → k < length keys → number (slice_index_or keys k d) ≡ k
  pub sized : (k : ℕ) (d : X) → k < length keys → size (slice_index_or keys k d) ≡ number_at sizes k

-- all resources, and each goes first of those behind it
pub record IsOrder (sizes order : List ℕ) : Type 0 where
  pub within : All (λ j. j < length sizes) order
  pub each : (j : ℕ) → j < length sizes → Contains order j
  pub falling : (k m d : ℕ) → k < m → m < length order → goes_first sizes (slice_index_or order k d) (slice_index_or order m d) ≡ true

-- of an order the first k are placed, and no others
pub record IsUpTo (order : List ℕ) (k : ℕ) (is_placed : List Bool) : Type 0 where
  pub done : (m d : ℕ) → m < k → slice_index_or is_placed (slice_index_or order m d) false ≡ true
  pub left : (m d : ℕ) → k ≤ m → m < length order → slice_index_or is_placed (slice_index_or order m d) false ≡ false

-- the one that goes first among those that are not placed
pub record IsNext (sizes : List ℕ) (is_placed : List Bool) (b : ℕ) : Type 0 where
  pub within : b < length sizes
  pub left : slice_index_or is_placed b false ≡ false
  pub first : (k : ℕ) → k < length sizes → slice_index_or is_placed k false ≡ false → k ≢ b → goes_first sizes b k ≡ true
