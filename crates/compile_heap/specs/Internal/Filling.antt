-- Resources while they are placed.
use Rattle.std.specs.Prelude.{◌≡◌, ◌⊎◌, ◌<◌, ◌≤◌, ◌+◌, ◌*◌, ℕ, List, length, slice_index_or, Bool, true, false}
use Rattle.std.specs.List.{All, Contains, sum}
use Rattle.compile_heap.specs.Placing.{number_at, goes_first, IsLow}
use Rattle.compile_heap.specs.Internal.Choosing.{IsUpTo}
use Rattle.compile_heap.specs.Internal.Moving.{Fits}
use Rattle.compile_heap.specs.Internal.Rising.{IsRising}

-- the placed resources go first of all others, and each is as low as it can be
pub record IsFront (sizes : List ℕ) (ordered : ℕ → ℕ → Bool) (offsets placed : List ℕ) (is_placed : List Bool) : Type 0 where
  pub members : (j : ℕ) → j < length sizes → slice_index_or is_placed j false ≡ true → Contains placed j
  pub each : All (λ j. (j < length sizes) × (slice_index_or is_placed j false ≡ true)) placed
  pub before : (j i : ℕ) → j < length sizes → i < length sizes → slice_index_or is_placed j false ≡ true → slice_index_or is_placed i false ≡ false → goes_first sizes j i ≡ true
  pub low : (j : ℕ) → j < length sizes → slice_index_or is_placed j false ≡ true → IsLow sizes ordered offsets j

-- what the heap may still grow by: for each resource that is not placed its size, and what comes before it to the next granule
pub record HasRoom (sizes : List ℕ) (is_placed : List Bool) (heap : ℕ) : Type 0 where
  pub rest : List ℕ
  pub count : length rest ≡ length sizes
  pub left : (i : ℕ) → i < length sizes → slice_index_or is_placed i false ≡ false → number_at rest i ≡ number_at sizes i + 255
  pub bound : heap + sum rest ≤ sum sizes + 255 * length sizes

-- the placed resources end in the heap, and one of them at its end
pub record IsEnd (sizes offsets placed : List ℕ) (heap : ℕ) : Type 0 where
  pub within : All (λ j. number_at offsets j + number_at sizes j ≤ heap) placed
  pub reached : (heap ≡ 0) ⊎ ((i : ℕ) × Contains placed i × (number_at offsets i + number_at sizes i ≡ heap))

pub record IsFilling (sizes : List ℕ) (ordered : ℕ → ℕ → Bool) (offsets placed : List ℕ) (is_placed : List Bool) (heap : ℕ) : Type 0 where
  pub front : IsFront sizes ordered offsets placed is_placed
  pub room : HasRoom sizes is_placed heap
  pub end : IsEnd sizes offsets placed heap
  pub rising : IsRising offsets placed
  pub count : length is_placed ≡ length sizes
  pub fits : Fits sizes offsets

-- of an order the first k are placed
abbrev pub IsFilledUpTo : List ℕ → (ℕ → ℕ → Bool) → List ℕ → ℕ → List ℕ → List ℕ → ℕ → Type 0
IsFilledUpTo sizes ordered order k offsets placed heap = (is_placed : List Bool) × IsUpTo order k is_placed × IsFilling sizes ordered offsets placed is_placed heap
