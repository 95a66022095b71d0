-- Where transient resources lie in one heap. Resources are told apart by their numbers in the list of their sizes, and
-- `ordered a b` says that all that is done to a is done before all that is done to b.
use Rattle.std.specs.Prelude.{◌≡◌, ◌≢◌, ◌⊎◌, ◌<◌, ◌≤◌, ◌+◌, ◌%◌, ◌==◌, ◌&&◌, ◌||◌, nat_lt, not, ℕ, List, length, slice_index_or, Bool, true, false}

-- each resource begins at a multiple of so many bytes
abbrev pub granule : ℕ
granule = 256

-- where each resource begins, and how many bytes the heap has
pub record Places : Type 0 where
  pub offsets : List ℕ
  pub heap : ℕ

-- the size, or the offset, of resource i
abbrev pub number_at : List ℕ → ℕ → ℕ
number_at numbers i = slice_index_or numbers i 0

-- two resources may alias, which is to lie in the same bytes: one is ordered before the other
abbrev pub may_alias : (ℕ → ℕ → Bool) → ℕ → ℕ → Bool
may_alias ordered i j = ordered i j || ordered j i

-- of two ranges of bytes each begins before the other ends
abbrev pub overlap : ℕ → ℕ → ℕ → ℕ → Bool
overlap a size b other = nat_lt a (b + other) && nat_lt b (a + size)

-- LEGAL PLACES

-- each resource lies in the heap at a multiple of the granule, and two that may not alias do not overlap
pub record IsLegal (sizes : List ℕ) (ordered : ℕ → ℕ → Bool) (places : Places) : Type 0 where
  pub aligned : (i : ℕ) → i < length sizes → number_at places.offsets i % granule ≡ 0
  pub inside : (i : ℕ) → i < length sizes → number_at places.offsets i + number_at sizes i ≤ places.heap
  pub apart : (i j : ℕ) → i < length sizes → j < length sizes → i ≢ j → may_alias ordered i j ≡ false → overlap (number_at places.offsets i) (number_at sizes i) (number_at places.offsets j) (number_at sizes j) ≡ false

-- THE LEAST PLACES

-- j is placed before i: it is larger, or as large with a lower number
abbrev pub goes_first : List ℕ → ℕ → ℕ → Bool
goes_first sizes j i = nat_lt (number_at sizes i) (number_at sizes j) || (number_at sizes i == number_at sizes j && nat_lt j i)

-- at this offset i would overlap j, with which it may not alias
abbrev pub collides : List ℕ → (ℕ → ℕ → Bool) → List ℕ → ℕ → ℕ → ℕ → Bool
collides sizes ordered offsets i offset j = not (may_alias ordered i j) && overlap offset (number_at sizes i) (number_at offsets j) (number_at sizes j)

-- at this offset i collides with none that is placed before it
abbrev pub IsFree : List ℕ → (ℕ → ℕ → Bool) → List ℕ → ℕ → ℕ → Type 0
IsFree sizes ordered offsets i offset = (j : ℕ) → j < length sizes → goes_first sizes j i ≡ true → collides sizes ordered offsets i offset j ≡ false

-- i is at the least multiple of the granule at which it is free
pub record IsLow (sizes : List ℕ) (ordered : ℕ → ℕ → Bool) (offsets : List ℕ) (i : ℕ) : Type 0 where
  pub aligned : number_at offsets i % granule ≡ 0
  pub free : IsFree sizes ordered offsets i (number_at offsets i)
  pub least : (offset : ℕ) → offset % granule ≡ 0 → IsFree sizes ordered offsets i offset → number_at offsets i ≤ offset

-- the heap ends with the resource that ends last, and has no byte where there is no resource
pub record IsGreatestEnd (sizes offsets : List ℕ) (heap : ℕ) : Type 0 where
  pub within : (i : ℕ) → i < length sizes → number_at offsets i + number_at sizes i ≤ heap
  pub reached : (heap ≡ 0) ⊎ ((i : ℕ) × (i < length sizes) × (number_at offsets i + number_at sizes i ≡ heap))

-- each resource has an offset and is as low as it can be, in the order in which they are placed
pub record IsLeast (sizes : List ℕ) (ordered : ℕ → ℕ → Bool) (places : Places) : Type 0 where
  pub each : (i : ℕ) → i < length sizes → IsLow sizes ordered places.offsets i
  pub count : length places.offsets ≡ length sizes
  pub heap : IsGreatestEnd sizes places.offsets places.heap

-- these are the only least places
abbrev pub IsOnly : List ℕ → (ℕ → ℕ → Bool) → Places → Type 0
IsOnly sizes ordered places = (other : Places) → IsLeast sizes ordered other → other ≡ places
