-- Rows while they are closed.
use Rattle.std.specs.Prelude.{◌≡◌, ℕ, ◌+◌, ◌-◌, ◌*◌, ◌<◌, ◌≤◌, Bool, true, List, length, ◌⊎◌, ◌↔◌}
use Rattle.base_reach.specs.Bits.{bit}

-- bit b of the row of y, where rows have `width` words, and the first one is that of `from`
abbrev pub row_bit : List ℕ → ℕ → ℕ → ℕ → ℕ → Bool
row_bit table width from y b = bit table ((y - from) * width * 64 + b)

-- rows of the numbers from `from` up to count that go forward and are closed
pub record ClosedRows (table : List ℕ) (width from count : ℕ) : Type 0 where
  pub size : length table ≡ (count - from) * width
  pub wide : count ≤ 64 * width
  pub forward : (x y : ℕ) → from ≤ x → x < count → y < 64 * width → row_bit table width from x y ≡ true → (x < y) × (y < count)
  pub closed : (x y z : ℕ) → from ≤ x → x < count → y < count → z < count → row_bit table width from x y ≡ true → row_bit table width from y z ≡ true → row_bit table width from x z ≡ true

-- a number of the first set, or one in the row of such a number
abbrev pub Reaches : List ℕ → List ℕ → ℕ → ℕ → ℕ → Type 0
Reaches direct table width from b = (y : ℕ) × (bit direct y ≡ true) × ((y ≡ b) ⊎ (row_bit table width from y b ≡ true))

-- a row that has no more than what is reached, and with each number the numbers of its row
pub record Grown (direct table : List ℕ) (width from count : ℕ) (row : List ℕ) : Type 0 where
  pub reached : (b : ℕ) → b < 64 * width → bit row b ≡ true → Reaches direct table width from b
  pub whole : (y b : ℕ) → y < count → b < count → bit row y ≡ true → row_bit table width from y b ≡ true → bit row b ≡ true

-- the rows from `from` on: the first is what its numbers reach in the old ones, the others stay
pub record FirstClosed (old new : List ℕ) (width from count : ℕ) : Type 0 where
  pub rows : ClosedRows new width from count
  pub first : (y : ℕ) → y < 64 * width → (bit new y ≡ true) ↔ ((m : ℕ) × (m < 64 * width) × (bit old m ≡ true) × ((m ≡ y) ⊎ (row_bit old width from m y ≡ true)))
  pub others : (x y : ℕ) → from < x → x < count → row_bit new width from x y ≡ row_bit old width from x y
