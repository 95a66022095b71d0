-- Each number below a count is met on the way around.
use Rattle.std.proofs.Common.{◌≡◌, ◌⊎◌, inl, inr, ℕ, ◌+◌, ◌-◌, ◌<◌, ◌≤◌, arith}
use Rattle.std.proofs.lemmas.Bool.{cases_lt}
use Rattle.check_sync.specs.Internal.Around.{up_from, down_from}

pub up_all : (start count x : ℕ) → start < count → x < count → (k : ℕ) × (k < count) × (up_from start count k ≡ x)
up_all start count x below less = go (cases_lt x start)
  where
    go : (x < start) ⊎ (start ≤ x) → (k : ℕ) × (k < count) × (up_from start count k ≡ x)
    go (inl h) = (x + (count - start), omega (arith, h, below), grind (arith, h, below))
    go (inr h) = (x - start, omega (arith, h, less), grind (arith, h, less))

pub down_all : (start count y : ℕ) → start < count → y < count → (k : ℕ) × (k < count) × (down_from start count k ≡ y)
down_all start count y below less = go (cases_lt start y)
  where
    go : (start < y) ⊎ (y ≤ start) → (k : ℕ) × (k < count) × (down_from start count k ≡ y)
    go (inl h) = (start + (count - y), omega (arith, h, less), grind (arith, h, less))
    go (inr h) = (start - y, omega (arith, h, below), grind (arith, h, less))
