-- Greatest sums, command after command.
use Rattle.std.specs.Prelude.{◌≡◌, ◌<◌, ◌≤◌, ◌+◌, ◌*◌, ◌⊎◌, ◌==◌, ℕ, List, ◌∷◌, Bool, true, length, slice_index_or}
use Rattle.compile_queues.specs.Cost.{AreBelow, IsPath, cost_at, sum_of}

-- the greatest of the sums of the first n numbers that pass a test, or 0
pub record IsTop (test : ℕ → Bool) (sums : List ℕ) (n most : ℕ) : Type 0 where
  pub at_least : (k : ℕ) → k < n → test k ≡ true → cost_at sums k ≤ most
  pub reached : (most ≡ 0) ⊎ ((k : ℕ) × (k < n) × (test k ≡ true) × (cost_at sums k ≡ most))

-- the greatest sum on a path that ends at n
pub record EndsAt (step : ℕ → ℕ → Bool) (costs : List ℕ) (n sum : ℕ) : Type 0 where
  pub path : List ℕ
  pub within : AreBelow (length costs) path
  pub is_path : IsPath step (n ∷ path)
  pub costs_it : sum_of costs (n ∷ path) ≡ sum
  pub greatest : (other : List ℕ) → AreBelow (length costs) other → IsPath step (n ∷ other) → sum_of costs (n ∷ other) ≤ sum

-- what one command costs at most: shapes have fewer than 2 ^ 67 bytes
abbrev pub most_cost : ℕ
most_cost = 36028797018963969

-- the sums of the first i numbers
pub record AreSums (step : ℕ → ℕ → Bool) (costs sums : List ℕ) (i : ℕ) : Type 0 where
  pub count : length sums ≡ i
  pub each : (k : ℕ) → k < i → EndsAt step costs k (cost_at sums k)
  pub small : (k : ℕ) → k < i → cost_at sums k ≤ (k + 1) * most_cost

-- for each queue the greatest of the first i sums on it
pub record AreOn (queues sums on : List ℕ) (count i : ℕ) : Type 0 where
  pub size : length on ≡ count
  pub each : (q : ℕ) → q < count → IsTop (λ k. slice_index_or queues k 0 == q) sums i (slice_index_or on q 0)

-- a step leads forward
abbrev pub GoesForward : (ℕ → ℕ → Bool) → Type 0
GoesForward step = (a b : ℕ) → step a b ≡ true → a < b
