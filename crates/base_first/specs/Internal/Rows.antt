-- Rows of numbers, one behind the other, and what is done to them.
use Rattle.std.specs.Prelude.{◌≡◌, ◌≢◌, ◌⊎◌, ℕ, ◌+◌, ◌*◌, ◌<◌, ◌≤◌, min, true, List, get_or, if◌then◌else◌}
use Rattle.base_first.specs.Bits.{bit}

-- number e of row i
abbrev pub entry : List ℕ → ℕ → ℕ → ℕ → ℕ
entry numbers width i e = get_or numbers (i * width + e) 0

-- other rows than row i stay
abbrev pub OthersKept : ℕ → ℕ → List ℕ → List ℕ → Type 0
OthersKept width i old new = (k e : ℕ) → k ≢ i → e < width → entry new width k e ≡ entry old width k e

-- rows other than n from `base` on stay
abbrev pub OutsideKept : ℕ → ℕ → ℕ → List ℕ → List ℕ → Type 0
OutsideKept width base n old new = (k e : ℕ) → (k < base) ⊎ (base + n ≤ k) → e < width → entry new width k e ≡ entry old width k e

-- row i takes the least of its own numbers and those of the first n rows from `base` on that the set names
pub record Taken (set n width base i : ℕ) (old new : List ℕ) : Type 0 where
  pub own : (e : ℕ) → e < width → entry new width i e ≤ entry old width i e
  pub low : (c e : ℕ) → c < n → e < width → bit set c ≡ true → entry new width i e ≤ entry old width (base + c) e
  pub one : (e : ℕ) → e < width → (entry new width i e ≡ entry old width i e) ⊎ ((c : ℕ) × (c < n) × (bit set c ≡ true) × (entry new width i e ≡ entry old width (base + c) e))
  pub others : OthersKept width i old new

-- the first n rows from `base` on that the set names take the least of their own numbers and those of row i
pub record Given (set n width base i : ℕ) (old new : List ℕ) : Type 0 where
  pub given : (c e : ℕ) → c < n → e < width → entry new width (base + c) e ≡ (if bit set c then min (entry old width (base + c) e) (entry old width i e) else entry old width (base + c) e)
  pub others : OutsideKept width base n old new

-- n rows from `to` on are what those from `from` on were
pub record Copied (n width to from : ℕ) (old new : List ℕ) : Type 0 where
  pub copied : (c e : ℕ) → c < n → e < width → entry new width (to + c) e ≡ entry old width (from + c) e
  pub others : OutsideKept width to n old new

-- in row i the number v stands at those of n places from `first` on that the set names
pub record Put (set n v width first i : ℕ) (old new : List ℕ) : Type 0 where
  pub put : (c : ℕ) → c < n → entry new width i (first + c) ≡ (if bit set c then v else entry old width i (first + c))
  pub beside : (e : ℕ) → (e < first) ⊎ (first + n ≤ e) → e < width → entry new width i e ≡ entry old width i e
  pub others : OthersKept width i old new
