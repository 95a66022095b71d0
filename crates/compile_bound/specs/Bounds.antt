-- How many bytes no heap is smaller than, and what shows it.
use Rattle.std.specs.Prelude.{◌≡◌, ◌<◌, ◌≤◌, ◌⊎◌, ◌-◌, ℕ, List, [], ◌∷◌, length, max, Bool, false}
use Rattle.std.specs.Int.{next_multiple_of}
use Rattle.std.specs.List.{All, AllByRecursion, sum_by}
use Rattle.compile_heap.specs.Placing.{IsLegal, Places, granule, may_alias, number_at}
use Rattle.compile_bound.specs.Choices.{choice}
use Rattle.compile_bound.specs.declared.bound.Bound.{Bound}

-- WHAT RESOURCES TAKE OF WHICH NO TWO MAY ALIAS

-- a resource with all that lies before the next one that can begin after it
abbrev pub rounded : ℕ → ℕ
rounded size = next_multiple_of size granule

abbrev pub rounded_sum : List ℕ → List ℕ → ℕ
rounded_sum sizes chosen = sum_by (λ r. rounded (number_at sizes r)) chosen

-- the greatest difference that rounding makes
abbrev pub greatest_gap : List ℕ → List ℕ → ℕ
greatest_gap sizes [] = 0
greatest_gap sizes (r ∷ chosen) = max (rounded (number_at sizes r) - number_at sizes r) (greatest_gap sizes chosen)

-- the one that lies last needs no room after it
abbrev pub low : List ℕ → List ℕ → ℕ
low sizes chosen = rounded_sum sizes chosen - greatest_gap sizes chosen

-- in rising number, and no two of them may alias
abbrev pub AreApart : (ℕ → ℕ → Bool) → List ℕ → Type 0
AreApart ordered [] = Unit {0}
AreApart ordered (r ∷ chosen) = AllByRecursion (λ s. (r < s) × (may_alias ordered r s ≡ false)) chosen × AreApart ordered chosen

-- the certificate has resources of which no two may alias, and the bound is what these take
pub record IsShown (sizes : List ℕ) (ordered : ℕ → ℕ → Bool) (bound : Bound) : Type 0 where
  pub within : All (λ r. r < length sizes) bound.chosen
  pub apart : AreApart ordered bound.chosen
  pub least : low sizes bound.chosen ≡ bound.least

-- no legal placement has a smaller heap
abbrev pub Holds : List ℕ → (ℕ → ℕ → Bool) → ℕ → Type 0
Holds sizes ordered least = (places : Places) → IsLegal sizes ordered places → least ≤ places.heap

-- THE BEST CHOICE

-- it is the choice that begins with r, and those that begin with lower numbers are less good
pub record IsFirst (sizes : List ℕ) (ordered : ℕ → ℕ → Bool) (bound : Bound) (r : ℕ) : Type 0 where
  pub is : bound.chosen ≡ choice sizes ordered r
  pub reached : low sizes (choice sizes ordered r) ≡ bound.least
  pub before : (s : ℕ) → s < r → low sizes (choice sizes ordered s) < bound.least

-- the greatest low of the choices that begin with the first n resources, and the first choice that has it; no byte and an empty
-- certificate where there is none
pub record IsBest (sizes : List ℕ) (ordered : ℕ → ℕ → Bool) (n : ℕ) (bound : Bound) : Type 0 where
  pub greatest : (r : ℕ) → r < n → low sizes (choice sizes ordered r) ≤ bound.least
  pub first : ((n ≡ 0) × (bound.least ≡ 0) × (bound.chosen ≡ [])) ⊎ ((r : ℕ) × (r < n) × IsFirst sizes ordered bound r)

-- of all choices
abbrev pub IsBound : List ℕ → (ℕ → ℕ → Bool) → Bound → Type 0
IsBound sizes ordered bound = IsBest sizes ordered (length sizes) bound
