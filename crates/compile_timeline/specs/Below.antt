-- What holds of the numbers below a number, or what they give.
use Rattle.std.specs.Prelude.{ℕ, zero, suc, List, [], ◌++◌, Bool, false, ◌||◌, if◌then◌else◌}

-- one of them is so
abbrev pub any_below : (ℕ → Bool) → ℕ → Bool
any_below test zero = false
any_below test (suc n) = test n || any_below test n

-- how many are so
abbrev pub count_below : (ℕ → Bool) → ℕ → ℕ
count_below test zero = 0
count_below test (suc n) = if test n then suc (count_below test n) else count_below test n

-- what they give, one after another
abbrev pub all_below : {X : Type 0} → (ℕ → List X) → ℕ → List X
all_below gives zero = []
all_below gives (suc n) = all_below gives n ++ gives n
