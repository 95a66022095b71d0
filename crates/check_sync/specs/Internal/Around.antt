-- All numbers below a count, from one of them on.
use Rattle.std.specs.Prelude.{ℕ, ◌+◌, ◌-◌, nat_le, nat_lt, if◌then◌else◌}

-- upwards, and then those below it
abbrev pub up_from : ℕ → ℕ → ℕ → ℕ
up_from start count k = if nat_lt k (count - start) then start + k else k - (count - start)

-- downwards, and then those above it
abbrev pub down_from : ℕ → ℕ → ℕ → ℕ
down_from start count k = if nat_le k start then start - k else start + (count - k)
