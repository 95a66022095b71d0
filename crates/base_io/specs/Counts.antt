-- Counts of faults, which stop at the greatest u64.
use Rattle.std.specs.Prelude.{ℕ, ◌<◌, ◌≤◌, ◌≡◌, ◌-◌, ◌^◌, ◌⊎◌}

-- the count did not fall, and is greater than before or stands at its greatest
abbrev pub Rose : ℕ → ℕ → Type 0
Rose before after = (before ≤ after) × ((before < after) ⊎ (after ≡ 2 ^ 64 - 1))
