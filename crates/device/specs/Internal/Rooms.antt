-- What room is kept for: events and stores that are still to come.
use Rattle.std.specs.Prelude.{ℕ, zero, suc, ◌+◌}
use Rattle.device_model.specs.declared.phase.Phase.{Phase}
use Rattle.device_model.specs.declared.phase.Phase.TheVariants.{Idle, Begun, Done}

abbrev pub events_left : Phase → ℕ
events_left Idle = 2
events_left Begun = 1
events_left Done = 0

abbrev pub stores_left : Phase → ℕ
stores_left Idle = 1
stores_left Begun = 1
stores_left Done = 0

-- of the first nodes together
abbrev pub left_of : (Phase → ℕ) → (ℕ → Phase) → ℕ → ℕ
left_of left phase zero = 0
left_of left phase (suc n) = left (phase n) + left_of left phase n
