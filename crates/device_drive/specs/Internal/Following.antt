-- Events beside the moves that are still to come.
use Rattle.std.specs.Prelude.{◌≡◌, ◌↔◌, ℕ, List, ◌∷◌}
use Rattle.base.specs.declared.event.Event.{Event}
use Rattle.device_drive.specs.Internal.Keepers.{to_come}
use Rattle.device_drive.specs.declared.keeper.Keeper.{Keeper}
use Rattle.device_model.specs.Histories.{moves_in}

-- the moves among the events are exactly those
abbrev pub Makes : List Event → Keeper → ℕ → Type 0
Makes events keeper left = moves_in events ≡ to_come keeper left

-- after the first event the others decide
abbrev pub Follows : Event → Keeper → ℕ → Keeper → ℕ → Type 0
Follows event before left after less = (rest : List Event) → Makes (event ∷ rest) before left ↔ Makes rest after less

-- whatever comes after the first event
abbrev pub Strays : Event → Keeper → ℕ → Type 0
Strays event keeper left = (rest : List Event) → Makes (event ∷ rest) keeper left → ⊥
