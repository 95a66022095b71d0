-- What the taps were told.
use Rattle.std.specs.Prelude.{◌≡◌, ℕ, List, [], Some, None}
use Rattle.std.specs.declared.option.Option.{Option}
use Rattle.base.specs.declared.event.Event.{Event}
use Rattle.base_io.specs.Served.{AreServed}

-- no tap was told anything, and none is spent
abbrev pub IsUntold : {T : Type 0} → List T → List T → List T → List ℕ → Type 0
IsUntold lent kept spent places = (kept ≡ lent) × (spent ≡ []) × (places ≡ [])

-- where devices ran, the taps were told what they did
abbrev pub AreTold : {T : Type 0} → (T → Option (List Event)) → (T → Type 0) → List T → List T → List T → List ℕ → Option (List Event) → Type 0
AreTold heard finished lent kept spent places None = IsUntold lent kept spent places
AreTold heard finished lent kept spent places (Some history) = AreServed heard finished history lent kept spent places
