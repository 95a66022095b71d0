-- A tap that keeps what it hears.
use Rattle.std.specs.Prelude.{ℕ, List, [], ◌∷◌, ◌++◌, length, nat_lt, Bool, true, if◌then◌else◌}
use Rattle.base.specs.declared.event.Event.{Event}

-- the events that it keeps, for how many there is room, and whether it was told one more than that
pub record Listed : Type 0 where
  pub events : List Event
  pub room : ℕ
  pub done : Bool

-- told an event
abbrev pub hearing : Listed → Event → Listed
hearing t event = if nat_lt (length t.events) t.room then record t { events = t.events ++ event ∷ [] } else record t { done = true }
