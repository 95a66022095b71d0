-- What a call that makes many events leaves.
use Rattle.std.specs.Prelude.{◌≡◌, ◌<◌, ◌+◌, ◌-◌, List, [], ◌∷◌, ◌++◌, length, Bool, true, false}
use Rattle.std.specs.List.{filter}
use Rattle.base.specs.declared.event.Event.{Event}
use Rattle.base.specs.declared.event.Event.TheVariants.{Move}
use Rattle.device_model.specs.Devices.{Device, did}

abbrev pub is_move : Event → Bool
is_move (Move m) = true
is_move event = false

-- the cache moves among events
abbrev pub moves_in : List Event → List Event
moves_in events = filter is_move events

-- after a cache move one less is left
abbrev pub moved : Device → Event → Device
moved d event = record (did d event) { moves = d.moves - 1 }

-- these events have come since; each cache move is one less to make
pub record Went (old new : Device) (events : List Event) : Type 0 where
  pub program : new.program ≡ old.program
  pub fill : new.fill ≡ old.fill
  pub history : new.history ≡ old.history ++ events
  pub moves : new.moves + length (moves_in events) ≡ old.moves

-- EVENT BY EVENT

abbrev pub GoesNowhere : Device → Type 0
GoesNowhere d = Went d d []

-- another event of a node
abbrev pub GoesOnByNode : Device → Device → List Event → Event → Type 0
GoesOnByNode old new events event = Went old new events → is_move event ≡ false → Went old (did new event) (events ++ event ∷ [])

-- another cache move
abbrev pub GoesOnByMove : Device → Device → List Event → Event → Type 0
GoesOnByMove old new events event = Went old new events → is_move event ≡ true → 0 < new.moves → Went old (moved new event) (events ++ event ∷ [])

-- some events, and then others
abbrev pub Joins : Device → Device → Device → List Event → List Event → Type 0
Joins old middle new first second = Went old middle first → Went middle new second → Went old new (first ++ second)
