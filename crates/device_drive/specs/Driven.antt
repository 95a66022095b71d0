-- What a run on one thread does, event by event.
use Rattle.std.specs.Prelude.{◌≡◌, ℕ, List, [], ◌∷◌, length, drop, Option}
use Rattle.base.specs.declared.event.Event.{Event}
use Rattle.base.specs.declared.event.Event.TheVariants.{Begin, End, Sync, Host}
use Rattle.check_order.specs.declared.kind.Kind.{Kind}
use Rattle.check_order.specs.declared.kind.Kind.TheVariants as kinds
use Rattle.device_drive.specs.Firsts.{IsFirst, NothingReady}
use Rattle.device_drive.specs.Tended.{tended_moves}
use Rattle.device_model.specs.Devices.{Device, view_in, did}
use Rattle.device_model.specs.Histories.{moved}
use Rattle.device_model.specs.Ready.{kind_at}

-- a command ends as soon as it has begun
abbrev pub events_of : Kind → ℕ → List Event
events_of kinds.Command n = Begin n ∷ End n ∷ []
events_of kinds.Host n = Host n ∷ []
events_of kind n = Sync n ∷ []

-- all events of a node
abbrev pub node_events : Device → ℕ → List Event
node_events d n = events_of (kind_at (view_in d) n) n

-- the first of the cache moves that are to come is made, if one is
abbrev pub after_move : Device → List Event → Device
after_move d [] = d
after_move d (m ∷ moves) = moved d m

-- all of them are
abbrev pub after_moves : Device → List Event → Device
after_moves d [] = d
after_moves d (m ∷ moves) = after_moves (moved d m) moves

-- events, each after a cache move while one is to come
abbrev pub after_events : List Event → Device → List Event → Device
after_events [] d moves = d
after_events (event ∷ events) d moves = after_events events (did (after_move d moves) event) (drop 1 moves)

-- Node after node, each the least ready one of the first queue that has one, and host reads after all queues. Each event of it comes
-- after a cache move while one is to come; what is left of these comes where nothing is ready any more.
abbrev pub Drives : List ℕ → Device → List Event → Device → Type 0
Drives [] d moves new = NothingReady d × (new ≡ after_moves d moves)
Drives (n ∷ nodes) d moves new = IsFirst d n × Drives nodes (after_events (node_events d n) d moves) (drop (length (node_events d n)) moves) new

-- with the cache moves that the seed has, as many as the device has left
abbrev pub Driven : Device → Device → Option ℕ → Type 0
Driven old new tend = (nodes : List ℕ) × Drives nodes old (tended_moves old.program tend old.moves) new
