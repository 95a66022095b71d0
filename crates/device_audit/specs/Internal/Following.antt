-- A device that follows a trace.
use Rattle.std.specs.Prelude.{◌≡◌, ℕ, ◌<◌, ◌==◌, ◌||◌, List, length, take, drop, get_or, Bool, true, false, Option, Some, None, if◌then◌else◌}
use Rattle.std.specs.List.{list_any, sum_by}
use Rattle.std.specs.Option.{option_map_or}
use Rattle.device_model.specs.Coming.{is_enabled}
use Rattle.base.specs.declared.event.Event.{Event}
use Rattle.base.specs.declared.event.Event.TheVariants.{Begin, End, Sync, Move, Host}
use Rattle.device.specs.declared.job.Command.{Command}
use Rattle.device_model.specs.Devices.{Device, state_of, view_in, did}
use Rattle.device_model.specs.Histories.{is_move, moves_in, moved}
use Rattle.device_model.specs.States.{is_begun}
use Rattle.program.specs.declared.program.Program.{Program}

-- WHAT IS BEGUN

abbrev pub one_if : Bool → ℕ
one_if true = 1
one_if false = 0

-- how many of the commands are of node n
abbrev pub held_of : ℕ → List Command → ℕ
held_of n commands = sum_by (λ (c : Command). one_if (c.node == n)) commands

-- each begun node has its command among these, and all are of nodes that there are
pub record Holds (d : Device) (commands : List Command) : Type 0 where
  pub has : (n : ℕ) → is_begun ((state_of d).phase n) ≡ true → 0 < held_of n commands
  pub within : (n : ℕ) → 0 < held_of n commands → n < length (view_in d).nodes

-- of the same program, no other node is begun
pub record Quiet (old new : Device) : Type 0 where
  pub same : view_in new ≡ view_in old
  pub less : (n : ℕ) → is_begun ((state_of new).phase n) ≡ true → is_begun ((state_of old).phase n) ≡ true

-- nor is node n
pub record Lands (old new : Device) (n : ℕ) : Type 0 where
  pub same : view_in new ≡ view_in old
  pub less : (m : ℕ) → is_begun ((state_of new).phase m) ≡ true → (is_begun ((state_of old).phase m) ≡ true) × (m ≡ n → ⊥)

-- it begins no command, and ends none
abbrev pub is_quiet : Event → Bool
is_quiet (Begin n) = false
is_quiet (End n) = false
is_quiet event = true

-- EVENT BY EVENT

abbrev pub goes : Device → Event → Bool
goes d event = is_enabled d.program (state_of d) event

-- a cache move uses one of those that are left
abbrev pub came : Device → Event → Device
came d event = if is_move event then moved d event else did d event

-- an event is made where it can come, and else nothing changes
pub record Follows (old new : Device) (event : Event) (made : Bool) : Type 0 where
  pub enabled : made ≡ goes old event
  pub effect : new ≡ (if made then came old event else old)

-- the device when the first k events have come, with room for the cache moves among the others
abbrev pub at_place : Program → List Event → ℕ → Device
at_place program events k = record { program = program; fill = 0; history = take k events; moves = length (moves_in (drop k events)) }

-- WHAT IS DONE

-- the node that is done with an event
abbrev pub ended_by : Event → Option ℕ
ended_by (Begin n) = None
ended_by (End n) = Some n
ended_by (Sync n) = Some n
ended_by (Move m) = None
ended_by (Host n) = Some n

abbrev pub ends : ℕ → Event → Bool
ends n event = option_map_or (λ m. n == m) (ended_by event) false

abbrev pub is_ended : List Event → ℕ → Bool
is_ended events n = list_any (ends n) events

-- of the first nodes, those that are done with the events are marked
pub record AreMarked (done : List Bool) (events : List Event) (count : ℕ) : Type 0 where
  pub long : length done ≡ count
  pub at : (n : ℕ) → n < count → get_or done n false ≡ is_ended events n

-- one event more
pub record Marks (old new : List Bool) (event : Event) : Type 0 where
  pub long : length new ≡ length old
  pub at : (n : ℕ) → n < length old → get_or new n false ≡ (get_or old n false || ends n event)

-- the least of so many nodes that is not done with the events
pub record IsLeastUnended (events : List Event) (count node : ℕ) : Type 0 where
  pub there : node < count
  pub unended : is_ended events node ≡ false
  pub least : (n : ℕ) → n < node → is_ended events n ≡ true

abbrev pub AreEnded : List Event → ℕ → Type 0
AreEnded events count = (n : ℕ) → n < count → is_ended events n ≡ true
