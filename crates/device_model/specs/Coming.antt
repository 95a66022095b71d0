-- Which events can come, one after another.
use Rattle.std.specs.Prelude.{◌≡◌, ℕ, ◌<◌, ◌&&◌, List, length, take, slice_get, Bool, true, false}
use Rattle.std.specs.Option.{option_map_or}
use Rattle.base.specs.declared.event.Event.{Event}
use Rattle.base.specs.declared.event.Event.TheVariants.{Begin, End, Sync, Move, Host}
use Rattle.check_order.specs.Edges.{is_sync, is_host}
use Rattle.device_model.specs.Devices.{Device, state_of}
use Rattle.device_model.specs.Ready.{is_command, kind_at, ready}
use Rattle.device_model.specs.States.{is_begun, State}
use Rattle.device_model.specs.Steps.{may_move}
use Rattle.program.specs.declared.program.Program.{Program}
use Rattle.check_access.specs.Views.{view_of}

-- the event can come in this state
abbrev pub is_enabled : Program → State → Event → Bool
is_enabled program s (Begin n) = is_command (kind_at (view_of program) n) && ready (view_of program) s n
is_enabled program s (End n) = is_begun (s.phase n)
is_enabled program s (Sync n) = is_sync (kind_at (view_of program) n) && ready (view_of program) s n
is_enabled program s (Move m) = may_move program m
is_enabled program s (Host n) = is_host (kind_at (view_of program) n) && ready (view_of program) s n

-- what events leave on a device that was opened with this byte
abbrev pub left_by : Program → ℕ → List Event → State
left_by program fill events = state_of (record { program = program; fill = fill; history = events; moves = 0 })

-- the event at place k can come in the state that those before it leave
abbrev pub is_enabled_at : Program → ℕ → List Event → ℕ → Bool
is_enabled_at program fill events k = option_map_or (is_enabled program (left_by program fill (take k events))) (slice_get events k) false

-- each of the first n events can come in its turn
abbrev pub AreEnabled : Program → ℕ → List Event → ℕ → Type 0
AreEnabled program fill events n = (k : ℕ) → k < n → is_enabled_at program fill events k ≡ true

-- each event of its history could come in its turn
abbrev pub AllCame : Device → Type 0
AllCame d = AreEnabled d.program d.fill d.history (length d.history)
