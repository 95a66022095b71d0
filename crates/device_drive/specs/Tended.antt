-- Which cache moves a run of a device makes.
use Rattle.std.specs.Prelude.{◌≡◌, ◌*◌, ℕ, List, [], map, length, Option, Some, None}
use Rattle.base.specs.declared.event.Event.{Event}
use Rattle.device_cache.specs.Draws.{moves_of}
use Rattle.device_model.specs.Devices.{Device}
use Rattle.device_model.specs.Histories.{moves_in, Went}
use Rattle.program.specs.Limits.{memory_bytes}
use Rattle.program.specs.declared.program.Program.{Program}

-- eight for each queue
abbrev pub agents_of : Program → ℕ
agents_of program = 8 * length program.queues

-- in bytes
abbrev pub sizes_of : Program → List ℕ
sizes_of program = map memory_bytes program.memories

-- the first moves of a seed's tender, so many of them; without a seed none
abbrev pub tended_moves : Program → Option ℕ → ℕ → List Event
tended_moves program None count = []
tended_moves program (Some seed) count = moves_of seed count (agents_of program) (sizes_of program)

-- some events have come
pub record Grew (old new : Device) : Type 0 where
  pub events : List Event
  pub went : Went old new events

-- and all moves that were left have been made, as the seed has them
pub record Tended (old new : Device) (tend : Option ℕ) : Type 0 where
  pub events : List Event
  pub went : Went old new events
  pub moves : moves_in events ≡ tended_moves old.program tend old.moves
