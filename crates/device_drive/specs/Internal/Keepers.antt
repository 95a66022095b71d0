-- A run on its way: which moves are still to come, and what they leave as it is.
use Rattle.std.specs.Prelude.{◌≡◌, ◌++◌, ◌<◌, ◌^◌, ℕ, List, [], drop, length, Option, Some, None}
use Rattle.rand_pcg.specs.Lcg.{Lcg}
use Rattle.base.specs.declared.event.Event.{Event}
use Rattle.device_cache.specs.Draws.{moves_from}
use Rattle.device_drive.specs.Driven.{after_events, after_move, Drives}
use Rattle.device_drive.specs.Tended.{agents_of, sizes_of}
use Rattle.device_drive.specs.declared.keeper.Keeper.{Keeper}
use Rattle.device_model.specs.Devices.{Device, state_of}
use Rattle.device_model.specs.Histories.{moves_in, Went}
use Rattle.program.specs.declared.program.Program.{Program}

-- the next moves of a generator, at most so many; without one none
abbrev pub moves_by : Option Lcg → ℕ → ℕ → List ℕ → List Event
moves_by None left agents sizes = []
moves_by (Some g) left agents sizes = moves_from g left agents sizes

-- the moves that the keeper makes where so many are left
abbrev pub to_come : Keeper → ℕ → List Event
to_come keeper left = moves_by keeper.tender left keeper.agents keeper.sizes

-- the keeper is of the program
pub record Keeps (keeper : Keeper) (program : Program) : Type 0 where
  pub agents : keeper.agents ≡ agents_of program
  pub sizes : keeper.sizes ≡ sizes_of program
  pub few : length keeper.sizes < 2 ^ 32

-- it asks for moves as before
pub record AsksAlike (before after : Keeper) : Type 0 where
  pub agents : after.agents ≡ before.agents
  pub sizes : after.sizes ≡ before.sizes

-- some events have come, the moves among them as the keeper had them
pub record Advanced (old new : Device) (before after : Keeper) : Type 0 where
  pub events : List Event
  pub went : Went old new events
  pub moves : moves_in events ++ to_come after new.moves ≡ to_come before old.moves
  pub asks : AsksAlike before after

-- how far nodes and timelines are has not changed
pub record Calm (old new : Device) : Type 0 where
  pub program : new.program ≡ old.program
  pub phase : (state_of new).phase ≡ (state_of old).phase
  pub counter : (state_of new).counter ≡ (state_of old).counter

-- the keeper's next move was made, if there was one
pub record Tends (old new : Device) (before after : Keeper) : Type 0 where
  pub device : new ≡ after_move old (to_come before old.moves)
  pub rest : to_come after new.moves ≡ drop 1 (to_come before old.moves)

-- these events came, each after a move of the keeper while it had one
pub record Does (events : List Event) (old new : Device) (before after : Keeper) : Type 0 where
  pub device : new ≡ after_events events old (to_come before old.moves)
  pub rest : to_come after new.moves ≡ drop (length events) (to_come before old.moves)

-- a run of a device with the keeper's moves
abbrev pub Leads : Device → Keeper → Device → Type 0
Leads d keeper new = (nodes : List ℕ) × Drives nodes d (to_come keeper d.moves) new
