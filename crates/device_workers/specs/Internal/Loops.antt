-- Loops over holds on their way.
use Rattle.std.specs.Prelude.{◌≡◌, ◌≤◌, ◌+◌, ◌++◌, ℕ, List, length}
use Rattle.rand_pcg.specs.Lcg.{Lcg}
use Rattle.base.specs.declared.event.Event.{Event}
use Rattle.device_cache.specs.Draws.{moves_from, moves_of}
use Rattle.device_drive.specs.Tended.{agents_of, sizes_of}
use Rattle.device_model.specs.Devices.{Device}
use Rattle.device_model.specs.Histories.{Went}
use Rattle.device_workers.specs.Parts.{WorkerPart, TenderPart}

-- some of the moves have been made, and so many others are to come
pub record Tending (old new : Device) (seed left : ℕ) (tender : Lcg) (agents : ℕ) (sizes : List ℕ) : Type 0 where
  pub events : List Event
  pub went : Went old new events
  pub room : left ≤ new.moves
  pub moves : events ++ moves_from tender left agents sizes ≡ moves_of seed 256 agents sizes

-- of a device with the agents and the sizes that the tender asks for
abbrev pub TendsOn : Device → Device → ℕ → ℕ → Lcg → ℕ → List ℕ → Type 0
TendsOn old new seed left tender agents sizes = agents ≡ agents_of old.program → sizes ≡ sizes_of old.program → 256 ≤ old.moves → Tending old new seed left tender agents sizes

-- a worker on its way has made events alone
pub record StillWorks (old new : WorkerPart) : Type 0 where
  pub parts : new.parts ≡ old.parts
  pub ends : new.ends ≡ old.ends

-- a tender on its way has made as many events as moves, and so many are still owed
pub record PaysOn (left : ℕ) (tender : Lcg) (agents : ℕ) (sizes : List ℕ) (old new : TenderPart) : Type 0 where
  pub parts : new.parts ≡ old.parts
  pub known : agents ≡ agents_of new.program
  pub long : sizes ≡ sizes_of new.program
  pub owed : new.owed ≡ moves_from tender left agents sizes
  pub events : new.events + length new.owed ≡ old.events + length old.owed
