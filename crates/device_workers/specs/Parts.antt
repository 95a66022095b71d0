-- What the parts of a run count of what they did to a device that they share.
use Rattle.std.specs.Prelude.{◌≡◌, ◌+◌, ℕ, Bool, true, List, [], ◌∷◌, length, drop, Option, Some, None}
use Rattle.base.specs.declared.cache_move.CacheMove.{CacheMove}
use Rattle.base.specs.declared.event.Event.{Event}
use Rattle.base.specs.declared.event.Event.TheVariants.{Move}
use Rattle.device.specs.declared.job.Landed.{Landed}
use Rattle.device.specs.declared.job.Landed.TheVariants.{Done, NotBegun}
use Rattle.device_cache.specs.Draws.{Moves, moves_of}
use Rattle.device_drive.specs.Tended.{agents_of, sizes_of, tended_moves}
use Rattle.device_workers.specs.declared.step.WorkerStep.{WorkerStep}
use Rattle.device_workers.specs.declared.step.WorkerStep.TheVariants.{Compute, Stepped, Complete, Wait}
use Rattle.program.specs.declared.program.Program.{Program}

-- OF A WORKER

-- its parts of the ledger of events, how many it has made, and how often it has found all nodes done
pub record WorkerPart : Type 0 where
  pub parts : ℕ
  pub events : ℕ
  pub ends : ℕ

-- how many events a hold has made
abbrev pub events_of : WorkerStep → ℕ
events_of (Compute job) = 1
events_of Stepped = 1
events_of Complete = 0
events_of Wait = 0

-- whether it has found all nodes done, as a number
abbrev pub ends_of : WorkerStep → ℕ
ends_of (Compute job) = 0
ends_of Stepped = 0
ends_of Complete = 1
ends_of Wait = 0

abbrev pub events_of_end : Landed → ℕ
events_of_end Done = 1
events_of_end NotBegun = 0

pub record CountsStep (step : WorkerStep) (old new : WorkerPart) : Type 0 where
  pub parts : new.parts ≡ old.parts
  pub events : new.events ≡ old.events + events_of step
  pub ends : new.ends ≡ old.ends + ends_of step

pub record CountsEnd (landed : Landed) (old new : WorkerPart) : Type 0 where
  pub parts : new.parts ≡ old.parts
  pub events : new.events ≡ old.events + events_of_end landed
  pub ends : new.ends ≡ old.ends

-- whatever it counted
abbrev pub KeepsParts : WorkerPart → WorkerPart → Type 0
KeepsParts old new = new.parts ≡ old.parts

-- it has found all nodes done
abbrev pub FindsEnd : WorkerPart → WorkerPart → Type 0
FindsEnd old new = new.ends ≡ old.ends + 1

-- OF A TENDER

-- how many cache moves there is room for: 256 with a seed, and else none
abbrev pub room_of : Option ℕ → ℕ
room_of None = 0
room_of (Some seed) = 256

-- the program of its device, its parts of the ledger of events, how many it has made, and the cache moves that it still owes
pub record TenderPart : Type 0 where
  pub program : Program
  pub parts : ℕ
  pub events : ℕ
  pub owed : List Event

-- a tender that has made so many moves of those of a run
abbrev pub tender_part : Program → Option ℕ → ℕ → ℕ → ℕ → TenderPart
tender_part program tend parts events made = record { program = program; parts = parts; events = events; owed = drop made (tended_moves program tend 256) }

-- the move is the next one that it owes, of an agent and in a range of its device
pub record Owes (m : CacheMove) (part : TenderPart) : Type 0 where
  pub rest : List Event
  pub next : part.owed ≡ Move m ∷ rest
  pub inside : Moves (agents_of part.program) (sizes_of part.program) m

-- it is made, and no other one
pub record Pays (m : CacheMove) (made : Bool) (old new : TenderPart) : Type 0 where
  pub done : made ≡ true
  pub program : new.program ≡ old.program
  pub parts : new.parts ≡ old.parts
  pub events : new.events ≡ old.events + 1
  pub owed : old.owed ≡ Move m ∷ new.owed

-- it owes the first 256 moves of a seed's tender for its program
pub record OwesAll (seed agents : ℕ) (sizes : List ℕ) (part : TenderPart) : Type 0 where
  pub known : agents ≡ agents_of part.program
  pub long : sizes ≡ sizes_of part.program
  pub owed : part.owed ≡ moves_of seed 256 agents sizes

-- it has made all that it owed, and no other events
pub record PaysAll (old new : TenderPart) : Type 0 where
  pub parts : new.parts ≡ old.parts
  pub none : new.owed ≡ []
  pub events : new.events ≡ old.events + length old.owed

-- OF A HOLDER THAT TELLS ONE

-- of what a holder tells, if it tells it
abbrev pub IfTold : {X : Type 0} → Option X → (X → Type 0) → Type 0
IfTold None P = Unit {0}
IfTold (Some x) P = P x
