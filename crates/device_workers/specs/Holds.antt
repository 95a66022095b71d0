-- What holds do to the device of a holder that tells which one it has.
use Rattle.std.specs.Prelude.{◌≡◌, ◌≤◌, ◌<◌, ◌↔◌, ℕ, Bool, true, List, Option, Some, None, if◌then◌else◌}
use Rattle.base.specs.declared.cache_move.CacheMove.{CacheMove}
use Rattle.base.specs.declared.event.Event.TheVariants.{End, Move}
use Rattle.device_cache.specs.Draws.{Moves, moves_of}
use Rattle.device_drive.specs.Tended.{agents_of, sizes_of}
use Rattle.device_model.specs.Devices.{Device, state_of, did, IsComplete, NoneBegun}
use Rattle.device_model.specs.Histories.{moved, Went}
use Rattle.device_model.specs.States.{is_begun}
use Rattle.device_workers.specs.WorkerSteps.{WorkerSteps}
use Rattle.device_workers.specs.declared.step.WorkerStep.{WorkerStep}

-- of what a holder tells before and after, if it tells it
abbrev pub Both : {X : Type 0} → Option X → Option X → (X → X → Type 0) → Type 0
Both None None P = Unit {0}
Both None (Some e) P = ⊥
Both (Some d) None P = ⊥
Both (Some d) (Some e) P = P d e

abbrev pub StepsTo : Option Device → Option Device → ℕ → WorkerStep → Type 0
StepsTo old new own step = Both old new (λ d e. WorkerSteps d e own step)

-- a begun command ends; else nothing changes
abbrev pub Lands : Device → Device → ℕ → Type 0
Lands old new n = new ≡ (if is_begun ((state_of old).phase n) then did old (End n) else old)

abbrev pub LandsTo : Option Device → Option Device → ℕ → Type 0
LandsTo old new n = Both old new (λ d e. Lands d e n)

-- a move is left, and the device has that agent and range
pub record MayMake (d : Device) (m : CacheMove) : Type 0 where
  pub left : 0 < d.moves
  pub move : Moves (agents_of d.program) (sizes_of d.program) m

pub record Tends (old new : Device) (m : CacheMove) (made : Bool) : Type 0 where
  pub may : (made ≡ true) ↔ MayMake old m
  pub effect : new ≡ (if made then moved old (Move m) else old)

abbrev pub TendsTo : Option Device → Option Device → CacheMove → Bool → Type 0
TendsTo old new m made = Both old new (λ d e. Tends d e m made)

-- holds of the worker of a queue, one after another, and no others
pub data Works (own : ℕ) : Device → Device → Type 0 where
  here : {d : Device} → Works own d d
  by_step : {d e f : Device} (step : WorkerStep) → Works own d e → WorkerSteps e f own step → Works own d f
  by_end : {d e f : Device} (n : ℕ) → Works own d e → Lands e f n → Works own d f

abbrev pub WorksTo : Option Device → Option Device → ℕ → Type 0
WorksTo old new own = Both old new (λ d e. Works own d e)

-- all nodes are done at the end
abbrev pub EndsComplete : Option Device → Option Device → Type 0
EndsComplete old new = Both old new (λ d e. IsComplete e)

-- nothing of it is begun at the end, where nothing was
abbrev pub LeavesNone : Option Device → Option Device → Type 0
LeavesNone old new = Both old new (λ d e. NoneBegun d → NoneBegun e)

-- where a tender asks for moves of the program of the device, and enough are left, exactly its first 256 have been made
abbrev pub TendsAll : Option Device → Option Device → ℕ → ℕ → List ℕ → Type 0
TendsAll old new seed agents sizes = Both old new (λ d e. agents ≡ agents_of d.program → sizes ≡ sizes_of d.program → 256 ≤ d.moves → Went d e (moves_of seed 256 agents sizes))
