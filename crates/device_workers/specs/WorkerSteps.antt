-- What one hold of a worker does to a device.
use Rattle.std.specs.Prelude.{◌≡◌, ◌⊎◌, ℕ, true}
use Rattle.base.specs.declared.event.Event.TheVariants.{Begin, Sync, Host}
use Rattle.check_program.specs.Sound.{IsSound}
use Rattle.device.specs.Carried.{Carries}
use Rattle.device.specs.declared.job.Command.{Command}
use Rattle.device_drive.specs.Firsts.{IsFirst, NothingReady}
use Rattle.check_order.specs.Edges.{is_sync, is_host}
use Rattle.device_model.specs.Devices.{Device, state_of, view_in, did, IsNext, NoneReady, IsComplete}
use Rattle.device_model.specs.Ready.{is_command, kind_at}
use Rattle.device_model.specs.States.{is_begun}
use Rattle.device_workers.specs.declared.step.WorkerStep.{WorkerStep}
use Rattle.device_workers.specs.declared.step.WorkerStep.TheVariants.{Compute, Stepped, Complete, Wait}

-- the node that the worker of a queue takes: the least ready one of that queue, or else of the first queue that has one
abbrev pub IsChosen : Device → ℕ → ℕ → Type 0
IsChosen d own n = IsNext d own n ⊎ ((NoneReady d own) × IsFirst d n)

-- a command is begun, and the job is of it
pub record Begins (old new : Device) (n : ℕ) (job : Command) : Type 0 where
  pub command : is_command (kind_at (view_in old) n) ≡ true
  pub event : new ≡ did old (Begin n)
  pub carries : Carries new n job
  pub begun : is_begun ((state_of new).phase n) ≡ true

-- a barrier, wait or signal is done, or the host has read
abbrev pub Steps : Device → Device → ℕ → Type 0
Steps old new n = ((is_sync (kind_at (view_in old) n) ≡ true) × (new ≡ did old (Sync n))) ⊎ ((is_host (kind_at (view_in old) n) ≡ true) × (new ≡ did old (Host n)))

-- nothing has changed, since nothing can be done before a command ends; where the program is sound one is begun
pub record Waits (old new : Device) : Type 0 where
  pub same : new ≡ old
  pub quiet : NothingReady old
  pub left : IsComplete old → ⊥
  pub begun : IsSound old.program → (n : ℕ) × (is_begun ((state_of old).phase n) ≡ true)

-- the event of a node
abbrev pub Goes : Device → Device → ℕ → WorkerStep → Type 0
Goes old new n (Compute job) = Begins old new n job
Goes old new n Stepped = Steps old new n
Goes old new n Complete = ⊥
Goes old new n Wait = ⊥

-- a hold makes the event of the chosen node, or finds the device complete, or waits
abbrev pub WorkerSteps : Device → Device → ℕ → WorkerStep → Type 0
WorkerSteps old new own (Compute job) = (IsChosen old own job.node) × Begins old new job.node job
WorkerSteps old new own Stepped = (n : ℕ) × ((IsChosen old own n) × Steps old new n)
WorkerSteps old new own Complete = (new ≡ old) × IsComplete old
WorkerSteps old new own Wait = Waits old new
