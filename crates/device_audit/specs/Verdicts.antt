-- What a verdict on a trace says.
use Rattle.std.specs.Prelude.{◌≡◌, ℕ, ◌<◌, List, length, Bool, true, false}
use Rattle.device_audit.specs.Runs.{IsRun, IsFirstStray, IsLeastUndone}
use Rattle.device_audit.specs.declared.verdict.Verdict.{Verdict}
use Rattle.device_audit.specs.declared.verdict.Verdict.TheVariants.{Run, NotEnabled, Unfinished}
use Rattle.base.specs.declared.event.Event.{Event}
use Rattle.device_model.specs.Devices.{Device, state_of, ReadsApart}
use Rattle.device_model.specs.Ready.{read_node}
use Rattle.program.specs.declared.program.Program.{Program}

-- the device of a program on which exactly these events have come, opened with zeros
abbrev pub ran : Program → List Event → Device
ran program events = record { program = program; fill = 0; history = events; moves = 0 }

pub record IsRunOn (program : Program) (events : List Event) (device : Device) : Type 0 where
  pub run : IsRun program events
  pub same : device ≡ ran program events

abbrev pub Says : Program → List Event → Verdict → Type 0
Says program events (Run device) = IsRunOn program events device
Says program events (NotEnabled at) = IsFirstStray program events at
Says program events (Unfinished node) = IsLeastUndone program events node

abbrev pub is_run : Verdict → Bool
is_run (Run device) = true
is_run (NotEnabled at) = false
is_run (Unfinished node) = false

abbrev pub IfRun : (Device → Type 0) → Verdict → Type 0
IfRun P (Run device) = P device
IfRun P (NotEnabled at) = Unit {0}
IfRun P (Unfinished node) = Unit {0}

-- each read-back has the bytes that it has where all commands run one after another, in every order of the nodes
abbrev pub AllReadApart : Device → Type 0
AllReadApart d = (k : ℕ) → k < length d.program.readbacks → ReadsApart d k ((state_of d).host (read_node d.program k))
