-- Which lists of events are runs of a program, on memories that began with the bytes of imports, and zeros elsewhere.
use Rattle.std.specs.Prelude.{◌≡◌, ℕ, ◌<◌, List, length, true, false}
use Rattle.base.specs.declared.event.Event.{Event}
use Rattle.device_model.specs.Coming.{left_by, is_enabled_at, AreEnabled, AllCame}
use Rattle.device_model.specs.Devices.{Device, IsComplete}
use Rattle.device_model.specs.Laws.{AllDone}
use Rattle.device_model.specs.States.{is_done}
use Rattle.program.specs.declared.program.Program.{Program}
use Rattle.check_access.specs.Views.{view_of}

-- each event can come in its turn, and at the end all nodes are done
pub record IsRun (program : Program) (events : List Event) : Type 0 where
  pub enabled : AreEnabled program 0 events (length events)
  pub complete : AllDone (view_of program) (left_by program 0 events)

-- what has come on a device that was opened with zeros and has run to its end is a run
abbrev pub HistoriesAreRuns : Type 0
HistoriesAreRuns = (d : Device) → d.fill ≡ 0 → AllCame d → IsComplete d → IsRun d.program d.history

-- the event at this place is the first that cannot come
pub record IsFirstStray (program : Program) (events : List Event) (at : ℕ) : Type 0 where
  pub there : at < length events
  pub before : AreEnabled program 0 events at
  pub stray : is_enabled_at program 0 events at ≡ false

-- each event can come in its turn, and this is the least node that is not done at the end
pub record IsLeastUndone (program : Program) (events : List Event) (node : ℕ) : Type 0 where
  pub enabled : AreEnabled program 0 events (length events)
  pub there : node < length (view_of program).nodes
  pub undone : is_done ((left_by program 0 events).phase node) ≡ false
  pub least : (n : ℕ) → n < node → is_done ((left_by program 0 events).phase n) ≡ true
