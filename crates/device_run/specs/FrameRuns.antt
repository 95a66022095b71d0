-- A frame that has run on a device.
use Rattle.std.specs.Prelude.{ℕ, Bool, Option}
use Rattle.frame.specs.Numbered.{NumberedFrame}
use Rattle.compile_record.specs.declared.compiled.Compiled.{Compiled}
use Rattle.compile_file.specs.Compiles.{Compiles}
use Rattle.device_run.specs.Runs.{HasRun, read_by}
use Rattle.frame_meaning.specs.Meaning.{AreMeant}
use Rattle.device_model.specs.Devices.{Device}
use Rattle.program.specs.declared.program.Program.{Program}

-- A frame is compiled, and the program has run on the device. Its read-backs have the bytes that all declared passes come to, one
-- after another on separate resources.
pub record RunsOn (tend : Option ℕ) (tight : Bool) (frame : NumberedFrame) (device : Device) : Type 0 where
  pub made : Compiled Program
  pub compiles : Compiles tight frame made
  pub has_run : HasRun made.program tend device
  pub meant : AreMeant frame (read_by device)
