-- What is answered of a program that has run on a device: what the host has read of it, and the history of that same device. It is
-- the one device that has run for the answer. What it has read is the same in every run of the program (`every` of HasRun).
use Rattle.std.specs.Prelude.{◌≡◌, ◌++◌, List, [], ◌∷◌, length, Bool, false}
use Rattle.compile_file.specs.Exports.{exports_text}
use Rattle.check_program.specs.Sound.{IsSound}
use Rattle.frame.specs.Numbered.{numbered}
use Rattle.frame.specs.declared.frame.Frame.{Frame}
use Rattle.report.specs.KeptLines.{run_text}
use Rattle.device_model.specs.Devices.{Device}
use Rattle.program.specs.declared.program.Program.{Program}
use Rattle.top.specs.Replies.{ran}
use Rattle.device_run.specs.FrameRuns.{RunsOn}
use Rattle.device_run.specs.Runs.{HasRun, read_by}
use Rattle.top.specs.Summaries.{summary_of}
use Rattle.top.specs.Texts.{readbacks_text, traced}
use Rattle.top.specs.declared.reply.Reply.{Reply}
use Rattle.base.specs.declared.run_options.RunOptions.{RunOptions}

-- The culled passes are named, and for each export stand the bytes that the compiled submissions have left on a device.
pub record RunsFrame (options : RunOptions) (trace tight : Bool) (frame : Frame) (devices : List Device) (reply : Reply) : Type 0 where
  pub device : Device
  pub only : devices ≡ device ∷ []
  pub run : RunsOn options.tend tight (numbered frame) device
  pub whole : reply ≡ ran device (run_text frame run.made.kept ++ (exports_text frame (read_by device) ++ traced trace device.history))

-- The same in numbers.
pub record SummarizesFrame (options : RunOptions) (frame : Frame) (devices : List Device) (reply : Reply) : Type 0 where
  pub device : Device
  pub only : devices ≡ device ∷ []
  pub run : RunsOn options.tend false (numbered frame) device
  pub whole : reply ≡ ran device (summary_of (numbered frame) run.made (read_by device))

-- For each read-back of a sound program stand the bytes that it has left on a device.
pub record Executes (options : RunOptions) (trace : Bool) (program : Program) (devices : List Device) (reply : Reply) : Type 0 where
  pub sound : IsSound program
  pub device : Device
  pub only : devices ≡ device ∷ []
  pub has_run : HasRun program options.tend device
  pub whole : reply ≡ ran device (readbacks_text (read_by device) (length program.readbacks) ++ traced trace device.history)
