-- Frames that were compiled, and devices that have run them.
use Rattle.std.proofs.Common.{◌≡◌, ◌∙◌, ◌++◌, ℕ, List, [], ◌∷◌, length, Bool, false, refl, ap}
use Rattle.check_program.specs.Sound.{IsSound}
use Rattle.compile_file.specs.Compiles.{Compiles}
use Rattle.compile_file.specs.Exports.{exports_text}
use Rattle.frame.specs.Numbered.{numbered}
use Rattle.frame.specs.declared.frame.Frame.{Frame}
use Rattle.compile_record.specs.declared.compiled.Compiled.{Compiled}
use Rattle.report.specs.KeptLines.{run_text}
use Rattle.device_run.proofs.RunLemmas.{runs_on}
use Rattle.device_run.specs.Runs.{HasRun, read_by}
use Rattle.device_model.specs.Devices.{Device}
use Rattle.program.specs.declared.program.Program.{Program}
use Rattle.top.specs.Headline.{Executes, RunsFrame, SummarizesFrame}
use Rattle.top.specs.Replies.{ran}
use Rattle.top.specs.Summaries.{summary_of}
use Rattle.top.specs.Texts.{readbacks_text, traced}
use Rattle.base.specs.declared.run_options.RunOptions.{RunOptions}

pub runs_frame : (options : RunOptions) (trace tight : Bool) (frame : Frame) (made : Compiled Program) (d : Device) (text : List ℕ) → Compiles tight (numbered frame) made → HasRun made.program options.tend d → text ≡ run_text frame made.kept ++ (exports_text frame (read_by d) ++ traced trace d.history) → RunsFrame options trace tight frame (d ∷ []) (ran d text)
runs_frame options trace tight frame made d text compiles has is = record {
  device = d;
  only = refl;
  run = runs_on options.tend tight (numbered frame) made d compiles has;
  whole = ap (ran d) is;
}

pub summarizes_frame : (options : RunOptions) (frame : Frame) (made : Compiled Program) (d : Device) (text : List ℕ) → Compiles false (numbered frame) made → HasRun made.program options.tend d → text ≡ summary_of (numbered frame) made (read_by d) → SummarizesFrame options frame (d ∷ []) (ran d text)
summarizes_frame options frame made d text compiles has is = record {
  device = d;
  only = refl;
  run = runs_on options.tend false (numbered frame) made d compiles has;
  whole = ap (ran d) is;
}

pub executes : (options : RunOptions) (trace : Bool) (program : Program) (d : Device) (text : List ℕ) → IsSound program → HasRun program options.tend d → text ≡ readbacks_text (read_by d) (length d.program.readbacks) ++ traced trace d.history → Executes options trace program (d ∷ []) (ran d text)
executes options trace program d text sound has is = record {
  sound = sound;
  device = d;
  only = refl;
  has_run = has;
  whole = ap (ran d) (is ∙ ap (λ (p : Program). readbacks_text (read_by d) (length p.readbacks) ++ traced trace d.history) has.runs);
}
