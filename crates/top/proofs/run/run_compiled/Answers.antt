use Rattle.std.proofs.Common.{◌≡◌, ◌++◌, sym, subst}
use Rattle.compile_file.specs.Exports.{exports_text}
use Rattle.device_model.specs.Devices.{Device, IsComplete}
use Rattle.device_run.specs.Runs.{read_by}
use Rattle.report.specs.KeptLines.{run_text}
use Rattle.top.specs.Texts.{traced}
use Rattle.top.proofs.KeptLemmas.{handed}
use Rattle.compile.specs.Submitted.{submitted}
use Rattle.top.proofs.RunLemmas.{runs_frame}
use Rattle.top.proofs.run.run_compiled.Goals as goal
use Rattle.top.specs.Headline.{RunsFrame}

pub frame_text-requires-clause-complete : goal.frame_text-requires-clause-complete
frame_text-requires-clause-complete g c = subst IsComplete (sym c.device-2.ensures.device) c.device-2.ensures.complete

pub returns : goal.returns
returns g c = record {
  frame = λ tight. λ compiles.
      let device = c.in_ok-device.device in
      let text = c.in_ok-text.text in
      handed c.ran.result _ _ device text (RunsFrame c.args.options c.args.trace tight c.args.good.now) c.ran.ensures.reply c.ran.ensures.kept (runs_frame c.args.options c.args.trace tight c.args.good.now (submitted c.args.made.now) device text compiles c.in_ok-device.ensures
      (subst (λ (d : Device). text ≡ run_text c.args.good.now c.args.made.now.kept ++ (exports_text c.args.good.now (read_by d) ++ traced c.args.trace d.history)) c.device-2.ensures.device c.in_ok-text.ensures));
}
