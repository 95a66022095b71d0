use Rattle.std.proofs.Common.{◌≡◌, subst, sym}
use Rattle.compile.specs.Submitted.{submitted}
use Rattle.device_model.specs.Devices.{Device}
use Rattle.device_run.specs.Runs.{HasRun, read_by}
use Rattle.frame.specs.Numbered.{numbered}
use Rattle.top.proofs.KeptLemmas.{handed}
use Rattle.top.proofs.RunLemmas.{summarizes_frame}
use Rattle.top.proofs.SummaryLemmas.{summary_is}
use Rattle.top.proofs.summary.summarize_compiled.Goals as goal
use Rattle.top.specs.Headline.{SummarizesFrame}
use Rattle.top.specs.Summaries.{summary_of}

pub exported-total-requires-clause-has_run : goal.exported-total-requires-clause-has_run
exported-total-requires-clause-has_run g c = subst (λ (d : Device). HasRun c.args.made.now.program.program c.args.options.tend d) (sym c.device-2.ensures.device) c.in_ok-device.ensures

pub returns : goal.returns
returns g c = record {
  frame =
      let frame = numbered c.args.good.now in
      let made = submitted c.args.made.now in
      let device = c.in_ok-device.device in
      let text = c.in_ok-text.text in
      let is = summary_is frame made (read_by c.device-2.result.now) c.exported-total.result text c.exported-total.ensures c.in_ok-text.ensures in
      handed c.ran.result _ _ device text (SummarizesFrame c.args.options c.args.good.now) c.ran.ensures.reply c.ran.ensures.kept (summarizes_frame c.args.options c.args.good.now made device text c.requires.compiles c.in_ok-device.ensures
      (subst (λ (d : Device). text ≡ summary_of frame made (read_by d)) c.device-2.ensures.device is));
}
