use Rattle.std.proofs.Common.{IfOk, subst}
use Rattle.device_run.specs.Keepers.{Kept}
use Rattle.frame.specs.declared.frame.Frame.{Frame}
use Rattle.top.proofs.summary.summarize.Goals as goal
use Rattle.top.specs.Headline.{SummarizesFrame}

pub returns : goal.returns
returns g c = record {
  frame =
      let kept = g.K.Keep.kept in
      subst (λ (f : Frame). IfOk c.summarize_frame.result (λ reply. Kept (kept c.args.keeper.now) (kept c.summarize_frame.new.keeper) (λ devices. SummarizesFrame c.args.options f devices reply))) c.in_ok-good.ensures c.summarize_frame.ensures.frame;
}
