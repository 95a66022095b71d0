use Rattle.std.proofs.Common.{sym, subst}
use Rattle.answer.proofs.ExportLemmas.{means_frame}
use Rattle.answer.proofs.meaning.mean_frame.Goals as goal
use Rattle.answer.specs.Answers.{MeansFrame}

pub returns : goal.returns
returns c = record {
  frame =
      subst (MeansFrame c.args.good.now) (sym c.done.ensures) (means_frame c.args.good.now c.in_ok-exports.exports c.in_ok-text.text c.in_ok-exports.ensures.bytes c.in_ok-text.ensures);
}
