use Rattle.std.proofs.Common.{ap, ◌∙◌, get_or, List, ℕ}
use Rattle.base.specs.Applied.{bytes_at}
use Rattle.report.specs.Exports.{export_text}
use Rattle.compile_file.proofs.Turns.{one_more}
use Rattle.answer.proofs.meaning.add_all.Goals as goal
use Rattle.answer.specs.Internal.Stages.{bytes_in}

pub loop-k-preserved : goal.loop-k-preserved
loop-k-preserved c =
    one_more (λ k. export_text c.args.good.now k (bytes_in c.args.good.now c.args.exports.now k)) c.loop-k.k c.args.text.now c.loop-k.text _ c.export_text.new.text c.loop-k.invariant (ap (export_text c.args.good.now c.loop-k.k) (c.get.ensures ∙ ap (λ (us : List ℕ). bytes_at c.args.exports.now (get_or us c.loop-k.k 0)) c.exports-unit-items.ensures.exports)) c.in_ok-export_text.ensures.ok
