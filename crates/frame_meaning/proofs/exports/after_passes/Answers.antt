use Rattle.std.proofs.Common.{[], replicate, ap, ◌∙◌}
use Rattle.frame.specs.Numbered.{numbered}
use Rattle.frame_meaning.proofs.Settling.{begun}
use Rattle.frame_meaning.proofs.exports.after_passes.Goals as goal

pub loop-pass-init : goal.loop-pass-init
loop-pass-init c = begun (numbered c.args.frame.now) c.unit_count.ensures.good c.in_ok-held.held (c.in_ok-held.ensures ∙ ap (λ count. replicate count []) c.unit_count.ensures.count)
