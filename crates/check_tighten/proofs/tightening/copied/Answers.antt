use Rattle.std.proofs.Common.{◌∙◌}
use Rattle.check_tighten.proofs.Judging.{copy_passes}
use Rattle.check_tighten.proofs.tightening.copied.Goals as goal

pub returns-clause-passes : goal.returns-clause-passes
returns-clause-passes c =
    copy_passes c.args.program.now.program c.deref.result.now c.program.result.now c.copy.result c.shaped.ensures.sound c.program.ensures.shaped
    (c.deref.ensures ∙ c.shaped.ensures.program) c.program.ensures.program c.copy.ensures
