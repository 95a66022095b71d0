use Rattle.check_tighten.proofs.Judging.{sound_passes}
use Rattle.check_tighten.proofs.trial.judge_shaped.Goals as goal

pub returns : goal.returns
returns c = (c.into_program.ensures.program, sound_passes c.args.shaped c.in_ok-passes.passes c.requires c.in_ok-passes.ensures)
