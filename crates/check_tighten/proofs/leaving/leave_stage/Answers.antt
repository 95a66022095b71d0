use Rattle.check_tighten.proofs.LeftOut.{no_stage}
use Rattle.check_tighten.specs.Tightened.{LessStage}
use Rattle.check_tighten.proofs.Trials.{came_unchanged}
use Rattle.check_tighten.proofs.Turning.{fails_stage, tries_none}
use Rattle.check_tighten.proofs.leaving.leave_stage.Goals as goal

pub returns-in-None : goal.returns-in-None
returns-in-None c = record {
  came = came_unchanged c.args.program c.unchanged.result.program c.unchanged.result.changed c.unchanged.ensures.program c.unchanged.ensures.changed;
  tried = λ same. no_stage c.args.program c.args.place.queue c.args.place.batch c.args.place.at c.in-None.ensures c.args.stage.0;
  turn = tries_none (LessStage c.args.place.queue c.args.place.batch c.args.place.at c.args.stage.0) c.args.program c.unchanged.result.program (fails_stage c.args.program c.args.place.queue c.args.place.batch c.args.place.at c.args.stage.0 (no_stage c.args.program c.args.place.queue c.args.place.batch c.args.place.at c.in-None.ensures c.args.stage.0)) c.unchanged.ensures.program;
}
