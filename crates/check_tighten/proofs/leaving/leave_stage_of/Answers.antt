use Rattle.std.proofs.Common.{◌∙◌, sym}
use Rattle.check_tighten.proofs.LeftOut.{there, stage_came, stage_tried, stage_turn, stage_absent}
use Rattle.check_tighten.specs.Tightened.{LessStage}
use Rattle.check_tighten.proofs.Trials.{came_unchanged}
use Rattle.check_tighten.proofs.Turning.{fails_stage, tries_none}
use Rattle.check_tighten.proofs.leaving.leave_stage_of.Goals as goal

pub replaced-requires : goal.replaced-requires
replaced-requires c = there c.args.program c.args.place.queue c.args.place.batch c.args.place.at c.args.found.family c.args.found.wait c.requires.found

pub returns-then-has_own : goal.returns-then-has_own
returns-then-has_own c =
    let wait = c.without_stage-wait in
    record {
      came = stage_came c.args.program c.args.place.queue c.args.place.batch c.args.place.at c.args.found.family c.args.found.wait c.requires.found c.args.stage.0 wait.result wait.ensures c.replaced.result c.requires.single (sym c.has_own.ensures ∙ c.if-has_own.true) c.replaced.ensures;
      tried = stage_tried c.args.program c.args.place.queue c.args.place.batch c.args.place.at c.args.found.family c.args.found.wait c.requires.found c.args.stage.0 wait.result wait.ensures c.replaced.result c.replaced.ensures;
      turn = stage_turn c.args.program c.args.place.queue c.args.place.batch c.args.place.at c.args.found.family c.args.found.wait c.requires.found c.args.stage.0 wait.result wait.ensures c.replaced.result (sym c.has_own.ensures ∙ c.if-has_own.true) c.replaced.ensures;
    }

pub returns-else-has_own : goal.returns-else-has_own
returns-else-has_own c = record {
  came = came_unchanged c.args.program c.unchanged.result.program c.unchanged.result.changed c.unchanged.ensures.program c.unchanged.ensures.changed;
  tried = λ same. stage_absent c.args.program c.args.place.queue c.args.place.batch c.args.place.at c.args.found.family c.args.found.wait c.requires.found c.args.stage.0 (sym c.has_own.ensures ∙ c.if-has_own.false);
  turn = tries_none (LessStage c.args.place.queue c.args.place.batch c.args.place.at c.args.stage.0) c.args.program c.unchanged.result.program (fails_stage c.args.program c.args.place.queue c.args.place.batch c.args.place.at c.args.stage.0 (stage_absent c.args.program c.args.place.queue c.args.place.batch c.args.place.at c.args.found.family c.args.found.wait c.requires.found c.args.stage.0 (sym c.has_own.ensures ∙ c.if-has_own.false))) c.unchanged.ensures.program;
}
