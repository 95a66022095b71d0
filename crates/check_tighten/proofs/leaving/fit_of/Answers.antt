use Rattle.std.proofs.Common.{◌∙◌, sym}
use Rattle.check_tighten.proofs.LeftOut.{there, fit_came, fit_tried, fit_turn, fit_done}
use Rattle.check_tighten.specs.Tightened.{OwnAlone}
use Rattle.check_tighten.proofs.Trials.{came_unchanged}
use Rattle.check_tighten.proofs.Turning.{fails_own, tries_none}
use Rattle.check_tighten.proofs.leaving.fit_of.Goals as goal

pub replaced-requires : goal.replaced-requires
replaced-requires c = there c.args.program c.args.place.queue c.args.place.batch c.args.place.at c.args.found.family c.args.found.wait c.requires

pub returns-then-is_fitted : goal.returns-then-is_fitted
returns-then-is_fitted c = record {
  came = came_unchanged c.args.program c.unchanged.result.program c.unchanged.result.changed c.unchanged.ensures.program c.unchanged.ensures.changed;
  tried = λ same. fit_done c.args.program c.args.place.queue c.args.place.batch c.args.place.at c.args.found.family c.args.found.wait c.requires (sym c.is_fitted.ensures ∙ c.if-is_fitted.true);
  turn = tries_none (OwnAlone c.args.place.queue c.args.place.batch c.args.place.at) c.args.program c.unchanged.result.program (fails_own c.args.program c.args.place.queue c.args.place.batch c.args.place.at (fit_done c.args.program c.args.place.queue c.args.place.batch c.args.place.at c.args.found.family c.args.found.wait c.requires (sym c.is_fitted.ensures ∙ c.if-is_fitted.true))) c.unchanged.ensures.program;
}

pub returns-else-is_fitted : goal.returns-else-is_fitted
returns-else-is_fitted c =
    let wait = c.fitted-wait in
    record {
      came = fit_came c.args.program c.args.place.queue c.args.place.batch c.args.place.at c.args.found.family c.args.found.wait c.requires wait.result wait.ensures c.replaced.result (sym c.is_fitted.ensures ∙ c.if-is_fitted.false) c.replaced.ensures;
      tried = fit_tried c.args.program c.args.place.queue c.args.place.batch c.args.place.at c.args.found.family c.args.found.wait c.requires wait.result wait.ensures c.replaced.result c.replaced.ensures;
      turn = fit_turn c.args.program c.args.place.queue c.args.place.batch c.args.place.at c.args.found.family c.args.found.wait c.requires wait.result wait.ensures c.replaced.result (sym c.is_fitted.ensures ∙ c.if-is_fitted.false) c.replaced.ensures;
    }
