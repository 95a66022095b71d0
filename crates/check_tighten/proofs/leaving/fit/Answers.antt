use Rattle.check_tighten.proofs.LeftOut.{no_fit}
use Rattle.check_tighten.specs.Tightened.{OwnAlone}
use Rattle.check_tighten.proofs.Trials.{came_unchanged}
use Rattle.check_tighten.proofs.Turning.{fails_own, tries_none}
use Rattle.check_tighten.proofs.leaving.fit.Goals as goal

pub returns-in-None : goal.returns-in-None
returns-in-None c = record {
  came = came_unchanged c.args.program c.unchanged.result.program c.unchanged.result.changed c.unchanged.ensures.program c.unchanged.ensures.changed;
  tried = λ same. no_fit c.args.program c.args.place.queue c.args.place.batch c.args.place.at c.in-None.ensures;
  turn = tries_none (OwnAlone c.args.place.queue c.args.place.batch c.args.place.at) c.args.program c.unchanged.result.program (fails_own c.args.program c.args.place.queue c.args.place.batch c.args.place.at (no_fit c.args.program c.args.place.queue c.args.place.batch c.args.place.at c.in-None.ensures)) c.unchanged.ensures.program;
}
