use Rattle.std.proofs.Common.{◌∙◌, sym}
use Rattle.base.proofs.Booleans.{clash}
use Rattle.check_tighten.proofs.LeftOut.{there, left_came, left_tried, left_succeeds, no_wait}
use Rattle.check_tighten.proofs.Trials.{came_unchanged}
use Rattle.check_tighten.proofs.leaving.leave_wait.Goals as goal

pub without-requires : goal.without-requires
without-requires c = there c.args.program c.args.place.queue c.args.place.batch c.args.place.at c.in-Some.field-0.family c.in-Some.field-0.wait c.in-Some.ensures

pub returns-in-Some : goal.returns-in-Some
returns-in-Some c =
    let family = c.in-Some.field-0.family in
    let wait = c.in-Some.field-0.wait in
    record {
      came = left_came c.args.program c.args.place.queue c.args.place.batch c.args.place.at family wait c.in-Some.ensures c.without.result c.without.ensures;
      tried = left_tried c.args.program c.args.place.queue c.args.place.batch c.args.place.at family wait c.in-Some.ensures c.without.result c.without.ensures;
      left = left_succeeds c.args.program c.args.place.queue c.args.place.batch c.args.place.at family wait c.in-Some.ensures c.without.result c.without.ensures;
    }

pub returns-in-None : goal.returns-in-None
returns-in-None c = record {
  came = came_unchanged c.args.program c.unchanged.result.program c.unchanged.result.changed c.unchanged.ensures.program c.unchanged.ensures.changed;
  tried = λ same. no_wait c.args.program c.args.place.queue c.args.place.batch c.args.place.at c.in-None.ensures;
  left = λ changed. absurd (clash (sym c.unchanged.ensures.changed ∙ changed));
}
