use Rattle.std.proofs.Common.{subst}
use Rattle.check_tighten.specs.Internal.Rounds.{FitTried}
use Rattle.check_tighten.proofs.Turning.{stages_turn}
use Rattle.check_tighten.proofs.Walks.{came_after, first_same, second_same}
use Rattle.check_tighten.proofs.leaving.fewer_stages.Goals as goal

pub returns : goal.returns
returns c =
    let left = c.in_ok-left.left in
    let next = c.in_ok-next.next in
    let done = c.after.result in
    let walked = c.in_ok-left.ensures.walked in
    record {
      came = came_after c.args.program left.program next.program done.program left.changed next.changed done.changed walked.came c.in_ok-next.ensures.came c.after.ensures.program c.after.ensures.changed;
      stages = λ same. walked.done (first_same left.changed next.changed done.changed c.after.ensures.changed same);
      fit = λ same. subst (λ p. FitTried p c.args.place.queue c.args.place.batch c.args.place.at) (walked.came.same (first_same left.changed next.changed done.changed c.after.ensures.changed same)) (c.in_ok-next.ensures.tried (second_same left.changed next.changed done.changed c.after.ensures.changed same));
      turn = stages_turn c.args.place.queue c.args.place.batch c.args.place.at c.args.program left.program next.program done.program c.in_ok-left.ensures.turns c.in_ok-next.ensures.turn c.after.ensures.program;
    }
