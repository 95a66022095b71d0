use Rattle.std.proofs.Common.{◌≡◌, ◌∙◌, Some, subst, sym, arith}
use Rattle.check_tighten.specs.Internal.Rounds.{StageNumberTried, StageTried, Walked}
use Rattle.check_tighten.specs.Tightened.{InTurn, StageTurn}
use Rattle.check_tighten.proofs.Turning.{turn_on}
use Rattle.check_tighten.proofs.Walks.{walked_none_as, walked_after}
use Rattle.check_tighten.proofs.leaving.leave_stages.Goals as goal

pub loop-i-init : goal.loop-i-init
loop-i-init c = record {
  walked = walked_none_as (StageNumberTried c.args.place.queue c.args.place.batch c.args.place.at) c.args.program c.unchanged-now.result.program c.unchanged-now.result.changed c.unchanged-now.ensures.program c.unchanged-now.ensures.changed;
  turns = c.unchanged-now.ensures.program;
}

pub loop-i-preserved : goal.loop-i-preserved
loop-i-preserved c =
    let now = c.loop-i.now in
    let next = c.in_ok-next.next in
    let to = c.after-now.result in
    record {
      walked =
          walked_after (StageNumberTried c.args.place.queue c.args.place.batch c.args.place.at) c.args.program now.program next.program to.program now.changed next.changed to.changed c.loop-i.i c.loop-i.invariant.walked c.in_ok-next.ensures.came
          (λ same also stage is. let e : Some c.single_stage.result.0 ≡ Some stage = sym c.single_stage.ensures ∙ is in let f : c.single_stage.result.0 ≡ stage = cc in subst (StageTried now.program c.args.place.queue c.args.place.batch c.args.place.at) f (c.in_ok-next.ensures.tried also))
          c.after-now.ensures.program c.after-now.ensures.changed;
      turns = turn_on (StageTurn c.args.place.queue c.args.place.batch c.args.place.at) c.args.program now.program next.program to.program c.loop-i.i c.loop-i.invariant.turns (c.single_stage.result.0, c.single_stage.ensures, c.in_ok-next.ensures.turn) c.after-now.ensures.program;
    }

pub returns : goal.returns
returns c =
    let all : c.loop-i.i ≡ 5 = omega (arith, c.loop-i-test.false, c.loop-i.auto.i-end) in
    record {
      walked = subst (Walked (StageNumberTried c.args.place.queue c.args.place.batch c.args.place.at) c.args.program c.loop-i.now.program c.loop-i.now.changed) all c.loop-i.invariant.walked;
      turns = subst (λ i. InTurn (StageTurn c.args.place.queue c.args.place.batch c.args.place.at) i c.args.program c.loop-i.now.program) all c.loop-i.invariant.turns;
    }
