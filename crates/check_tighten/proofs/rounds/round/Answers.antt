use Rattle.std.proofs.Common.{◌≡◌, ◌∙◌, arith}
use Rattle.check_tighten.specs.Internal.Rounds.{QueueDone}
use Rattle.check_tighten.specs.Tightened.{QueueTurn}
use Rattle.check_tighten.proofs.Turning.{turn_on, round_turn}
use Rattle.check_tighten.proofs.Walks.{walked_none_as, walked_after, all_done}
use Rattle.check_tighten.proofs.rounds.round.Goals as goal

pub loop-queue-init : goal.loop-queue-init
loop-queue-init c = record {
  walked = walked_none_as QueueDone c.args.program c.unchanged-now.result.program c.unchanged-now.result.changed c.unchanged-now.ensures.program c.unchanged-now.ensures.changed;
  turns = c.unchanged-now.ensures.program;
}

pub loop-queue-preserved : goal.loop-queue-preserved
loop-queue-preserved c =
    let now = c.loop-queue.now in
    let next = c.in_ok-next.next in
    record {
      walked =
          walked_after QueueDone c.args.program now.program next.program c.after-now.result.program now.changed next.changed c.after-now.result.changed c.loop-queue.queue c.loop-queue.invariant.walked c.in_ok-next.ensures.came
          (λ same also. c.in_ok-next.ensures.done also)
          c.after-now.ensures.program c.after-now.ensures.changed;
      turns = turn_on QueueTurn c.args.program now.program next.program c.after-now.result.program c.loop-queue.queue c.loop-queue.invariant.turns c.in_ok-next.ensures.turn c.after-now.ensures.program;
    }

pub returns-clause-done : goal.returns-clause-done
returns-clause-done c = λ same. all_done c.args.program c.len-count.result c.len-count.ensures (λ q lt. c.loop-queue.invariant.walked.done same q (omega (arith, lt, c.loop-queue-test.false)))

pub returns-clause-turn : goal.returns-clause-turn
returns-clause-turn c =
    let all : c.loop-queue.queue ≡ c.len-count.result = omega (arith, c.loop-queue-test.false, c.loop-queue.auto.queue-end) in
    round_turn c.args.program c.loop-queue.now.program c.loop-queue.queue (all ∙ c.len-count.ensures) c.loop-queue.invariant.turns
