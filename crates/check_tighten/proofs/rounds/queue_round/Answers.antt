use Rattle.std.proofs.Common.{◌≡◌, ◌∙◌, length, ap, arith}
use Rattle.check_tighten.specs.Internal.Rounds.{BatchDone}
use Rattle.check_tighten.specs.Tightened.{BatchTurn}
use Rattle.check_tighten.proofs.Turning.{turn_on, queue_turn, batches_of}
use Rattle.check_tighten.proofs.Walks.{walked_none_as, walked_after, queue_done}
use Rattle.check_tighten.proofs.rounds.queue_round.Goals as goal

pub loop-batch-init : goal.loop-batch-init
loop-batch-init c = record {
  walked = walked_none_as (BatchDone c.args.queue) c.args.program c.unchanged-now.result.program c.unchanged-now.result.changed c.unchanged-now.ensures.program c.unchanged-now.ensures.changed;
  turns = c.unchanged-now.ensures.program;
}

pub loop-batch-preserved : goal.loop-batch-preserved
loop-batch-preserved c =
    let now = c.loop-batch.now in
    let next = c.in_ok-next.next in
    record {
      walked =
          walked_after (BatchDone c.args.queue) c.args.program now.program next.program c.after-now.result.program now.changed next.changed c.after-now.result.changed c.loop-batch.batch c.loop-batch.invariant.walked c.in_ok-next.ensures.came
          (λ same also. c.in_ok-next.ensures.done also)
          c.after-now.ensures.program c.after-now.ensures.changed;
      turns = turn_on (BatchTurn c.args.queue) c.args.program now.program next.program c.after-now.result.program c.loop-batch.batch c.loop-batch.invariant.turns c.in_ok-next.ensures.turn c.after-now.ensures.program;
    }

pub returns-clause-done : goal.returns-clause-done
returns-clause-done c = λ same. queue_done c.args.program c.args.queue c.batch_count-count.result (λ queue is. c.batch_count-count.ensures ∙ ap length (batches_of c.args.program c.args.queue queue is)) (λ b lt. c.loop-batch.invariant.walked.done same b (omega (arith, lt, c.loop-batch-test.false)))

pub returns-clause-turn : goal.returns-clause-turn
returns-clause-turn c =
    let all : c.loop-batch.batch ≡ c.batch_count-count.result = omega (arith, c.loop-batch-test.false, c.loop-batch.auto.batch-end) in
    queue_turn c.args.queue c.args.program c.loop-batch.now.program c.loop-batch.batch (all ∙ c.batch_count-count.ensures) c.loop-batch.invariant.turns
