use Rattle.std.proofs.Common.{◌≡◌, ◌∙◌, ◌+◌, length, ap, subst, arith}
use Rattle.check_tighten.specs.Internal.Rounds.{WaitDone}
use Rattle.check_tighten.proofs.Turning.{waits_on, waits_of, batch_turn}
use Rattle.check_tighten.proofs.Walks.{walked_after, first_same, second_same, batch_done}
use Rattle.check_tighten.proofs.rounds.batch_round.Goals as goal

pub loop-step-preserved : goal.loop-step-preserved
loop-step-preserved c =
    let now = c.loop-step.now in
    let attempt = c.in_ok-attempt.attempt in
    let trial = attempt.trial in
    let to = c.after-now.result in
    let held = c.loop-step.invariant in
    record {
      walked =
          walked_after (WaitDone c.args.queue c.args.batch) c.args.program now.program trial.program to.program now.changed trial.changed to.changed c.loop-step.step held.walked c.in_ok-attempt.ensures.came
          (λ same also. subst (WaitDone c.args.queue c.args.batch now.program) (held.each same) (c.in_ok-attempt.ensures.done also))
          c.after-now.ensures.program c.after-now.ensures.changed;
      within = omega (arith, c.in_ok-attempt.ensures.next, held.within);
      each = λ same.
          let last : attempt.next ≡ c.loop-step.at + 1 = c.in_ok-attempt.ensures.last (second_same now.changed trial.changed to.changed c.after-now.ensures.changed same) in
          let each : c.loop-step.at ≡ c.loop-step.step = held.each (first_same now.changed trial.changed to.changed c.after-now.ensures.changed same) in
          omega (arith, last, each);
      turn = waits_on c.args.queue c.args.batch c.args.program now.program trial.program to.program c.loop-step.step c.loop-step.at attempt.next held.turn c.in_ok-attempt.ensures.turn c.after-now.ensures.program;
    }

pub returns-clause-done : goal.returns-clause-done
returns-clause-done c = λ same. batch_done c.args.program c.args.queue c.args.batch c.wait_count-count.result (λ queue batch at. c.wait_count-count.ensures ∙ ap length (waits_of c.args.program c.args.queue c.args.batch queue batch at)) (λ k lt. c.loop-step.invariant.walked.done same k (omega (arith, lt, c.loop-step-test.false)))

pub returns-clause-turn : goal.returns-clause-turn
returns-clause-turn c =
    let all : c.loop-step.step ≡ c.wait_count-count.result = omega (arith, c.loop-step-test.false, c.loop-step.auto.step-end) in
    batch_turn c.args.queue c.args.batch c.args.program c.loop-step.now.program c.loop-step.step c.loop-step.at (all ∙ c.wait_count-count.ensures) c.loop-step.invariant.turn
