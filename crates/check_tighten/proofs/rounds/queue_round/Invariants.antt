use Rattle.check_tighten.specs.Internal.Rounds.{BatchDone, Walked}
use Rattle.check_tighten.specs.Tightened.{InTurn, BatchTurn}
use Rattle.check_tighten.proofs.rounds.queue_round.Given as goal

abbrev pub invariant-loop-batch : goal.invariant-loop-batch
invariant-loop-batch l = record {
  walked : Walked (BatchDone l.queue) l.fn.program l.now.program l.now.changed l.batch;
  turns : InTurn (BatchTurn l.queue) l.batch l.fn.program l.now.program;
}
