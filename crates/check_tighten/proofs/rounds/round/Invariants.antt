use Rattle.check_tighten.specs.Internal.Rounds.{QueueDone, Walked}
use Rattle.check_tighten.specs.Tightened.{InTurn, QueueTurn}
use Rattle.check_tighten.proofs.rounds.round.Given as goal

abbrev pub invariant-loop-queue : goal.invariant-loop-queue
invariant-loop-queue l = record {
  walked : Walked QueueDone l.fn.program l.now.program l.now.changed l.queue;
  turns : InTurn QueueTurn l.queue l.fn.program l.now.program;
}
