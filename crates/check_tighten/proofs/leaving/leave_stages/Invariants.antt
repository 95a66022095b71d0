use Rattle.check_tighten.specs.Internal.Rounds.{StageNumberTried, Walked}
use Rattle.check_tighten.specs.Tightened.{InTurn, StageTurn}
use Rattle.check_tighten.proofs.leaving.leave_stages.Given as goal

abbrev pub invariant-loop-i : goal.invariant-loop-i
invariant-loop-i l = record {
  walked : Walked (StageNumberTried l.place.queue l.place.batch l.place.at) l.fn.program l.now.program l.now.changed l.i;
  turns : InTurn (StageTurn l.place.queue l.place.batch l.place.at) l.i l.fn.program l.now.program;
}
