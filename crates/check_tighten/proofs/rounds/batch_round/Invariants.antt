use Rattle.std.proofs.Common.{◌≡◌, ◌≤◌, false}
use Rattle.check_tighten.specs.Internal.Rounds.{WaitDone, Walked}
use Rattle.check_tighten.specs.Tightened.{WaitsTurn}
use Rattle.check_tighten.proofs.rounds.batch_round.Given as goal

abbrev pub invariant-loop-step : goal.invariant-loop-step
invariant-loop-step l = record {
  walked : Walked (WaitDone l.queue l.batch) l.fn.program l.now.program l.now.changed l.step;
  within : l.at ≤ l.step;
  each : l.now.changed ≡ false → l.at ≡ l.step;
  turn : WaitsTurn l.queue l.batch l.step l.fn.program l.now.program l.at;
}
