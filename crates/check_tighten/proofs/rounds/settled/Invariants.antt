use Rattle.program.specs.declared.program.Program.{Program}
use Rattle.check_tighten.specs.Internal.Weights.{weight}
use Rattle.check_tighten.specs.Standing.{StandsTo}
use Rattle.check_tighten.specs.Tight.{Passes}
use Rattle.check_tighten.specs.Tightened.{IsTightened}
use Rattle.check_tighten.proofs.rounds.settled.Given as goal

abbrev pub invariant-loop-next : goal.invariant-loop-next
invariant-loop-next l = record {
  passes : Passes l.now;
  stands : (given : Program) → StandsTo given l.fn.program → StandsTo given l.now;
  comes : (tight : Program) → IsTightened l.now tight → IsTightened l.fn.program tight;
}

abbrev pub decreases-loop-next : goal.decreases-loop-next
decreases-loop-next l = weight l.now
