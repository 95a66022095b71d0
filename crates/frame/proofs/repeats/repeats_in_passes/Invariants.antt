use Rattle.std.proofs.Common.{◌≡◌, drop}
use Rattle.base.specs.Walks.{first_in}
use Rattle.frame.proofs.repeats.repeats_in_passes.Given as goal
use Rattle.frame.specs.Repeats.{repeats_in}

abbrev pub invariant-loop-p : goal.invariant-loop-p
invariant-loop-p l = first_in (repeats_in l.names) l.p (drop l.p l.passes) ≡ first_in (repeats_in l.names) 0 l.passes
