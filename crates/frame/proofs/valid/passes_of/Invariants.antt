use Rattle.std.proofs.Common.{◌≡◌, map}
use Rattle.frame.proofs.valid.passes_of.Given as goal

abbrev pub invariant-loop-one : goal.invariant-loop-one
invariant-loop-one l = l.passes ≡ map (λ u. u.pass) l.yielded
