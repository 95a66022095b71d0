use Rattle.std.proofs.Common.{◌≡◌, take, map}
use Rattle.frame.proofs.repeats.pass_names.Given as goal

abbrev pub invariant-loop-pass : goal.invariant-loop-pass
invariant-loop-pass l = l.names ≡ map (λ x. x.name) (take l.pass-index l.frame.passes)
