use Rattle.std.proofs.Common.{◌≡◌, take, map}
use Rattle.frame.proofs.repeats.written.Given as goal

abbrev pub invariant-loop-write : goal.invariant-loop-write
invariant-loop-write l = l.spots ≡ map (λ x. x.what) (take l.write-index l.writes)
