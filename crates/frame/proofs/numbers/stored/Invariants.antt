use Rattle.std.proofs.Common.{◌≡◌, take, map}
use Rattle.frame.specs.Numbered.{stored_of}
use Rattle.frame.proofs.numbers.stored.Given as goal

abbrev pub invariant-loop-write : goal.invariant-loop-write
invariant-loop-write l = l.entries ≡ map (stored_of l.table) (take l.write-index l.writes)
