use Rattle.std.proofs.Common.{◌≡◌, replicate, []}
use Rattle.frame_meaning.proofs.bytes.Bytes.none.Given as goal

abbrev pub invariant-loop : goal.invariant-loop
invariant-loop l = l.units.items ≡ replicate l.counter []
