use Rattle.std.proofs.Common.{◌≡◌, ◌+◌, drop, map}
use Rattle.flight.specs.Exported.{place_from}
use Rattle.flight.proofs.reading.place_in.Given as goal

abbrev pub invariant-loop-k : goal.invariant-loop-k
invariant-loop-k l = place_from l.unit (l.place + l.k) (map (λ x. l.first + x) (drop l.k l.exports)) ≡ place_from l.unit l.place (map (λ x. l.first + x) l.exports)
