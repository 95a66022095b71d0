use Rattle.std.proofs.Common.{◌≡◌, ◌≤◌, ◌*◌, drop}
use Rattle.flight.specs.Exported.{own_units, place_from}
use Rattle.flight.proofs.reading.own_place.Given as goal

abbrev pub invariant-loop-good : goal.invariant-loop-good
invariant-loop-good l = record {
  few_units : l.first ≤ 256 * l.good-index;
  few_places : l.place ≤ 32 * l.good-index;
  so_far : place_from l.unit l.place (own_units l.first (drop l.good-index l.frames)) ≡ place_from l.unit 0 (own_units 0 l.frames);
}
