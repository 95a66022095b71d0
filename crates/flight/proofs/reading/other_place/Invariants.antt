use Rattle.std.proofs.Common.{◌≡◌, ◌≤◌, ◌+◌, drop}
use Rattle.flight.specs.Exported.{last_units, own_units, place_from}
use Rattle.law_window.specs.Window.{others}
use Rattle.flight.proofs.reading.other_place.Given as goal

abbrev pub invariant-loop-name : goal.invariant-loop-name
invariant-loop-name l = record {
  few : l.place ≤ l.start + l.name-index;
  so_far : place_from l.unit l.place (others (own_units 0 l.frames) (last_units (drop l.name-index l.persist) l.frames)) ≡ place_from l.unit l.start (others (own_units 0 l.frames) (last_units l.persist l.frames));
}
