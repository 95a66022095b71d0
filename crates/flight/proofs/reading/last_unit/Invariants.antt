use Rattle.std.proofs.Common.{◌≡◌, ◌≤◌, ◌*◌, drop, None}
use Rattle.flight.specs.Exported.{last_unit}
use Rattle.flight.proofs.reading.last_unit.Given as goal

abbrev pub invariant-loop-good : goal.invariant-loop-good
invariant-loop-good l = record {
  few : l.first ≤ 256 * l.good-index;
  so_far : last_unit l.first l.name l.unit (drop l.good-index l.frames) ≡ last_unit 0 l.name None l.frames;
}
