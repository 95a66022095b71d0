use Rattle.std.proofs.Common.{◌≡◌, ◌≤◌, ◌+◌, ◌*◌, drop}
use Rattle.flight.specs.Exported.{exports_in}
use Rattle.flight.proofs.reading.exports_in.Given as goal

abbrev pub invariant-loop-good : goal.invariant-loop-good
invariant-loop-good l = record {
  few : l.count ≤ 32 * l.good-index;
  so_far : l.count + exports_in (drop l.good-index l.frames) ≡ exports_in l.frames;
}
