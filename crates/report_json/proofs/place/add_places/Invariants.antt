use Rattle.std.proofs.Common.{◌≡◌, ◌++◌, drop}
use Rattle.report_json.specs.Json.{entries}
use Rattle.report_json.specs.Places.{placed_at}
use Rattle.report_json.proofs.place.add_places.Given as goal

abbrev pub invariant-loop-k : goal.invariant-loop-k
invariant-loop-k l = l.text ++ entries (placed_at l.frame l.placement.offsets l.sizes) l.k (drop l.k l.units) ≡ l.fn.text ++ entries (placed_at l.frame l.placement.offsets l.sizes) 0 l.units
