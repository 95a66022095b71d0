use Rattle.std.proofs.Common.{◌≡◌, ◌++◌, drop}
use Rattle.report.specs.PlaceLines.{place_lines}
use Rattle.report.proofs.place.add_places.Given as goal

abbrev pub invariant-loop-k : goal.invariant-loop-k
invariant-loop-k l = l.text ++ place_lines l.frame l.sizes l.placement.offsets l.k (drop l.k l.units) ≡ l.fn.text ++ place_lines l.frame l.sizes l.placement.offsets 0 l.units
