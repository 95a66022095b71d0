use Rattle.std.proofs.Common.{◌≡◌, map, take}
use Rattle.frame_cull.specs.Versions.{row_of, latest}
use Rattle.frame_cull.proofs.makers.Makers.all_latest.Given as goal

abbrev pub invariant-loop-unit : goal.invariant-loop-unit
invariant-loop-unit l = l.numbers ≡ map (λ unit. latest (row_of l.self unit)) (take l.unit-index l.units)
