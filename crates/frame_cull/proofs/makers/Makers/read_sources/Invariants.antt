use Rattle.std.proofs.Common.{◌≡◌, ◌++◌, drop}
use Rattle.std.specs.List.{filter_map}
use Rattle.frame_cull.specs.Versions.{row_of, latest_maker}
use Rattle.frame_cull.proofs.makers.Makers.read_sources.Given as goal

abbrev pub invariant-loop-unit : goal.invariant-loop-unit
invariant-loop-unit l = l.sources ++ filter_map (λ unit. latest_maker (row_of l.self unit)) (drop l.unit-index l.units) ≡ l.fn.sources ++ filter_map (λ unit. latest_maker (row_of l.self unit)) l.units
