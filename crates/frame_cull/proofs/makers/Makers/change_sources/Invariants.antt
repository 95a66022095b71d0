use Rattle.std.proofs.Common.{◌≡◌, ◌++◌, drop}
use Rattle.std.specs.List.{filter_map}
use Rattle.frame_cull.specs.Versions.{row_of, latest_maker, changes}
use Rattle.frame_cull.proofs.makers.Makers.change_sources.Given as goal

abbrev pub invariant-loop-write : goal.invariant-loop-write
invariant-loop-write l = l.sources ++ filter_map (λ unit. latest_maker (row_of l.self unit)) (changes (drop l.write-index l.writes)) ≡ l.fn.sources ++ filter_map (λ unit. latest_maker (row_of l.self unit)) (changes l.writes)
