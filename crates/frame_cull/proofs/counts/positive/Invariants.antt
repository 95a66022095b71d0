use Rattle.std.proofs.Common.{◌≡◌, map, take, nat_lt}
use Rattle.frame_cull.proofs.counts.positive.Given as goal

abbrev pub invariant-loop-count : goal.invariant-loop-count
invariant-loop-count l = l.list ≡ map (λ count. nat_lt 0 count) (take l.count-index l.counts)
