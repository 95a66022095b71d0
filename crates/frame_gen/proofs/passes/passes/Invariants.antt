use Rattle.std.proofs.Common.{◌≡◌, ◌<◌, map}
use Rattle.std.specs.List.{range_with_len}
use Rattle.frame_gen.specs.Generated.{pass_by}
use Rattle.frame_gen.specs.Operations.{drawn}
use Rattle.frame_gen.proofs.passes.passes.Given as goal

abbrev pub invariant-loop-i : goal.invariant-loop-i
invariant-loop-i l = (l.passes ≡ map (λ i. pass_by (drawn l.number i) i) (range_with_len 0 l.i)) × (l.w ≡ drawn l.number l.i) × (l.w < 65537)
