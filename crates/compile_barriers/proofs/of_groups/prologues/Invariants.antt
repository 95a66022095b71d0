use Rattle.std.proofs.Common.{◌≡◌, map}
use Rattle.std.specs.List.{range_with_len}
use Rattle.compile_barriers.specs.Prologues.{prologue_of}
use Rattle.compile_barriers.specs.Under.{heap_of}
use Rattle.compile_barriers.proofs.of_groups.prologues.Given as goal

abbrev pub invariant-loop-g : goal.invariant-loop-g
invariant-loop-g l = l.list ≡ map (prologue_of l.groups (heap_of l.ordered l.placement)) (range_with_len 0 l.g)
