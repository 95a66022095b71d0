use Rattle.std.proofs.Common.{◌≡◌}
use Rattle.std.specs.List.{filter, flat_map, range_with_len}
use Rattle.compile_groups.specs.Placed.{unit_at}
use Rattle.compile_barriers.specs.Under.{heap_of, is_under, last_uses}
use Rattle.compile_barriers.proofs.under.uses_under.Given as goal

abbrev pub invariant-loop-a : goal.invariant-loop-a
invariant-loop-a l = l.uses ≡ flat_map (λ a. last_uses l.groups (unit_at l.groups a)) (filter (is_under l.groups (heap_of l.ordered l.placement) l.b) (range_with_len 0 l.a))
