use Rattle.std.proofs.Common.{◌≡◌, map}
use Rattle.std.specs.List.{range_with_len}
use Rattle.compile_record.specs.Internal.Resources.{resource_at, assigned_below}
use Rattle.compile_record.proofs.resource.all_resources.Given as goal

abbrev pub invariant-loop-r : goal.invariant-loop-r
invariant-loop-r l = record {
  list : l.list ≡ map (resource_at l.groups) (range_with_len 0 l.r);
  assigned : l.assigned ≡ assigned_below l.groups l.r;
}
