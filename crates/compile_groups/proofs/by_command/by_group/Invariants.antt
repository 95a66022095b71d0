use Rattle.std.proofs.Common.{◌≡◌, drop, length}
use Rattle.compile_groups.specs.Internal.Buckets.{put_numbers, none_in}
use Rattle.compile_groups.proofs.by_command.by_group.Given as goal

abbrev pub invariant-loop-k : goal.invariant-loop-k
invariant-loop-k l = record {
  count : length l.buckets ≡ l.groups;
  same : put_numbers l.k (drop l.k l.uses) l.buckets ≡ put_numbers 0 l.uses (none_in l.groups);
}
