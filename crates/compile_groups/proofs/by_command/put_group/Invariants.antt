use Rattle.std.proofs.Common.{◌≡◌, map, drop, length}
use Rattle.compile_groups.specs.Internal.Buckets.{put_all, in_group}
use Rattle.compile_groups.proofs.by_command.put_group.Given as goal

abbrev pub invariant-loop-one : goal.invariant-loop-one
invariant-loop-one l = record {
  count : length l.buckets ≡ length l.fn.buckets;
  same : put_all (λ u. u.command) (map (in_group l.g) (drop l.one-index l.group)) l.buckets ≡ put_all (λ u. u.command) (map (in_group l.g) l.group) l.fn.buckets;
}
