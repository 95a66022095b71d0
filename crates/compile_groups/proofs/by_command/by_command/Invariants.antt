use Rattle.std.proofs.Common.{◌≡◌, drop, length}
use Rattle.compile_groups.specs.Internal.Buckets.{put_all, none_in, numbered_uses}
use Rattle.compile_groups.proofs.by_command.by_command.Given as goal

abbrev pub invariant-loop-g : goal.invariant-loop-g
invariant-loop-g l = record {
  count : length l.buckets ≡ l.commands;
  same : put_all (λ u. u.command) (numbered_uses l.g (drop l.g l.groups)) l.buckets ≡ put_all (λ u. u.command) (numbered_uses 0 l.groups) (none_in l.commands);
}
