use Rattle.std.proofs.Common.{ap, ◌∙◌, length, map}
use Rattle.compile_groups.proofs.Filled.{put_all-length, put_group_more}
use Rattle.compile_groups.proofs.by_command.by_command.Goals as goal
use Rattle.compile_groups.specs.Internal.Buckets.{put_all, in_group}
use Rattle.compile_groups.specs.declared.unit_use.UseAt.{UseAt}

pub loop-g-preserved : goal.loop-g-preserved
loop-g-preserved c =
    let grown = c.in_ok-put_group.ensures ∙ ap (λ A. put_all (λ u. u.command) (map (in_group c.loop-g.g) A) c.loop-g.buckets) c.deref.ensures in
    record {
      count = ap length grown ∙ put_all-length (λ (u : UseAt). u.command) (map (in_group c.loop-g.g) c.index-groups-g.result) c.loop-g.buckets ∙ c.loop-g.invariant.count;
      same = put_group_more c.args.groups.now c.loop-g.g c.index-groups-g.result c.loop-g.buckets c.put_group.new.buckets _ c.loop-g-test.true c.index-groups-g.is c.loop-g.invariant.same grown;
    }
