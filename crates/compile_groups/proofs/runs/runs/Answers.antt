use Rattle.std.proofs.Common.{rules}
use Rattle.compile_groups.proofs.Continued.{run_more}
use Rattle.compile_groups.proofs.runs.runs.Goals as goal
use Rattle.compile_groups.specs.Groups.{joins}

pub loop-one-preserved : goal.loop-one-preserved
loop-one-preserved c = run_more (joins c.args.families.now c.args.sharings.now) c.args.uses.now c.loop-one.one-index _ c.loop-one.list c.push_use.new.runs (search rules) (search rules) c.loop-one.invariant c.in_ok-push_use.ensures
