use Rattle.std.proofs.Common.{rules}
use Rattle.compile_record.proofs.Growing.{part_more}
use Rattle.compile_record.proofs.block.push_releases.Goals as goal
use Rattle.compile_record.specs.Script.{use_releases}

pub loop-g-preserved : goal.loop-g-preserved
loop-g-preserved g c = part_more (use_releases c.args.groups.now g.heap c.args.queue c.args.command) c.args.used.now c.loop-g.g-index _ c.args.script.now c.loop-g.script c.push_release_of.new.script (search rules) (search rules) c.loop-g.invariant c.in_ok-push_release_of.ensures
