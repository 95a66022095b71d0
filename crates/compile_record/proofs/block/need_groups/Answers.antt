use Rattle.std.proofs.Common.{rules}
use Rattle.compile_record.proofs.Growing.{made_more}
use Rattle.compile_record.proofs.block.need_groups.Goals as goal
use Rattle.compile_record.specs.Script.{use_needs}
use Rattle.compile_record.specs.declared.mark.Marked.TheVariants.{Needs}

pub loop-g-preserved : goal.loop-g-preserved
loop-g-preserved g c = made_more (Needs c.args.queue) (use_needs c.args.groups.now g.heap c.args.queue c.args.command) c.args.used.now c.loop-g.g-index _ c.args.script.now c.loop-g.script c.need_group.new.script (search rules) (search rules) c.loop-g.invariant c.in_ok-need_group.ensures
