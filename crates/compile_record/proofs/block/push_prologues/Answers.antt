use Rattle.std.proofs.Common.{rules}
use Rattle.compile_record.proofs.Growing.{part_more}
use Rattle.compile_record.proofs.block.push_prologues.Goals as goal
use Rattle.compile_record.specs.Script.{use_prologues}

pub loop-g-preserved : goal.loop-g-preserved
loop-g-preserved g c = part_more (use_prologues c.args.groups.now g.heap c.args.command) c.args.used.now c.loop-g.g-index _ c.args.script.now c.loop-g.script c.push_prologue_of.new.script (search rules) (search rules) c.loop-g.invariant c.in_ok-push_prologue_of.ensures
