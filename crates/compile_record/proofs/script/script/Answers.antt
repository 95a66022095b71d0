use Rattle.std.proofs.Common.{rules}
use Rattle.compile_record.proofs.Blocks.{blocks_more}
use Rattle.compile_record.proofs.script.script.Goals as goal
use Rattle.compile_record.specs.Script.{script}

pub loop-c-preserved : goal.loop-c-preserved
loop-c-preserved g c = blocks_more c.args.groups.now g.heap c.args.groups.now.commands c.loop-c.c _ c.loop-c.list c.push_block.new.script (script c.args.groups.now g.heap) (search rules) (search rules) c.loop-c.invariant c.in_ok-push_block.ensures
