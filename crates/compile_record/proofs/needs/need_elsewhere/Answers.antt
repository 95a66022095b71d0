use Rattle.compile_record.proofs.Growing.{number_more}
use Rattle.compile_record.proofs.needs.need_elsewhere.Goals as goal
use Rattle.compile_record.specs.Wanted.{last_on}
use Rattle.compile_record.specs.declared.mark.Marked.TheVariants.{Needs}

pub loop-p-preserved : goal.loop-p-preserved
loop-p-preserved c = number_more (Needs c.args.queue) (last_on c.args.than c.args.uses.now) c.loop-p.p c.args.script.now c.loop-p.script c.need_last_on.new.script c.loop-p.invariant c.in_ok-need_last_on.ensures
