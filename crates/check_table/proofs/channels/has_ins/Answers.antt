use Rattle.std.proofs.Common.{below_more, sym, ◌∙◌}
use Rattle.check_table.proofs.channels.has_ins.Goals as goal

pub loop-n-preserved : goal.loop-n-preserved
loop-n-preserved c = below_more _ _ c.loop-n.invariant (sym c.ins_at.ensures ∙ c.if-ins_at.false)
