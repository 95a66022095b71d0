use Rattle.std.proofs.Common.{below_more, sym, ◌∙◌}
use Rattle.check_order.proofs.drain.pick.Goals as goal

pub loop-q-preserved : goal.loop-q-preserved
loop-q-preserved c = below_more _ _ c.loop-q.invariant (sym c.goes_on.ensures ∙ c.if-goes_on.false)
