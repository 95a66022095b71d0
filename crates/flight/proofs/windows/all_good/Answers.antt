use Rattle.flight.proofs.Flies.{good_end, good_on}
use Rattle.flight.proofs.windows.all_good.Goals as goal

pub loop-i-preserved : goal.loop-i-preserved
loop-i-preserved c = good_on c.args.frames.now c.loop-i.i c.index-frames-i.result c.loop-i-test.true c.index-frames-i.is c.frame.ensures.good c.loop-i.invariant

pub returns : goal.returns
returns c = good_end c.args.frames.now c.loop-i.i c.loop-i-test.false c.loop-i.invariant
