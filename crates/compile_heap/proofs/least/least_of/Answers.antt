use Rattle.compile_heap.specs.Pairs.{has}
use Rattle.compile_heap.proofs.Moved.{taken_more, past_more}
use Rattle.compile_heap.proofs.least.least_of.Goals as goal

pub loop-j-preserved : goal.loop-j-preserved
loop-j-preserved c =
    let old = c.loop-j.invariant in
    let moved = c.past-offset.ensures in
    record {
      aligned = moved.aligned;
      near = moved.near c.args.top old.near (c.requires.ends c.loop-j.j-index 0 c.loop-j-test.true);
      taken = taken_more c.args.sizes.now (has c.args.ordered.now) c.args.offsets.now c.args.placed.now c.args.i c.loop-j.j-index c.loop-j-test.true c.loop-j.offset c.past-offset.result old.taken moved.taken;
      past = past_more c.args.sizes.now (has c.args.ordered.now) c.args.offsets.now c.args.placed.now c.args.i c.loop-j.j-index c.loop-j-test.true c.loop-j.offset c.past-offset.result old.past moved.up moved.past;
    }
