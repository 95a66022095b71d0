use Rattle.std.proofs.Common.{◌≡◌, max, rules}
use Rattle.compile_queues.proofs.Tops.{in_more}
use Rattle.compile_queues.proofs.sums.most_in.Goals as goal

pub loop-one-preserved : goal.loop-one-preserved
loop-one-preserved c =
    let more : c.max-most.result ≡ max c.loop-one.most c.sum_by.result = search rules in
    in_more c.args.sums.now c.args.group.now c.args.unit c.loop-one.one-index _ c.loop-one.most c.sum_by.result _ c.loop-one-test.true c.loop-one.invariant c.sum_by.ensures more
