use Rattle.std.proofs.Common.{refl, arith}
use Rattle.top.proofs.Sums.{total_more}
use Rattle.top.proofs.totals.total_of.Goals as goal
use Rattle.device_run.specs.Runs.{read_by}

pub total_at-more-requires-clause-short : goal.total_at-more-requires-clause-short
total_at-more-requires-clause-short c = c.requires.short c.loop-k.k c.loop-k-test.true

pub loop-k-preserved : goal.loop-k-preserved
loop-k-preserved c =
    let was = c.loop-k.invariant in
    let more = c.total_at-more.result in
    record {
      total = total_more (read_by c.args.device.now) c.loop-k.k c.loop-k.total more _ was.total c.total_at-more.ensures.bytes c.total_at-more.ensures.sum refl refl;
      small = omega (arith, was.small, c.total_at-more.ensures.small);
      low = omega (arith, was.low, c.total_at-more.ensures.low);
    }
