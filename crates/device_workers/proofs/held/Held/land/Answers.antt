use Rattle.std.proofs.Common.{◌∙◌, arith}
use Rattle.device_workers.proofs.Counting.{end_counts}
use Rattle.device_workers.proofs.held.Held.land.Goals as goal

pub invariant_of-self : goal.invariant_of-self
invariant_of-self g c =
    let held = c.args.self.now in
    let came = end_counts held.device c.end-landed.new.self c.args.done.node c.end-landed.result c.end-landed.ensures.landed c.end-landed.ensures.event in
    record {
      ours = came.program ∙ held.ours;
      zeros = came.fill ∙ held.zeros;
      counted = omega (arith, came.count, held.counted, c.add.ensures.total, c.events_of_end.ensures);
      ended = λ some. came.complete (held.ended some);
      moved = came.moved ∙ held.moved;
      left = omega (arith, came.moves, held.left);
    }
