use Rattle.std.proofs.Common.{◌+◌, ◌∙◌, ap, arith}
use Rattle.device_workers.proofs.Counting.{step_counts, complete_after}
use Rattle.device_workers.proofs.held.Held.step.Goals as goal

pub invariant_of-self-2 : goal.invariant_of-self-2
invariant_of-self-2 g c =
    let held = c.args.self.now in
    let new = c.take_step.new.device in
    let own = c.args.own_queue in
    let step = c.in_ok-step.step in
    let came = step_counts held.device new own step c.in_ok-step.ensures.ok in
    record {
      ours = came.program ∙ held.ours;
      zeros = came.fill ∙ held.zeros;
      counted = omega (arith, came.count, held.counted, c.add.ensures.total, c.events_of.ensures);
      ended = complete_after held.device new own step c.in_ok-step.ensures.ok held.ends.total c.add-2.new.self.total (c.add-2.ensures.total ∙ ap (λ n. held.ends.total + n) c.ends_of.ensures) held.ended;
      moved = came.moved ∙ held.moved;
      left = omega (arith, came.moves, held.left);
    }
