use Rattle.std.proofs.Common.{max, ap, ◌∙◌}
use Rattle.base.proofs.Walks.{first_on}
use Rattle.base.specs.Walks.{first_in}
use Rattle.program.proofs.Peaks.{highest_on}
use Rattle.program.proofs.walk.in_batches.Goals as goal
use Rattle.program.specs.Rules.{next_place, batch_place}

pub loop-b-preserved : goal.loop-b-preserved
loop-b-preserved c =
    let batches = c.args.batches.now in
    let b = c.loop-b.b in
    let rule = next_place c.args.test.rule c.args.test.count c.args.test.shapes.now c.args.family c.args.q batches in
    let gives = c.batch_place.ensures ∙ ap (λ reached. batch_place c.args.test.rule c.args.test.count c.args.test.shapes.now c.args.family reached c.args.q b c.index-batches-b.result) c.loop-b.invariant.reached in
    record {
      reached = highest_on batches b c.index-batches-b.result c.loop-b.reached c.max-reached.result c.loop-b-test.true c.index-batches-b.is c.loop-b.invariant.reached (c.max-reached.ensures ∙ ap (max c.loop-b.reached) c.value_of.ensures);
      so_far = first_on rule batches b c.index-batches-b.result c.batch_place.result (first_in rule 0 batches) c.loop-b-test.true c.index-batches-b.is gives c.in_default.is c.loop-b.invariant.so_far;
    }
