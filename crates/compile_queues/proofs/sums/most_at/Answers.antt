use Rattle.std.proofs.Common.{length, subst}
use Rattle.std.specs.List.{list_any}
use Rattle.compile_queues.specs.Internal.Spans.{precedes}
use Rattle.compile_queues.specs.Internal.Sweep.{IsTop}
use Rattle.compile_queues.proofs.Tops.{top_at}
use Rattle.compile_queues.proofs.sums.most_at.Goals as goal

pub returns-clause-top : goal.returns-clause-top
returns-clause-top c =
    let sums = c.args.sums.now in
    let places = c.places_at-places.result.now in
    let needed = subst (λ uses. IsTop (λ k. list_any (precedes uses c.args.spans.now k) places) sums (length sums) c.most_needed-needed.result) c.deref.ensures c.most_needed-needed.ensures in
    top_at c.args.queues.now c.args.work.now.uses c.args.spans.now sums places c.args.d c.args.along c.most_needed-needed.result c.max.result c.requires.d c.requires.sums c.places_at-places.ensures c.requires.along needed c.max.ensures
