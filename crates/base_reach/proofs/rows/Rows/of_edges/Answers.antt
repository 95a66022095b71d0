use Rattle.std.proofs.Common.{sym, ap, ◌∙◌, ◌&&◌, ◌||◌, ◌==◌, get_or}
use Rattle.base_reach.proofs.Linked.{links-more}
use Rattle.base_reach.proofs.rows.Rows.of_edges.Goals as goal

pub loop-edge-preserved : goal.loop-edge-preserved
loop-edge-preserved c =
    let edges = c.args.edges.now in
    let i = c.loop-edge.edge-index in
    record {
      count = c.set.ensures.count ∙ c.loop-edge.invariant.count;
      has = λ a b. c.set.ensures.has a b ∙ ap (λ t. ((a == (get_or edges i (0, 0)).0) && (b == (get_or edges i (0, 0)).1)) || t) (c.loop-edge.invariant.has a b) ∙ sym (links-more edges i a b (0, 0) c.loop-edge-test.true);
    }
