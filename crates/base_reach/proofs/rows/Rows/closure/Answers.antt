use Rattle.base_reach.specs.Pairs.{has, links}
use Rattle.base_reach.proofs.Linked.{paths_same}
use Rattle.base_reach.proofs.rows.Rows.closure.Goals as goal

pub returns-clause-has : goal.returns-clause-has
returns-clause-has c a b =
    let edges = c.args.edges.now in
    let rows = c.in_ok-rows.rows in
    let closed = c.close.ensures.has a b in
    let same = paths_same (has rows) (links edges) c.in_ok-rows.ensures.has a b in
    (λ h. same.0 (closed.0 h), λ p. closed.1 (same.1 p))
