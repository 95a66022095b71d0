use Rattle.std.proofs.Common.{◌≡◌, ℕ, take}
use Rattle.base_reach.specs.Pairs.{has, links}
use Rattle.base_reach.proofs.rows.Rows.of_edges.Given as goal

abbrev pub invariant-loop-edge : goal.invariant-loop-edge
invariant-loop-edge l = record {
  count : l.rows.count ≡ l.fn.count;
  has : (a b : ℕ) → has l.rows a b ≡ links (take l.edge-index l.edges) a b;
}
