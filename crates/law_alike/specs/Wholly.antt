-- Two views that differ in nothing that soundness sees.
use Rattle.std.specs.Prelude.{◌≡◌, ℕ, List, length}
use Rattle.check_access.specs.Views.{View}
use Rattle.check_order.specs.Edges.{node_at, meeting, edge}
use Rattle.check_order.specs.declared.kind.Kind.{Kind}
use Rattle.check_order.specs.declared.node.Node.{Node}
use Rattle.law_alike.specs.Alike.{Alike}

-- as many nodes, of the same kinds on the same queues, with the same edges
pub record NodesAlike (xs ys : List Node) : Type 0 where
  pub count : length xs ≡ length ys
  pub kind : (n : ℕ) → (node_at xs n).kind ≡ (node_at ys n).kind
  pub queue : (n : ℕ) → (node_at xs n).queue ≡ (node_at ys n).queue
  pub meeting : (kind : Kind) → meeting xs kind ≡ meeting ys kind
  pub edge : (x y : ℕ) → edge xs x y ≡ edge ys x y

pub record WhollyAlike (V W : View) : Type 0 where
  pub tied : Alike V W
  pub nodes : NodesAlike V.nodes W.nodes
  pub pieces : V.pieces ≡ W.pieces
  pub imported : V.imported ≡ W.imported
  pub families : V.families ≡ W.families
