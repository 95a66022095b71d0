-- The table of the signals that waits are joined to.
use Rattle.std.specs.Prelude.{◌≡◌, ◌≤◌, ℕ, List, length, map, Option, None}
use Rattle.std.specs.List.{range_with_len}
use Rattle.base.specs.Maxima.{max_nodes}
use Rattle.check_order.specs.Edges.{node_at, meeting}
use Rattle.check_order.specs.declared.edges.Edges.TheInside.{Inside}
use Rattle.check_order.specs.declared.kind.Kind.{Kind}
use Rattle.check_order.specs.declared.kind.Kind.TheVariants.{Wait}
use Rattle.check_order.specs.declared.node.Node.{Node}

-- of a wait the signal that meets it
abbrev pub link_of : List Node → ℕ → Kind → Option ℕ
link_of nodes n (Wait queue value) = meeting nodes (Wait queue value)
link_of nodes n kind = None

abbrev pub links_until : List Node → ℕ → List (Option ℕ)
links_until nodes count = map (λ n. link_of nodes n (node_at nodes n).kind) (range_with_len 0 count)

pub record HasLinks (edges : Inside) : Type 0 where
  pub few : length edges.nodes ≤ max_nodes
  pub links : edges.links ≡ links_until edges.nodes (length edges.nodes)
