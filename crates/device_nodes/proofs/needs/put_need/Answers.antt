use Rattle.std.proofs.Common.{◌+◌, [], ◌∷◌, ◌++◌, sym, subst}
use Rattle.device_nodes.proofs.Needing.{last_listed, needs_more, still_listed}
use Rattle.device_nodes.proofs.needs.put_need.Goals as goal
use Rattle.device_nodes.specs.Internal.Needs.{waits_at, IsListed, NeedsBelow}
use Rattle.device_nodes.specs.declared.needs.Need.{Need}
use Rattle.check_order.specs.declared.node.Node.{Node}
use Rattle.check_access.specs.Views.{queue_at}

pub returns-in_ok-push : goal.returns-in_ok-push
returns-in_ok-push c = λ B.
    let V = c.args.view.now in
    let n = c.args.n in
    let old = c.args.list.now in
    let need : Need = record { queue = c.node-node.result.queue; stages = c.node-node.result.src_stages } in
    let here = subst (λ (z : Node). IsListed (old ++ need ∷ []) z.queue z.src_stages.0) c.node-node.ensures (last_listed old need) in
    subst (λ l. NeedsBelow V (n + 1) l) (sym c.in_ok-push.ensures.ok)
    (needs_more V n (old ++ need ∷ []) (λ m lt. still_listed old need (queue_at V m) (waits_at V m) (B m lt)) here)

pub returns-else-not-is_listed : goal.returns-else-not-is_listed
returns-else-not-is_listed c = λ B.
    let old = c.args.list.now in
    let listed = subst (λ l. IsListed l c.node-node.result.queue c.node-node.result.src_stages.0) c.deref.ensures (c.is_listed.ensures c.if-not-is_listed.false) in
    needs_more c.args.view.now c.args.n old B (subst (λ (z : Node). IsListed old z.queue z.src_stages.0) c.node-node.ensures listed)
