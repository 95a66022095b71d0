use Rattle.std.proofs.Common.{rules, ◌≡◌, ◌+◌, length, set, get_or, refl, ap, ◌∙◌, subst, arith, length-set}
use Rattle.std.specs.Vec.{vec_len}
use Rattle.check_order.specs.Edges.{node_at}
use Rattle.check_table.specs.Joined.{joined, join_at}
use Rattle.check_table.specs.Internal.Laying.{WithSites}
use Rattle.check_table.specs.declared.laying.Seat.TheVariants as sits
use Rattle.check_table.proofs.Given.{sites_laid, laying}
use Rattle.check_table.proofs.laying.begin_run.Goals as goal

pub returns : goal.returns
returns c =
    let W = joined c.args.edges.now c.args.joins.now in
    let n = get_or c.args.order.now c.args.k 0 in
    let L = c.requires.laying in
    let old = c.args.line.points.items in
    let before = c.args.line.seats.items in
    let new = c.in_ok-points.points.items in
    let counted : vec_len c.args.line.points ≡ length old = search rules in
    let queue = ap (λ x. x.queue) (c.node-queue.ensures ∙ ap (λ m. node_at c.args.edges.now m) c.next_node-n.ensures.is) in
    let group = ap (λ x. x.first) (c.join_at-group.ensures ∙ ap (λ m. join_at c.args.joins.now m) c.next_node-n.ensures.is) in
    let S : WithSites c.args.channels.now c.args.stages (node_at c.args.edges.now n).queue (join_at c.args.joins.now n).first old new =
    subst (λ q. WithSites c.args.channels.now c.args.stages q (join_at c.args.joins.now n).first old new) queue (subst (λ g. WithSites c.args.channels.now c.args.stages c.node-queue.result.queue g old new) group c.in_ok-points.ensures) in
    laying W c.args.order.now c.args.channels.now c.args.stages (c.args.k + 1) (record { points = c.in_ok-points.points; seats = c.with_seat-seats.result }) new (set before n (sits.Run (length old))) refl
    (c.with_seat-seats.ensures ∙ ap (λ m. set before m (sits.Run c.len-place.result)) c.next_node-n.ensures.is ∙ ap (λ p. set before n (sits.Run p)) (c.len-place.ensures ∙ counted)) (length-set before n (sits.Run (length old)) ∙ L.size) (let r = L.room in let z = S.size in omega (arith, r, z, c.requires.stages))
    (sites_laid W c.requires.dependencies c.args.channels.now c.args.stages c.args.order.now c.args.k old before c.requires.order c.requires.k L.size L.laid c.requires.command new S)
