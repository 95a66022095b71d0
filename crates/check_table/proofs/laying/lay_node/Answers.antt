use Rattle.std.proofs.Common.{rules, ◌≡◌, ◌+◌, ◌++◌, ◌∷◌, [], length, set, get_or, sym, ap, ◌∙◌, subst, arith, length-append, length-set}
use Rattle.std.specs.Vec.{vec_len}
use Rattle.std.proofs.Math.Seq.{get_or-append_seam}
use Rattle.std.proofs.lemmas.List.{get_or_append_left}
use Rattle.base_first.specs.Points.{no_point}
use Rattle.check_table.specs.Joined.{joined}
use Rattle.check_table.specs.Internal.Laying.{IsNodePoint}
use Rattle.check_table.specs.declared.laying.Seat.TheVariants as sits
use Rattle.check_table.proofs.Given.{node_laid, laying}
use Rattle.check_table.proofs.laying.lay_node.Goals as goal

pub returns : goal.returns
returns c =
    let W = joined c.args.edges.now c.args.joins.now in
    let n = get_or c.args.order.now c.args.k 0 in
    let L = c.requires.laying in
    let old = c.args.line.points.items in
    let before = c.args.line.seats.items in
    let counted : vec_len c.args.line.points ≡ length old = search rules in
    let P : IsNodePoint W c.args.channels.now before n c.node_point-point.result = subst (λ m. IsNodePoint W c.args.channels.now before m c.node_point-point.result) c.next_node-n.ensures.is (subst (λ l. IsNodePoint W c.args.channels.now l c.next_node-n.result c.node_point-point.result) c.deref.ensures.value c.node_point-point.ensures) in
    let new = old ++ c.node_point-point.result ∷ [] in
    let size : length new ≡ length old + 1 = length-append old (c.node_point-point.result ∷ []) in
    laying W c.args.order.now c.args.channels.now c.args.stages (c.args.k + 1) (record { points = c.in_ok-points.points; seats = c.with_seat-seats.result }) new (set before n (sits.Node (length old))) c.in_ok-points.ensures
    (c.with_seat-seats.ensures ∙ ap (λ m. set before m (sits.Node c.len-place.result)) c.next_node-n.ensures.is ∙ ap (λ p. set before n (sits.Node p)) (c.len-place.ensures ∙ counted)) (length-set before n (sits.Node (length old)) ∙ L.size) (let r = L.room in omega (arith, r, size))
    (node_laid W c.requires.dependencies c.args.channels.now c.args.stages c.args.order.now c.args.k old before c.requires.order c.requires.k L.size L.laid c.requires.sync new size
    (λ p lt. get_or_append_left old (c.node_point-point.result ∷ []) no_point p lt)
    (subst (λ q. IsNodePoint W c.args.channels.now before n q) (sym (get_or-append_seam old c.node_point-point.result [] no_point)) P))
