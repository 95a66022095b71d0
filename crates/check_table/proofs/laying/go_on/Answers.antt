use Rattle.std.proofs.Common.{◌+◌, set, get_or, refl, ap, ◌∙◌, arith, length-set}
use Rattle.check_table.specs.Joined.{joined}
use Rattle.check_table.specs.declared.laying.Seat.TheVariants as sits
use Rattle.check_table.proofs.Given.{run_laid, laying}
use Rattle.check_table.proofs.laying.go_on.Goals as goal

pub returns : goal.returns
returns c =
    let W = joined c.args.edges.now c.args.joins.now in
    let n = get_or c.args.order.now c.args.k 0 in
    let L = c.requires.laying in
    let old = c.args.line.points.items in
    let before = c.args.line.seats.items in
    let s = sits.Run c.args.place in
    let r = c.requires.run in
    laying W c.args.order.now c.args.channels.now c.args.stages (c.args.k + 1) (record { points = c.args.line.points; seats = c.with_seat-seats.result }) old (set before n (sits.Run c.args.place)) refl
    (c.with_seat-seats.ensures ∙ ap (λ m. set before m (sits.Run c.args.place)) c.next_node-n.ensures.is) (length-set before n (sits.Run c.args.place) ∙ L.size) (let r = L.room in omega (arith, r))
    (run_laid W c.requires.dependencies c.args.channels.now c.args.stages c.args.order.now c.args.k old before c.requires.order c.requires.k L.size L.laid c.requires.command c.args.place r.m r.follows r.queue r.is)
