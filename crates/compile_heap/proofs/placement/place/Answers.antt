use Rattle.std.proofs.Common.{get_or, set, true, subst, sym, rules, arith}
use Rattle.compile_heap.specs.Pairs.{has}
use Rattle.compile_heap.specs.Placing.{IsLeast}
use Rattle.compile_heap.specs.Internal.Choosing.{IsOrder}
use Rattle.compile_heap.proofs.Chosen.{next_in, up_to_more}
use Rattle.compile_heap.proofs.Filled.{filled_none, filling_more, filled_all, heap_small}
use Rattle.compile_heap.proofs.Legal.{least_legal}
use Rattle.compile_heap.proofs.Only.{least_only}
use Rattle.compile_heap.proofs.placement.place.Goals as goal
use Rattle.compile_heap.proofs.placement.place.Goals.{After-drop-order-2}

pub loop-i-init : goal.loop-i-init
loop-i-init c = filled_none c.args.sizes.now (has c.args.ordered.now) c.deref-i-items.result.now c.in_ok-offsets.offsets.items c.new-placed.result.items c.requires.few c.requires.sizes c.in_ok-offsets.ensures.count c.in_ok-offsets.ensures.zeros c.new-placed.ensures.items

pub least_of-offset-requires-clause-rising : goal.least_of-offset-requires-clause-rising
least_of-offset-requires-clause-rising c = let rising = c.loop-i.invariant.2.rising in search rules

pub index_of-index-requires-clause-rising : goal.index_of-index-requires-clause-rising
index_of-index-requires-clause-rising c = let rising = c.loop-i.invariant.2.rising in search rules

pub loop-i-preserved : goal.loop-i-preserved
loop-i-preserved c =
    let O : IsOrder c.args.sizes.now c.deref-i-items.result.now = search rules in
    let I = c.loop-i.invariant in
    let P = I.2 in
    let b = get_or c.deref-i-items.result.now c.loop-i.i-index 0 in
    let lt = c.loop-i-test.true in
    let next = next_in c.args.sizes.now c.deref-i-items.result.now c.loop-i.i-index I.0 O I.1 lt in
    let within = next.within in
    let count = P.count in
    let upto = up_to_more c.args.sizes.now c.deref-i-items.result.now c.loop-i.i-index I.0 O I.1 lt (omega (arith, within, count)) in
    let small = heap_small c.args.sizes.now I.0 c.loop-i.heap c.requires.few c.requires.sum P.room in
    let low = c.least_of-offset.ensures.near in
    let more = filling_more c.args.sizes.now (has c.args.ordered.now) c.loop-i.offsets.items c.loop-i.placed.items I.0 c.loop-i.heap b c.least_of-offset.result c.index_of-index.result P next (search rules) (search rules) low (omega (arith, small, low)) in
    (set I.0 b true, upto, search (rules, more))

least : (c : After-drop-order-2) → IsLeast c.args.sizes.now (has c.args.ordered.now) (record { offsets = c.from_vec.result; heap = c.loop-i.heap })
least c =
    let O : IsOrder c.args.sizes.now c.deref-i-items.result.now = search rules in
    let filled = filled_all c.args.sizes.now (has c.args.ordered.now) c.deref-i-items.result.now c.loop-i.i-index c.loop-i.offsets.items c.loop-i.placed.items c.loop-i.heap O (omega arith) c.loop-i.invariant in
    subst (λ list. IsLeast c.args.sizes.now (has c.args.ordered.now) (record { offsets = list; heap = c.loop-i.heap })) (sym c.from_vec.ensures) filled

pub returns-clause-least : goal.returns-clause-least
returns-clause-least c = least c

pub returns-clause-only : goal.returns-clause-only
returns-clause-only c = least_only c.args.sizes.now (has c.args.ordered.now) (record { offsets = c.from_vec.result; heap = c.loop-i.heap }) (least c)

pub returns-clause-legal : goal.returns-clause-legal
returns-clause-legal c = least_legal c.args.sizes.now (has c.args.ordered.now) (record { offsets = c.from_vec.result; heap = c.loop-i.heap }) (least c)
