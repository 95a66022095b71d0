use Rattle.std.proofs.Common.{◌≡◌, ◌∙◌, ap, length, map, rules, subst, sym}
use Rattle.compile_queues.specs.Internal.Spans.{joined, spans_of, steps}
use Rattle.compile_queues.specs.Internal.Sweep.{AreSums}
use Rattle.compile_queues.specs.Internal.Work.{queue_by}
use Rattle.compile_queues.proofs.Swept.{all_below, as_costs, is_forward, spans_length, swept}
use Rattle.compile_queues.proofs.Totals.{cost_is}
use Rattle.compile_queues.proofs.cost.cost_on.Goals as goal
use Rattle.frame.specs.Numbered.{numbered}

pub sums_of-requires-clause-queues : goal.sums_of-requires-clause-queues
sums_of-requires-clause-queues c =
    let work = c.args.work.now in
    let queues = c.deref-6.result.now in
    let is : queues ≡ map (queue_by c.args.queues.now) work.owners = search rules in
    as_costs (numbered c.args.frame.now) work c.args.queues.now c.requires.work c.requires.count queues is

pub sums_of-requires-clause-below : goal.sums_of-requires-clause-below
sums_of-requires-clause-below c =
    let work = c.args.work.now in
    let queues = c.deref-6.result.now in
    let is : queues ≡ map (queue_by c.args.queues.now) work.owners = search rules in
    all_below (numbered c.args.frame.now) work c.args.queues.now c.requires.work c.requires.count queues is c.frame-good.ensures.numbers.some_queue c.requires.below

pub sums_of-requires-clause-spans : goal.sums_of-requires-clause-spans
sums_of-requires-clause-spans c =
    let work = c.args.work.now in
    let queues = c.deref-6.result.now in
    let spans = c.deref-7.result.now in
    let spanned : spans ≡ spans_of (joined work.families work.sharings queues) work.uses = search rules in
    spans_length (joined work.families work.sharings queues) work.uses spans spanned

pub sums_of-requires-clause-forward : goal.sums_of-requires-clause-forward
sums_of-requires-clause-forward c =
    let work = c.args.work.now in
    let queues = c.deref-6.result.now in
    let spans = c.deref-7.result.now in
    let is : queues ≡ map (queue_by c.args.queues.now) work.owners = search rules in
    let spanned : spans ≡ spans_of (joined work.families work.sharings queues) work.uses = search rules in
    is_forward (numbered c.args.frame.now) work c.args.queues.now c.requires.work c.requires.count queues is spans spanned

pub returns : goal.returns
returns c =
    let work = c.args.work.now in
    let queues = c.deref-6.result.now in
    let spans = c.deref-7.result.now in
    let is : queues ≡ map (queue_by c.args.queues.now) work.owners = search rules in
    let spanned : spans ≡ spans_of (joined work.families work.sharings queues) work.uses =
    c.deref-7.ensures ∙ c.in_ok-spans.ensures.spans
    ∙ ap (λ families. spans_of (joined families c.deref-3.result.now c.deref-4.result.now) c.deref-5.result.now) c.deref-2.ensures
    ∙ ap (λ sharings. spans_of (joined work.families sharings c.deref-4.result.now) c.deref-5.result.now) c.deref-3.ensures
    ∙ ap (λ list. spans_of (joined work.families work.sharings list) c.deref-5.result.now) (c.deref-4.ensures ∙ sym c.deref-6.ensures)
    ∙ ap (λ uses. spans_of (joined work.families work.sharings queues) uses) c.deref-5.ensures in
    let step = steps queues work.uses spans in
    let sums = subst (λ list. AreSums step work.costs list (length work.costs)) (sym c.deref-8.ensures) c.in_ok-sums.ensures in
    swept (numbered c.args.frame.now) work c.args.queues.now c.requires.work c.requires.count queues is spans spanned c.greatest.result (cost_is step work.costs c.deref-8.result.now c.greatest.result sums c.greatest.ensures)
