use Rattle.std.proofs.Common.{◌≡◌, ◌+◌, ◌<◌, ◌≤◌, ◌∙◌, ap, arith, get_or, length, refl, rules, subst, sym}
use Rattle.std.proofs.lemmas.List.{get_or_default}
use Rattle.compile_queues.specs.Internal.Spans.{steps}
use Rattle.compile_queues.specs.Internal.Sweep.{IsTop}
use Rattle.compile_queues.proofs.Totals.{on_more, sums_more}
use Rattle.compile_queues.proofs.sums.sums_of.Goals as goal

pub loop-d-preserved : goal.loop-d-preserved
loop-d-preserved c =
    let work = c.args.work.now in
    let queues = c.args.queues.now in
    let step = steps queues work.uses c.args.spans.now in
    let d = c.loop-d.d in
    let on = c.loop-d.on.items in
    let before = c.most_at-before.result in
    let queue = get_or queues d 0 in
    let costs = c.as_slice-costs.result.now in
    let sum = get_or costs d 0 + before in
    let lt : d < length work.costs = subst (λ list. d < length list) c.as_slice-costs.ensures c.loop-d-test.true in
    let within : queue < length work.families = c.requires.below d 0 (subst (λ n. d < n) (sym c.requires.queues) lt) in
    let inside : queue < length on = subst (λ n. queue < n) (sym c.loop-d.invariant.on.size) within in
    let read : c.index.result.now ≡ get_or on queue c.index.result.now = search rules in
    let at : get_or on queue 0 ≡ c.index.result.now = get_or_default on queue 0 c.index.result.now inside ∙ sym read in
    let along : c.index.result.now ≤ before = c.most_at-before.ensures.along in
    let le : get_or on queue 0 ≤ sum = omega (arith, along, at) in
    let top = subst (λ list. IsTop (λ k. step k d) list d before) c.deref.ensures c.most_at-before.ensures.top in
    record {
      sums = sums_more step work.costs c.loop-d.sums c.push.new.self d before sum c.requires.forward lt c.loop-d.invariant.sums top (c.requires.small d 0 lt) (ap (λ list. get_or list d 0 + before) c.as_slice-costs.ensures) c.in_ok-push.ensures.ok;
      on = on_more queues c.loop-d.sums on c.push.new.self _ (length work.families) d sum queue c.loop-d.invariant.on c.loop-d.invariant.sums.count refl within le c.in_ok-push.ensures.ok refl;
    }
