use Rattle.std.proofs.Common.{◌≡◌, ◌<◌, ◌∙◌, ap, length, rules, subst, sym}
use Rattle.std.specs.List.{All}
use Rattle.compile_queues.specs.Renamed.{frame_on}
use Rattle.compile_queues.proofs.Picking.{chosen_good, found_count, found_queues}
use Rattle.compile_queues.proofs.choice.moved.Goals as goal
use Rattle.frame.specs.Numbered.{numbered}

pub frame_on-requires-clause-below : goal.frame_on-requires-clause-below
frame_on-requires-clause-below c =
    let found = c.args.found.now in
    let same : c.frame.result.now ≡ c.args.frame.now = c.frame.ensures.frame in
    let queues : c.deref.result.now ≡ found.queues = c.deref.ensures in
    subst (λ frame. All (λ q. q < length frame.queues) c.deref.result.now) (sym same) (subst (All (λ q. q < length c.args.frame.now.queues)) (sym queues) (found_queues c.args.frame.now (length (numbered c.args.frame.now).passes) found.given found.queues found.found c.requires))

pub frame_on-requires-clause-count : goal.frame_on-requires-clause-count
frame_on-requires-clause-count c =
    let found = c.args.found.now in
    let same : c.frame.result.now ≡ c.args.frame.now = c.frame.ensures.frame in
    let queues : c.deref.result.now ≡ found.queues = c.deref.ensures in
    ap length queues ∙ found_count c.args.frame.now (length (numbered c.args.frame.now).passes) found.given found.queues found.found c.requires ∙ sym (ap (λ frame. length frame.passes) same)

pub faultless-requires : goal.faultless-requires
faultless-requires c =
    let found = c.args.found.now in
    let is : c.in_ok-chosen.chosen ≡ frame_on found.queues c.args.frame.now = search rules in
    chosen_good c.args.frame.now found.queues found.given found.found c.frame.ensures.good c.requires c.in_ok-chosen.chosen is
