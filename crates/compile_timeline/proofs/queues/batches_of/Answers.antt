use Rattle.std.proofs.Common.{◌≡◌, ◌∙◌, length, subst, arith}
use Rattle.compile_timeline.proofs.Submitting.{all_added}
use Rattle.compile_timeline.specs.Below.{all_below}
use Rattle.compile_timeline.specs.Internal.Submissions.{nothing, Adds, ClosedAt}
use Rattle.compile_timeline.specs.Parts.{parts_at}
use Rattle.compile_timeline.proofs.queues.batches_of.Goals as goal

pub returns : goal.returns
returns c =
    let test = c.loop-at-test.false in
    let last = c.loop-at.auto.at-end in
    let end : c.loop-at.at ≡ length c.args.script.now = omega (arith, test, last) in
    c.into_batches.ensures
    ∙ all_added c.args.script.now c.args.queue c.args.count c.loop-at.submission
    (subst (λ i. Adds nothing c.loop-at.submission (all_below (parts_at c.args.script.now c.args.count c.args.queue) i)) end c.loop-at.invariant.added)
    (subst (λ i. ClosedAt c.args.script.now c.args.count c.args.queue i c.loop-at.submission) end c.loop-at.invariant.closed)
