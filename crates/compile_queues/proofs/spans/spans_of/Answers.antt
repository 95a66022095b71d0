use Rattle.std.proofs.Common.{◌≤◌, length, rules}
use Rattle.compile_queues.specs.Internal.Spans.{joined}
use Rattle.compile_queues.proofs.Swept.{all_within}
use Rattle.compile_queues.proofs.Walking.{next_is, span_after, spans_more}
use Rattle.compile_queues.proofs.spans.spans_of.Goals as goal

pub loop-j-preserved : goal.loop-j-preserved
loop-j-preserved c =
    let J = joined c.args.families.now c.args.sharings.now c.args.queues.now in
    let next = c.next_span-span.result in
    let is = next_is J c.args.uses.now c.loop-j.j c.loop-j.span next c.loop-j.invariant.span c.next_span-span.ensures in
    record {
      spans = spans_more J c.args.uses.now c.loop-j.j next c.loop-j.spans c.push.new.self is c.loop-j.invariant.spans c.in_ok-push.ensures.ok;
      span = span_after J c.args.uses.now c.loop-j.j next is;
    }

pub returns-clause-within : goal.returns-clause-within
returns-clause-within c =
    let le : c.loop-j.j ≤ length c.args.uses.now = search rules in
    all_within (joined c.args.families.now c.args.sharings.now c.args.queues.now) c.args.uses.now c.loop-j.j c.loop-j.spans le c.loop-j-test.false c.loop-j.invariant.spans
