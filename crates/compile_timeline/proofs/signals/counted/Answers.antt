use Rattle.std.proofs.Common.{◌≡◌, ◌+◌, ◌<◌, ◌∙◌, length, set, sym, ap, subst, arith}
use Rattle.std.proofs.lemmas.List.{get_or_read}
use Rattle.compile_timeline.proofs.Counting.{queue_known, count_room, count_here, count_none, counted_value}
use Rattle.compile_timeline.proofs.Walks.{queue_here}
use Rattle.compile_timeline.specs.Internal.Counts.{HasCounts}
use Rattle.compile_timeline.specs.Steps.{queue_at}
use Rattle.compile_timeline.proofs.signals.counted.Goals as goal
use Rattle.compile_timeline.proofs.signals.counted.Goals.{After-queue-queue, Joined-is_signalled, then-is_signalled, else-is_signalled}

here : (c : After-queue-queue) → c.queue-queue.result ≡ queue_at c.args.script.now c.args.at
here c = c.queue-queue.ensures ∙ sym (queue_here c.args.script.now c.args.at c.index-script-at.result c.requires.at c.index-script-at.is)

known : (c : After-queue-queue) → c.queue-queue.result < c.args.count
known c = subst (λ q. q < c.args.count) (sym (here c)) (queue_known c.args.script.now c.args.count c.args.at c.requires.script c.requires.at)

inside : (c : After-queue-queue) → c.queue-queue.result < length c.args.counts.now
inside c = subst (λ n. c.queue-queue.result < n) (sym c.requires.counts.size) (known c)

pub index-requires : goal.index-requires
index-requires c = inside (goal.at.index-requires c).After-queue-queue

pub overflow_add-more : goal.overflow_add-more
overflow_add-more c =
    let at = (goal.at.overflow_add-more c).After-queue-queue in
    let read = get_or_read c.args.counts.now c.queue-queue.result c.index.result.now (inside at) c.index.ensures 0 in
    let room = count_room c.args.script.now c.args.count c.args.at c.queue-queue.result c.args.counts.now c.requires.counts (known at) in
    omega (arith, read, room)

pub set-requires : goal.set-requires
set-requires c = inside (goal.at.set-requires c).After-queue-queue

counts : (c : Joined-is_signalled) → HasCounts c.args.script.now c.args.count (c.args.at + 1) c.if-is_signalled.counts
counts c =
    elim c.if-is_signalled.branch [
      | then-is_signalled w ↦
          let read = get_or_read c.args.counts.now c.queue-queue.result w.index.result.now (inside c.before) w.index.ensures 0 in
          count_here c.args.script.now c.args.count c.args.at c.queue-queue.result c.args.counts.now c.if-is_signalled.counts c.requires.counts (here c.before)
          (sym c.requires.signalled ∙ w.if-is_signalled.true)
          (w.counts-is ∙ w.set.ensures ∙ ap (λ v. set c.args.counts.now c.queue-queue.result (v + 1)) read)
      | else-is_signalled w ↦
          subst (HasCounts c.args.script.now c.args.count (c.args.at + 1)) (sym w.counts-is) (count_none c.args.script.now c.args.count c.args.at c.args.counts.now c.requires.counts (sym c.requires.signalled ∙ w.if-is_signalled.false))
    ]

inside_new : (c : Joined-is_signalled) → c.queue-queue.result < length c.if-is_signalled.counts
inside_new c = subst (λ n. c.queue-queue.result < n) (sym (counts c).size) (known c.before)

pub index-requires-2 : goal.index-requires-2
index-requires-2 c = inside_new (goal.at.index-requires-2 c).Joined-is_signalled

pub returns-clause-counts : goal.returns-clause-counts
returns-clause-counts c = counts (goal.at.returns-clause-counts c).Joined-is_signalled

pub returns-clause-value : goal.returns-clause-value
returns-clause-value c =
    let at = (goal.at.returns-clause-value c).Joined-is_signalled in
    get_or_read c.if-is_signalled.counts c.queue-queue.result c.index-2.result.now (inside_new at) c.index-2.ensures 0
    ∙ counted_value c.args.script.now c.args.count c.args.at c.queue-queue.result c.if-is_signalled.counts (counts at) (here at.before) (known at.before)
