use Rattle.std.proofs.Common.{◌∙◌, ap, slice_set}
use Rattle.check_tighten.specs.Edits.{queue_with}
use Rattle.check_tighten.proofs.Lists.{written, set_twice}
use Rattle.check_tighten.proofs.edit.queue_changed.Goals as goal

pub returns : goal.returns
returns c =
    let items = c.into_vec-queues.result.items in
    let changed = queue_with c.args.b c.args.waits in
    c.from_vec.ensures
    ∙ (set_twice items c.args.q c.replace-queue.new.dest c.queue_with.result
    ∙ (ap (slice_set items c.args.q) (c.queue_with.ensures ∙ ap changed c.replace-queue.ensures.value)
    ∙ written changed items c.args.queues c.args.q c.index_mut.result.now c.into_vec-queues.ensures c.index_mut.ensures.value c.requires))
