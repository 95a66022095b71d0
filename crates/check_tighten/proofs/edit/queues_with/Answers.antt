use Rattle.std.proofs.Common.{◌≤◌, length, sym, subst}
use Rattle.check_tighten.specs.Edits.{queue_with}
use Rattle.check_tighten.proofs.Lists.{changed_past}
use Rattle.check_tighten.proofs.edit.queues_with.Goals as goal

pub returns-else-q-len : goal.returns-else-q-len
returns-else-q-len c =
    let past : length c.args.queues ≤ c.args.q = subst (λ n. n ≤ c.args.q) c.len.ensures c.if-q-len.false in
    sym (changed_past (queue_with c.args.b c.args.waits) c.args.q c.args.queues past)
