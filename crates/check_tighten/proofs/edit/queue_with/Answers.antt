use Rattle.std.proofs.Common.{◌≤◌, length, ap, sym, subst}
use Rattle.check_tighten.specs.Edits.{batch_with}
use Rattle.check_tighten.proofs.Lists.{changed_past}
use Rattle.check_tighten.proofs.edit.queue_with.Goals as goal

pub returns-else-b-len : goal.returns-else-b-len
returns-else-b-len c =
    let past : length c.args.queue.batches ≤ c.args.b = subst (λ n. n ≤ c.args.b) c.len.ensures c.if-b-len.false in
    ap (λ l. record c.args.queue { batches = l }) (sym (changed_past (batch_with c.args.waits) c.args.b c.args.queue.batches past))
