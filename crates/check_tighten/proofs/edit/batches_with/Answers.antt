use Rattle.std.proofs.Common.{◌∙◌}
use Rattle.check_tighten.specs.Edits.{batch_with}
use Rattle.check_tighten.proofs.Lists.{written}
use Rattle.check_tighten.proofs.edit.batches_with.Goals as goal

pub returns : goal.returns
returns c = c.from_vec.ensures ∙ written (batch_with c.args.waits) c.into_vec-batches.result.items c.args.batches c.args.b c.index_mut.result.now c.into_vec-batches.ensures c.index_mut.ensures.value c.requires
