use Rattle.base.proofs.NameLemmas.{front_padded}
use Rattle.base.proofs.name.padded.Goals as goal

pub returns : goal.returns
returns c = rw c.copy_from_slice.ensures.after (front_padded c.args.bytes.now)
