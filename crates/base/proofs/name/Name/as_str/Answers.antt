use Rattle.base.proofs.NameLemmas.{name_is_text}
use Rattle.base.proofs.name.Name.as_str.Goals as goal

pub unreachable-requires : goal.unreachable-requires
unreachable-requires c = c.in-Err.ensures.cases.0 (rw c.as_bytes.ensures.bytes (name_is_text c.args.self.now c.as_bytes.ensures.name))
