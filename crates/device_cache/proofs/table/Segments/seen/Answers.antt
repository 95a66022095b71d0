use Rattle.device_cache.proofs.Running.{loaded}
use Rattle.device_cache.proofs.table.Segments.seen.Goals as goal

pub returns : goal.returns
returns c = loaded c.args.self.now c.args.agent c.args.memory c.args.start c.args.len c.in_ok-bytes.bytes c.requires.agent c.in_ok-bytes.ensures.len c.in_ok-bytes.ensures.inside c.in_ok-bytes.ensures.bytes
