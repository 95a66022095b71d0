use Rattle.std.proofs.Common.{length}
use Rattle.device_cache.proofs.Running.{loaded}
use Rattle.device_cache.proofs.table.Segments.load.Goals as goal

pub returns : goal.returns
returns c = loaded c.args.self.now c.args.agent c.args.memory c.args.start (length c.args.out.now) c.copy.new.out c.requires.agent c.copy.auto.out c.copy.ensures.inside c.copy.ensures.bytes
