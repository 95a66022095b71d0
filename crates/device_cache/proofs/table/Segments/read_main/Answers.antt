use Rattle.std.proofs.Common.{length}
use Rattle.device_cache.proofs.Running.{read}
use Rattle.device_cache.proofs.table.Segments.read_main.Goals as goal

pub returns : goal.returns
returns c = read c.args.self.now c.args.memory c.args.start (length c.args.out.now) c.copy.new.out c.copy.auto.out c.copy.ensures.inside c.copy.ensures.bytes
