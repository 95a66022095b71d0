use Rattle.std.proofs.Common.{◌∙◌, length, take}
use Rattle.base.specs.Operands.{sources_of}
use Rattle.device.proofs.running.store_in.Goals as goal

pub returns : goal.returns
returns c = c.run.ensures ∙ c.requires.same (take (length (sources_of c.args.op.now)) c.args.loaded.now)
