use Rattle.std.proofs.Common.{arith}
use Rattle.std.proofs.lemmas.Grind.{common_steps}
use Rattle.kernel.proofs.Numbers.{byte_is}
use Rattle.kernel.proofs.texels.get.Goals as goal

pub returns-in-R8-clause-value : goal.returns-in-R8-clause-value
returns-in-R8-clause-value c = grind (arith, common_steps, byte_is)
