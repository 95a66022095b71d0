use Rattle.std.proofs.Common.{arith, ◌∙◌, sym}
use Rattle.std.proofs.lemmas.Grind.{common_steps}
use Rattle.kernel.proofs.Numbers.{byte_is}
use Rattle.kernel.proofs.texels.put_byte.Goals as goal

pub returns-clause-here : goal.returns-clause-here
returns-clause-here c = byte_is _ c.args.i ∙ grind (arith, common_steps)

pub returns-clause-others : goal.returns-clause-others
returns-clause-others c k ne = byte_is _ k ∙ grind (arith, common_steps) ∙ sym (byte_is c.args.bytes.now k)
