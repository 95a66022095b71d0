use Rattle.std.proofs.Common.{arith}
use Rattle.kernel.proofs.Numbers.{word_is}
use Rattle.kernel.proofs.texels.get_word.Goals as goal

pub returns : goal.returns
returns c = omega (arith, c.from_le_bytes.ensures, word_is c.args.bytes.now c.args.i)
