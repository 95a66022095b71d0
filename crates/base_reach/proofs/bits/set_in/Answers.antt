use Rattle.base_reach.proofs.WordBits.{with_bit}
use Rattle.base_reach.proofs.bits.set_in.Goals as goal

pub returns-clause-bits : goal.returns-clause-bits
returns-clause-bits c b lt = with_bit c.args.words.now c.args.place b c.requires.within lt
