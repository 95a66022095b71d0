use Rattle.std.proofs.Common.{refl}
use Rattle.std.proofs.lemmas.Nat.Bits.{shr_and_one}
use Rattle.base_reach.specs.Bits.{bit}
use Rattle.base_reach.proofs.bits.has_bit.Goals as goal

pub returns : goal.returns
unfolding bit
returns c = rw shr_and_one refl
