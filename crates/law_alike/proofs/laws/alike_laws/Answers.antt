use Rattle.law_alike.proofs.Sound.{sound_alike}
use Rattle.law_alike.proofs.Transport.{alike_synchronized}
use Rattle.law_alike.proofs.laws.alike_laws.Goals as goal

pub returns : goal.returns
returns c = record { synchronized = alike_synchronized; sound = sound_alike }
