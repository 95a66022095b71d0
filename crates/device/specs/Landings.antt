-- How an End can go.
use Rattle.device.specs.declared.job.Landed.{Landed}
use Rattle.device.specs.declared.job.Landed.TheVariants.{Done, NotBegun}

abbrev pub MatchLanded : Landed → Type 0 → Type 0 → Type 0
MatchLanded Done P Q = P
MatchLanded NotBegun P Q = Q
