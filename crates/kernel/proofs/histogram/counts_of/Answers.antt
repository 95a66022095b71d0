use Rattle.std.proofs.lemmas.List.{get_or-replicate}
use Rattle.kernel.proofs.histogram.counts_of.Goals as goal

pub loop-byte-init : goal.loop-byte-init
loop-byte-init c v lt = get_or-replicate 256 v 0 0 lt
