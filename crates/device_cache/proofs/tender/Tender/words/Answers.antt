use Rattle.device_cache.specs.Draws.{after_five}
use Rattle.device_cache.proofs.tender.Tender.words.Goals as goal

pub returns-clause-after : goal.returns-clause-after
unfolding after_five
returns-clause-after c = cc
