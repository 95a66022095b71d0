use Rattle.device_cache.specs.Draws.{seeded}
use Rattle.device_cache.proofs.tender.Tender.new.Goals as goal

pub returns : goal.returns
unfolding seeded
returns c = c.new.ensures
