use Rattle.device_cache.proofs.Calls.{keeps_stored}
use Rattle.device_cache.proofs.table.Segments.take_spare.Goals as goal

pub returns-clause-keeps : goal.returns-clause-keeps
returns-clause-keeps c =
    let old = c.args.self.now in
    let new = c.empty.new.self in
    keeps_stored old new new.slots old.stores_left c.empty.ensures.same c.empty.ensures.junk
