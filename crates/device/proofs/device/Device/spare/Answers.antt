use Rattle.device.proofs.Spared.{kept_table}
use Rattle.device.proofs.device.Device.spare.Goals as goal

pub invariant_of-self : goal.invariant_of-self
invariant_of-self c =
    let e = c.take_spare.ensures in
    kept_table c.self.inside c.self.invariant c.take_spare.new.self e.bytes e.keeps e.cuts e.stores
