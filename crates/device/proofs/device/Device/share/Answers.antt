use Rattle.std.proofs.Common.{sym, subst}
use Rattle.device_cache.specs.Tables.{Table}
use Rattle.device.proofs.device.Device.share.Goals as goal
use Rattle.device.specs.Internal.Kept.{IsKept}

pub invariant_of-self : goal.invariant_of-self
invariant_of-self c = let i = c.self.inside in subst (λ (t : Table). IsKept (record i { table = t })) (sym c.share.ensures) c.self.invariant
