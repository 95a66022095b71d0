use Rattle.std.proofs.Common.{below_more}
use Rattle.check_sync.proofs.listing.Listing.scan.Goals as goal

pub loop-i-preserved : goal.loop-i-preserved
loop-i-preserved c = below_more _ _ c.loop-i.invariant c.in_default.ensures
