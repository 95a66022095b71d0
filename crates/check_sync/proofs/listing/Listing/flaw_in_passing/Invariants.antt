use Rattle.check_sync.specs.Internal.Passings.{NotPassedUntil}
use Rattle.check_sync.proofs.listing.Listing.flaw_in_passing.Given as goal

abbrev pub invariant-loop-k : goal.invariant-loop-k
invariant-loop-k l = NotPassedUntil l.invisible_from l.self.view l.a l.b l.count l.k
