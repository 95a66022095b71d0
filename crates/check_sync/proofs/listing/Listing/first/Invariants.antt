use Rattle.std.proofs.Common.{length}
use Rattle.check_sync.specs.Internal.Chains.{BothLinks}
use Rattle.check_sync.specs.Internal.Places.{PlacesSynchronizedBelow}
use Rattle.check_sync.proofs.listing.Listing.first.Given as goal

abbrev pub invariant-loop-j : goal.invariant-loop-j
invariant-loop-j l = record {
  synchronized : PlacesSynchronizedBelow l.self.view l.self.accesses l.j;
  links : BothLinks l.self.accesses (length l.self.view.pieces) l.j l.chains;
}
