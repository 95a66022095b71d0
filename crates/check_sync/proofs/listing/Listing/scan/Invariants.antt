use Rattle.std.proofs.Common.{◌<◌, ℕ}
use Rattle.check_sync.specs.Internal.Places.{SynchronizedAt}
use Rattle.check_sync.proofs.listing.Listing.scan.Given as goal

abbrev pub invariant-loop-i : goal.invariant-loop-i
invariant-loop-i l = (k : ℕ) → k < l.i → SynchronizedAt l.self.view l.self.accesses k l.j
