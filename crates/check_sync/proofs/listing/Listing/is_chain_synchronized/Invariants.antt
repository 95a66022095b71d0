use Rattle.std.proofs.Common.{◌≡◌, ◌<◌, ◌≤◌, ℕ}
use Rattle.check_sync.specs.Internal.Chains.{IsIn, Latest}
use Rattle.check_sync.specs.Internal.Places.{piece_of, SynchronizedAt}
use Rattle.check_sync.proofs.listing.Listing.is_chain_synchronized.Given as goal

abbrev pub invariant-back : goal.invariant-back
invariant-back l = record {
  low : l.m ≤ l.j;
  its : Latest l.chain.loads l.self.accesses l.m l.q l.m;
  seen : (i : ℕ) → l.m ≤ i → i < l.j → piece_of l.self.accesses i ≡ l.q → IsIn l.chain.loads l.self.accesses i → SynchronizedAt l.self.view l.self.accesses i l.j;
}

abbrev pub decreases-back : goal.decreases-back
decreases-back l = l.m
