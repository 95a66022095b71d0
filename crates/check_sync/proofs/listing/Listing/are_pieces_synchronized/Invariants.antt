use Rattle.check_sync.proofs.Walks.{SynchronizedAmong}
use Rattle.check_sync.proofs.listing.Listing.are_pieces_synchronized.Given as goal

abbrev pub invariant-loop-q : goal.invariant-loop-q
invariant-loop-q l = SynchronizedAmong l.self.view l.self.accesses l.chain.loads l.j l.q-items l.q-index
