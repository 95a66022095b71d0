use Rattle.std.proofs.Common.{MatchOption, subst}
use Rattle.check_sync.specs.Synchronized.{PairSynchronized}
use Rattle.check_sync.specs.Internal.Places.{node_access_at, HasFlaw}
use Rattle.check_sync.proofs.listing.Listing.flaw_at.Goals as goal

pub returns : goal.returns
returns c =
    subst (λ a. MatchOption c.flaw_between.result (PairSynchronized c.args.self.now.view a (node_access_at c.args.self.now.accesses c.args.j)) (λ flaw. HasFlaw flaw c.args.self.now.view a (node_access_at c.args.self.now.accesses c.args.j))) c.access.ensures.is
    (subst (λ b. MatchOption c.flaw_between.result (PairSynchronized c.args.self.now.view c.access.result b) (λ flaw. HasFlaw flaw c.args.self.now.view c.access.result b)) c.access-2.ensures.is c.flaw_between.ensures)
