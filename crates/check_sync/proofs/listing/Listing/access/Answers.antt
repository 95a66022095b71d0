use Rattle.std.proofs.Common.{◌<◌, length, sym, subst}
use Rattle.check_sync.specs.Internal.Listings.{IsListing}
use Rattle.check_sync.specs.Internal.Places.{node_access_at, Known}
use Rattle.check_sync.proofs.Walks.{known_at}
use Rattle.check_sync.proofs.listing.Listing.access.Goals as goal

pub returns-clause-known : goal.returns-clause-known
returns-clause-known c = subst (λ v. Known v.view (node_access_at c.self.inside.accesses.now c.args.i)) c.self.view_is
    (known_at c.self.inside.view.now c.self.inside.accesses.now c.args.i c.self.invariant.listing.shaped c.self.invariant.listing.listed (subst (λ v. c.args.i < length v.accesses) (sym c.self.view_is) c.requires.i))

pub returns-clause-listing : goal.returns-clause-listing
returns-clause-listing c = subst IsListing c.self.view_is c.self.invariant.listing
