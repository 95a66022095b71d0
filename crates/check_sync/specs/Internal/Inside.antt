-- What a listing holds.
use Rattle.check_sync.specs.Internal.Listings.{InView, IsListing}
use Rattle.check_sync.specs.declared.listing.Listing.TheInside.{Inside}
use Rattle.check_table.specs.Programs.{TableOf}

abbrev pub in_view : Inside → InView
in_view inside = record { view = inside.view.now; accesses = inside.accesses.now }

pub record IsKnown (inside : Inside) : Type 0 where
  pub listing : IsListing (in_view inside)
  pub table : TableOf inside.view.now inside.table.now
