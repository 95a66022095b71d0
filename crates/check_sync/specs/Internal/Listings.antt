-- Accesses in an order, with the view that they are of.
use Rattle.std.specs.Prelude.{List}
use Rattle.check_access_order.specs.Ways.{HasWays}
use Rattle.check_access.specs.ValidView.{ValidView, Listed}
use Rattle.check_access.specs.Views.{View}
use Rattle.check_access.specs.declared.node_access.NodeAccess.{NodeAccess}

pub record InView : Type 0 where
  pub view : View
  pub accesses : List NodeAccess

-- what is known of them
pub record IsListing (listing : InView) : Type 0 where
  pub shaped : ValidView listing.view
  pub ways : HasWays listing.view
  pub listed : Listed listing.view listing.accesses
