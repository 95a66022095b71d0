-- Accesses of one node to the same bytes, around a change.
use Rattle.std.specs.Prelude.{◌≡◌, ℕ, true}
use Rattle.check_access.specs.AccessKinds.{changes}
use Rattle.check_access.specs.ValidView.{Precedes}
use Rattle.check_access.specs.Views.{View, overlap}
use Rattle.check_access.specs.declared.access.Access.{Access}
use Rattle.check_access_order.specs.Order.{Leaves, Enters}

-- what waits for a node's change waits for what the node did before on the piece, and what the change waits for the node's later
-- accesses to its bytes wait for
pub record HasWays (V : View) : Type 0 where
  pub leaves : (n x : ℕ) (a c : Access) → Precedes V n a c → changes c.kind ≡ true → a.piece ≡ c.piece → Leaves V n c x → Leaves V n a x
  pub enters : (n y : ℕ) (c b : Access) → Precedes V n c b → changes c.kind ≡ true → overlap V c.piece b.piece ≡ true → Enters V y n c → Enters V y n b
