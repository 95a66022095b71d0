-- Laws of the order of accesses where barriers may be recorded together.
use Rattle.std.specs.Prelude.{◌≡◌, ◌↔◌, ℕ, true, [], Option, Some}
use Rattle.check_order.specs.Edges.{node_at}
use Rattle.check_access.specs.Views.{View}
use Rattle.check_access_order.specs.Edges.{is_command}
use Rattle.check_access_order.specs.Order as alone
use Rattle.check_access_order.specs.Stages.{IsStage}
use Rattle.check_table.specs.Joined.{Joined, joined, Before, EnteredFrom, InOrder}

-- order goes on through what a command does in a stage
abbrev pub GoesThrough : Joined → Type 0
GoesThrough W = (n k m stage : ℕ) (a b : Option ℕ) → IsStage stage → is_command (node_at W.nodes k).kind ≡ true → InOrder W n a k (Some stage) → InOrder W k (Some stage) m b → InOrder W n a m b

-- of nodes that stand alone it is the order of accesses
pub record IsSame (V : View) : Type 0 where
  pub before : (x y : ℕ) → Before (joined V.nodes []) x y ↔ alone.Before V x y
  pub entered : (x m : ℕ) (b : Option ℕ) → EnteredFrom (joined V.nodes []) x m b ↔ ((y : ℕ) × alone.UpTo V x y × alone.EntersIn V.nodes b y m)
  pub in_order : (n m : ℕ) (a b : Option ℕ) → InOrder (joined V.nodes []) n a m b ↔ ((x : ℕ) × (y : ℕ) × alone.LeavesIn V.nodes a n x × alone.UpTo V x y × alone.EntersIn V.nodes b y m)
