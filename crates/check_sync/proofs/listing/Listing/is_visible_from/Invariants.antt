use Rattle.std.proofs.Common.{ℕ, ◌<◌}
use Rattle.check_sync.specs.Internal.Around.{down_from}
use Rattle.check_access_order.specs.Order.{UpTo}
use Rattle.check_access_order.specs.Passing.{MadeVisibleBy}
use Rattle.check_sync.proofs.listing.Listing.is_visible_from.Given as goal

abbrev pub invariant-loop-k : goal.invariant-loop-k
invariant-loop-k l = (i : ℕ) → i < l.k → UpTo l.self.view l.x (down_from l.b.node l.count i) × MadeVisibleBy l.self.view l.b.node l.b.access (down_from l.b.node l.count i) → ⊥
