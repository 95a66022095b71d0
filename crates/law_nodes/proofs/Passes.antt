-- Nodes that make available stand after an access, and those that make visible before it.
use Rattle.std.proofs.Common.{inl, inr, ℕ, sym, subst}
use Rattle.base_reach.specs.Paths.{then_on}
use Rattle.check_access.specs.Views.{View}
use Rattle.law_nodes.specs.Passing.{Before, UpTo}

pub up_to_on : (V : View) (x y z : ℕ) → UpTo V x y → UpTo V y z → UpTo V x z
up_to_on V x y z (inl e) q = subst (λ w. UpTo V w z) (sym e) q
up_to_on V x y z (inr p) (inl e) = inr (subst (λ w. Before V x w) e p)
up_to_on V x y z (inr p) (inr q) = inr (then_on p q)
