-- Which units are imports, as it is read.
use Rattle.std.proofs.Common.{◌≡◌, ℕ, zero, suc, ◌<◌, Bool, List, [], ◌∷◌, length, map, Some, sym, ap, arith}
use Rattle.std.specs.Prelude.{IfSome, is_some, slice_get}
use Rattle.frame.specs.Units.{Unit}

pub import_got : (units : List Unit) (unit : ℕ) (b : Bool) → unit < length units → IfSome (slice_get units unit) (λ u. b ≡ is_some u.imported) → slice_get (map (λ u. is_some u.imported) units) unit ≡ Some b
import_got [] unit b lt says = absurd (omega (arith, lt))
import_got (u ∷ units) zero b lt says = ap Some (sym says)
import_got (u ∷ units) (suc unit) b lt says = import_got units unit b (omega (arith, lt)) says
