-- Sizes of resources.
use Rattle.std.proofs.Common.{◌≡◌, ℕ, ◌<◌, ◌≤◌, ◌^◌, List, length, get_or, nat_le, true, sym, ap, subst, ◌∙◌, arith}
use Rattle.std.specs.List.{All}
use Rattle.std.specs.Option.{option_map_or}
use Rattle.std.proofs.lemmas.Bool.{and_parts}
use Rattle.std.proofs.lemmas.Bool.Decides.{nat_tests}
use Rattle.std.proofs.lemmas.Option.{slice_get-get_or, slice_get_past}
use Rattle.base.specs.Bounds.{size_allowed}
use Rattle.base.specs.Shapes.{bytes_of}
use Rattle.base.specs.declared.shape.Shape.{Shape}
use Rattle.frame.specs.declared.frame.Resource.{Resource}
use Rattle.law_window.specs.NamedJoins.{size_of}

allowed_small : (shape : Shape) → size_allowed shape ≡ true → bytes_of shape < 2 ^ 32
allowed_small shape e = let both = and_parts (nat_le 1 (bytes_of shape)) (nat_le (bytes_of shape) 16777216) e in grind (arith, nat_tests, both.1)

pub size_fits : (rs : List Resource) (k : ℕ) (r : Resource) → All (λ r. size_allowed r.shape ≡ true) rs → k < length rs → r ≡ get_or rs k r → bytes_of r.shape < 2 ^ 32
size_fits rs k r all lt is = allowed_small r.shape (subst (λ x. size_allowed x.shape ≡ true) (sym is) (all k r lt))

pub size_here : (rs : List Resource) (k size : ℕ) (r : Resource) → k < length rs → r ≡ get_or rs k r → size ≡ bytes_of (get_or rs k r).shape → size ≡ size_of rs k
size_here rs k size r lt is same = same ∙ sym (ap (λ o. option_map_or (λ x. bytes_of x.shape) o 0) (slice_get-get_or rs k r lt))

pub size_nowhere : (rs : List Resource) (k : ℕ) → length rs ≤ k → 0 ≡ size_of rs k
size_nowhere rs k past = sym (ap (λ o. option_map_or (λ x. bytes_of x.shape) o 0) (slice_get_past rs k past))
