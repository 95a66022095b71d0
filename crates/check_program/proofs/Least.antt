-- There is one least order.
use Rattle.std.proofs.Common.{◌≡◌, ℕ, ◌<◌, List, [], ◌∷◌, refl, ap₂, inl, inr, arith}
use Rattle.check_order.specs.Orders.{NotAbove, IsLeast}
use Rattle.check_order.specs.declared.node.Node.{Node}

not_both : (x y : ℕ) → x < y → y < x → ⊥
not_both x y a b = omega arith

not_self : (x y : ℕ) → x < y → y ≡ x → ⊥
not_self x y a e = omega arith

pub same_lists : (xs ys : List ℕ) → NotAbove xs ys → NotAbove ys xs → xs ≡ ys
same_lists [] [] a b = refl
same_lists [] (y ∷ ys) a b = absurd b
same_lists (x ∷ xs) [] a b = absurd a
same_lists (x ∷ xs) (y ∷ ys) (inl a) (inl b) = absurd (not_both x y a b)
same_lists (x ∷ xs) (y ∷ ys) (inl a) (inr b) = absurd (not_self x y a b.0)
same_lists (x ∷ xs) (y ∷ ys) (inr a) (inl b) = absurd (not_self y x b a.0)
same_lists (x ∷ xs) (y ∷ ys) (inr a) (inr b) = ap₂ (λ v vs. v ∷ vs) a.0 (same_lists xs ys a.1 b.1)

pub one_least : (nodes : List Node) (first second : List ℕ) → IsLeast nodes first → IsLeast nodes second → first ≡ second
one_least nodes first second a b = same_lists first second (a.least second b.order) (b.least first a.order)
