-- The least places are legal.
use Rattle.std.proofs.Common.{◌≡◌, ◌⊎◌, inl, inr, ℕ, ◌+◌, ◌<◌, ◌&&◌, ◌||◌, nat_lt, not, Bool, true, false, List, length, refl, ◌∙◌}
use Rattle.compile_heap.specs.Placing.{number_at, may_alias, overlap, goes_first, Places, IsLegal, IsLeast}
use Rattle.compile_heap.proofs.Order.{one_first}

overlap_turned : (a s b t : ℕ) → overlap a s b t ≡ overlap b t a s
overlap_turned a s b t = turned (nat_lt a (b + t)) (nat_lt b (a + s))
  where
    turned : (x y : Bool) → (x && y) ≡ (y && x)
    turned true true = refl
    turned true false = refl
    turned false true = refl
    turned false false = refl

alias_turned : (ordered : ℕ → ℕ → Bool) (i j : ℕ) → may_alias ordered i j ≡ may_alias ordered j i
alias_turned ordered i j = turned (ordered i j) (ordered j i)
  where
    turned : (x y : Bool) → (x || y) ≡ (y || x)
    turned true true = refl
    turned true false = refl
    turned false true = refl
    turned false false = refl

pub least_legal : (sizes : List ℕ) (ordered : ℕ → ℕ → Bool) (places : Places) → IsLeast sizes ordered places → IsLegal sizes ordered places
least_legal sizes ordered places L = record {
  aligned = λ i lt. (L.each i lt).aligned;
  inside = L.heap.within;
  apart = λ i j li lj ne never. apart i j li lj never (one_first sizes i j ne);
}
  where
    must : (o c : Bool) → o ≡ false → (not o && c) ≡ false → c ≡ false
    must false c e h = h
    must true c e h = absurd cc

    apart : (i j : ℕ) → i < length sizes → j < length sizes → may_alias ordered i j ≡ false → (goes_first sizes j i ≡ true) ⊎ (goes_first sizes i j ≡ true) → overlap (number_at places.offsets i) (number_at sizes i) (number_at places.offsets j) (number_at sizes j) ≡ false
    apart i j li lj never (inl first) = must (may_alias ordered i j) (overlap (number_at places.offsets i) (number_at sizes i) (number_at places.offsets j) (number_at sizes j)) never ((L.each i li).free j lj first)
    apart i j li lj never (inr first) =
        overlap_turned (number_at places.offsets i) (number_at sizes i) (number_at places.offsets j) (number_at sizes j)
        ∙ must (may_alias ordered j i) (overlap (number_at places.offsets j) (number_at sizes j) (number_at places.offsets i) (number_at sizes i)) (alias_turned ordered j i ∙ never) ((L.each j lj).free i li first)
