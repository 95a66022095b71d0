-- Nodes sorted by levels that no edge lowers are in order.
use Rattle.std.proofs.Common.{◌≡◌, ◌⊎◌, inl, inr, ℕ, zero, suc, ◌<◌, ◌≤◌, nat_le, if◌then◌else◌, Bool, true, false, List, [], ◌∷◌, length, refl, sym, ◌∙◌, subst, arith}
use Rattle.std.proofs.lemmas.Bool.{cases_eq, cases_lt}
use Rattle.law_plan.specs.Laws.{LowerFirst}
use Rattle.law_plan.specs.Levels.{Under, Leveled, placed, by_level}
use Rattle.check_order.proofs.InOrder.{past}
use Rattle.check_order.specs.Orders.{Among, Distinct, Earlier, Order, IsStuck}
use Rattle.check_order.specs.declared.node.Node.{Node}

abbrev IsSorted : (ℕ → ℕ) → List ℕ → Type 0
IsSorted level [] = Unit {0}
IsSorted level (x ∷ rest) = ((y : ℕ) → Among y rest → Under level x y) × IsSorted level rest

not_itself : (level : ℕ → ℕ) (x : ℕ) → Under level x x → ⊥
not_itself level x (inl l) = omega (arith, l)
not_itself level x (inr e) = let l = e.1 in omega (arith, l)

not_back : (level : ℕ → ℕ) (x n : ℕ) → Under level x n → Under level n x → ⊥
not_back level x n (inl l) (inl m) = omega (arith, l, m)
not_back level x n (inl l) (inr e) = let m = e.0 in omega (arith, l, m)
not_back level x n (inr e) (inl m) = let l = e.0 in omega (arith, l, m)
not_back level x n (inr e) (inr f) = let l = e.1 in let m = f.1 in omega (arith, l, m)

-- MEMBERS

from_placed_step : (n x y : ℕ) (rest more : List ℕ) (b : Bool) → (Among y more → (y ≡ n) ⊎ Among y rest) → Among y (if b then x ∷ more else n ∷ x ∷ rest) → (y ≡ n) ⊎ Among y (x ∷ rest)
from_placed_step n x y rest more true next (inl e) = inr (inl e)
from_placed_step n x y rest more true next (inr a) = go (next a)
  where
    go : (y ≡ n) ⊎ Among y rest → (y ≡ n) ⊎ Among y (x ∷ rest)
    go (inl e) = inl e
    go (inr r) = inr (inr r)
from_placed_step n x y rest more false next (inl e) = inl e
from_placed_step n x y rest more false next (inr a) = inr a

from_placed : (level : ℕ → ℕ) (n y : ℕ) (xs : List ℕ) → Among y (placed level n xs) → (y ≡ n) ⊎ Among y xs
from_placed level n y [] (inl e) = inl e
from_placed level n y [] (inr none) = absurd none
from_placed level n y (x ∷ rest) h = from_placed_step n x y rest (placed level n rest) (nat_le (level x) (level n)) (from_placed level n y rest) h

to_placed_step : (n x y : ℕ) (rest more : List ℕ) (b : Bool) → ((y ≡ n) ⊎ Among y rest → Among y more) → (y ≡ n) ⊎ Among y (x ∷ rest) → Among y (if b then x ∷ more else n ∷ x ∷ rest)
to_placed_step n x y rest more true next (inl e) = inr (next (inl e))
to_placed_step n x y rest more true next (inr (inl e)) = inl e
to_placed_step n x y rest more true next (inr (inr a)) = inr (next (inr a))
to_placed_step n x y rest more false next (inl e) = inl e
to_placed_step n x y rest more false next (inr a) = inr a

to_placed : (level : ℕ → ℕ) (n y : ℕ) (xs : List ℕ) → (y ≡ n) ⊎ Among y xs → Among y (placed level n xs)
to_placed level n y [] h = h
to_placed level n y (x ∷ rest) h = to_placed_step n x y rest (placed level n rest) (nat_le (level x) (level n)) (to_placed level n y rest) h

below : (level : ℕ → ℕ) (k y : ℕ) → Among y (by_level level k) → y < k
below level zero y none = absurd none
below level (suc k) y h = go (from_placed level k y (by_level level k) h) (below level k y)
  where
    go : (y ≡ k) ⊎ Among y (by_level level k) → (Among y (by_level level k) → y < k) → y < suc k
    go (inl e) next = omega (arith, e)
    go (inr a) next = let l = next a in omega (arith, l)

all : (level : ℕ → ℕ) (k y : ℕ) → y < k → Among y (by_level level k)
all level zero y lt = absurd (no lt)
  where
    no : y < 0 → ⊥
    no l = omega (arith, l)
all level (suc k) y lt = to_placed level k y (by_level level k) (go (cases_eq y k) (all level k y))
  where
    go : (y ≡ k) ⊎ (y ≡ k → ⊥) → (y < k → Among y (by_level level k)) → (y ≡ k) ⊎ Among y (by_level level k)
    go (inl e) next = inl e
    go (inr ne) next = inr (next (omega (arith, lt, ne)))

-- ORDER

le_of : (a b : ℕ) → nat_le a b ≡ true → a ≤ b
le_of a b e = grind arith

less_of : (a b : ℕ) → nat_le a b ≡ false → b < a
less_of a b e = grind arith

pub lifted : (level : ℕ → ℕ) (x n : ℕ) → level x ≤ level n → x < n → Under level x n
lifted level x n le lt = go (cases_lt (level x) (level n))
  where
    go : (level x < level n) ⊎ (level n ≤ level x) → Under level x n
    go (inl l) = inl l
    go (inr g) = inr (omega (arith, le, g), lt)

raised : (level : ℕ → ℕ) (n x y : ℕ) → level n < level x → Under level x y → Under level n y
raised level n x y l (inl m) = inl (omega (arith, l, m))
raised level n x y l (inr e) = let m = e.0 in inl (omega (arith, l, m))

placed_sorted : (level : ℕ → ℕ) (n : ℕ) (xs : List ℕ) → ((y : ℕ) → Among y xs → y < n) → IsSorted level xs → IsSorted level (placed level n xs)
placed_sorted level n [] low S = (λ y none. absurd none, tt)
placed_sorted level n (x ∷ rest) low S = go (nat_le (level x) (level n)) refl (placed_sorted level n rest (λ y a. low y (inr a)) S.1)
  where
    go : (b : Bool) → nat_le (level x) (level n) ≡ b → IsSorted level (placed level n rest) → IsSorted level (if b then x ∷ placed level n rest else n ∷ x ∷ rest)
    go true e next = (λ y a. first y (from_placed level n y rest a), next)
      where
        first : (y : ℕ) → (y ≡ n) ⊎ Among y rest → Under level x y
        first y (inl i) = subst (Under level x) (sym i) (lifted level x n (le_of (level x) (level n) e) (low x (inl refl)))
        first y (inr r) = S.0 y r
    go false e next = (λ y a. first y a, S)
      where
        first : (y : ℕ) → Among y (x ∷ rest) → Under level n y
        first y (inl i) = subst (Under level n) (sym i) (inl (less_of (level x) (level n) e))
        first y (inr r) = raised level n x y (less_of (level x) (level n) e) (S.0 y r)

by_level_sorted : (level : ℕ → ℕ) (k : ℕ) → IsSorted level (by_level level k)
by_level_sorted level zero = tt
by_level_sorted level (suc k) = placed_sorted level k (by_level level k) (below level k) (by_level_sorted level k)

distinct : (level : ℕ → ℕ) (xs : List ℕ) → IsSorted level xs → Distinct xs
distinct level [] S = tt
distinct level (x ∷ rest) S = (λ a. not_itself level x (S.0 x a), distinct level rest S.1)

earlier : (level : ℕ → ℕ) (xs : List ℕ) → IsSorted level xs → (x n : ℕ) → Among x xs → Among n xs → Under level x n → Earlier xs x n
earlier level [] S x n ax an u = ax
earlier level (z ∷ rest) S x n ax an u = go (cases_eq z n) ax an (λ a b. earlier level rest S.1 x n a b u)
  where
    go : (z ≡ n) ⊎ (z ≡ n → ⊥) → Among x (z ∷ rest) → Among n (z ∷ rest) → (Among x rest → Among n rest → Earlier rest x n) → Earlier (z ∷ rest) x n
    go (inl e) (inl f) b next = absurd (not_itself level n (subst (λ i. Under level i n) (f ∙ e) u))
    go (inl e) (inr a) b next = absurd (not_back level x n u (subst (λ i. Under level i x) e (S.0 x a)))
    go (inr ne) (inl f) b next = subst (Among x) (sym (past z n rest ne)) (inl f)
    go (inr ne) (inr a) (inl f) next = absurd (ne (sym f))
    go (inr ne) (inr a) (inr b) next = subst (Among x) (sym (past z n rest ne)) (inr (next a b))

pub lower_first : (level : ℕ → ℕ) (count : ℕ) → LowerFirst level count
lower_first level count x n lx ln u = earlier level (by_level level count) (by_level_sorted level count) x n (all level count x lx) (all level count n ln) u

pub leveled_order : (nodes : List Node) (level : ℕ → ℕ) → Leveled nodes level → Order nodes (by_level level (length nodes))
leveled_order nodes level L = record {
  once = distinct level (by_level level (length nodes)) sorted;
  all = all level (length nodes);
  only = below level (length nodes);
  turns = record {
    queue = λ x n a q l s. let t = below level (length nodes) n a in before x n (omega (arith, l, t)) a (lifted level x n (L.queue x n q l t s) l);
    met = λ n a w. let m = L.met n (below level (length nodes) n a) w in (m.0, m.1, before m.0 n m.2 a (inl m.3));
  };
  forward = λ x n a e. let f = L.forward x n (below level (length nodes) n a) e in before x n f.0 a f.1;
}
  where
    sorted : IsSorted level (by_level level (length nodes))
    sorted = by_level_sorted level (length nodes)

    before : (x n : ℕ) → x < length nodes → Among n (by_level level (length nodes)) → Under level x n → Earlier (by_level level (length nodes)) x n
    before x n lt a u = lower_first level (length nodes) x n lt (below level (length nodes) n a) u

pub never_stuck : (nodes : List Node) (level : ℕ → ℕ) → Leveled nodes level → (q n : ℕ) → IsStuck nodes q n → ⊥
never_stuck nodes level L q n S = S.none (by_level level (length nodes)) (leveled_order nodes level L)
