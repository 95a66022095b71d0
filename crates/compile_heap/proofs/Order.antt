-- The order of placing is strict and total.
use Rattle.std.proofs.Common.{◌≡◌, ◌≢◌, ◌==◌, ◌||◌, ◌&&◌, ℕ, ◌<◌, List, nat_lt, Bool, true, false, refl, sym, arith, ◌⊎◌, inl, inr, eqb-true, eq-eqb}
use Rattle.std.proofs.lemmas.Bool.{ltb-true, lt-ltb, or_left, or_right, and_from}
use Rattle.compile_heap.specs.Placing.{number_at, goes_first}

abbrev pub Precedes : List ℕ → ℕ → ℕ → Type 0
Precedes sizes j i = (number_at sizes i < number_at sizes j) ⊎ ((number_at sizes i ≡ number_at sizes j) × (j < i))

pub precedes_of : (sizes : List ℕ) (j i : ℕ) → goes_first sizes j i ≡ true → Precedes sizes j i
precedes_of sizes j i e = go (nat_lt (number_at sizes i) (number_at sizes j)) (number_at sizes i == number_at sizes j) (nat_lt j i) refl refl refl e
  where
    go : (p q r : Bool) → nat_lt (number_at sizes i) (number_at sizes j) ≡ p → (number_at sizes i == number_at sizes j) ≡ q → nat_lt j i ≡ r → (p || (q && r)) ≡ true → Precedes sizes j i
    go true q r p-is q-is r-is e = inl (ltb-true (number_at sizes i) (number_at sizes j) p-is)
    go false true true p-is q-is r-is e = inr (eqb-true (number_at sizes i) (number_at sizes j) q-is, ltb-true j i r-is)
    go false true false p-is q-is r-is e = absurd cc
    go false false r p-is q-is r-is e = absurd cc

pub goes_by : (sizes : List ℕ) (j i : ℕ) → Precedes sizes j i → goes_first sizes j i ≡ true
goes_by sizes j i (inl lt) = or_left (nat_lt (number_at sizes i) (number_at sizes j)) (number_at sizes i == number_at sizes j && nat_lt j i) (lt-ltb (number_at sizes i) (number_at sizes j) lt)
goes_by sizes j i (inr h) = or_right (nat_lt (number_at sizes i) (number_at sizes j)) (number_at sizes i == number_at sizes j && nat_lt j i) (and_from (number_at sizes i == number_at sizes j) (nat_lt j i) (eq-eqb (number_at sizes i) (number_at sizes j) h.0) (lt-ltb j i h.1))

-- of two resources not both go first
pub not_both : (sizes : List ℕ) (i j : ℕ) → goes_first sizes i j ≡ true → goes_first sizes j i ≡ true → ⊥
not_both sizes i j e f = go (precedes_of sizes i j e) (precedes_of sizes j i f)
  where
    go : Precedes sizes i j → Precedes sizes j i → ⊥
    go (inl a) (inl b) = absurd (omega arith)
    go (inl a) (inr b) = let c = b.0 in absurd (omega (arith, c, a))
    go (inr a) (inl b) = let c = a.0 in absurd (omega (arith, c, b))
    go (inr a) (inr b) = let c = a.1 in let d = b.1 in absurd (omega (arith, c, d))

side : (n m : ℕ) → (n < m) ⊎ ((n ≡ m) ⊎ (m < n))
side n m = grind arith

-- of two one goes first
pub one_first : (sizes : List ℕ) (i j : ℕ) → i ≢ j → (goes_first sizes j i ≡ true) ⊎ (goes_first sizes i j ≡ true)
one_first sizes i j ne = go (side (number_at sizes i) (number_at sizes j)) (side i j)
  where
    go : (number_at sizes i < number_at sizes j) ⊎ ((number_at sizes i ≡ number_at sizes j) ⊎ (number_at sizes j < number_at sizes i)) → (i < j) ⊎ ((i ≡ j) ⊎ (j < i)) → (goes_first sizes j i ≡ true) ⊎ (goes_first sizes i j ≡ true)
    go (inl l) h = inl (goes_by sizes j i (inl l))
    go (inr (inr l)) h = inr (goes_by sizes i j (inl l))
    go (inr (inl e)) (inl l) = inr (goes_by sizes i j (inr (sym e, l)))
    go (inr (inl e)) (inr (inl same)) = absurd (ne same)
    go (inr (inl e)) (inr (inr l)) = inl (goes_by sizes j i (inr (e, l)))
