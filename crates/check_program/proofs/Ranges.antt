-- Numbers one after another, as an order.
use Rattle.std.proofs.Common.{◌≡◌, ◌≢◌, ℕ, zero, suc, ◌+◌, ◌<◌, ◌≤◌, Bool, true, List, [], ◌∷◌, refl, sym, ap, cond, subst, inl, inr, ⊎_elim, ne_eqb, arith}
use Rattle.std.specs.List.{range_with_len, list_all}
use Rattle.std.proofs.lemmas.Bool.{cases_eq, and_parts}
use Rattle.check_order.specs.Orders.{Among, Distinct, before_in, Earlier, NotAbove}

pub among_range : (k m x : ℕ) → Among x (range_with_len k m) → (k ≤ x) × (x < k + m)
among_range k zero x h = absurd h
among_range k (suc m) x (inl e) = (omega (arith, e), omega (arith, e))
among_range k (suc m) x (inr h) = let p = among_range (k + 1) m x h in (omega (arith, p.0), omega (arith, p.1))

pub range_among : (k m x : ℕ) → k ≤ x → x < k + m → Among x (range_with_len k m)
range_among k zero x a b = absurd (omega (arith, a, b))
range_among k (suc m) x a b = ⊎_elim
    (λ (e : k ≡ x). inl (sym e))
    (λ (ne : k ≢ x). inr (range_among (k + 1) m x (omega (arith, a, ne)) (omega (arith, b))))
    (cases_eq k x)

pub distinct_range : (k m : ℕ) → Distinct (range_with_len k m)
distinct_range k zero = tt
distinct_range k (suc m) = (λ h. let p = among_range (k + 1) m k h in omega (arith, p.0), distinct_range (k + 1) m)

pub earlier_range : (k m x n : ℕ) → k ≤ x → x < n → n < k + m → Earlier (range_with_len k m) x n
earlier_range k zero x n a b c = absurd (omega (arith, a, b, c))
earlier_range k (suc m) x n a b c =
    let rest = range_with_len (k + 1) m in
    let other : k ≢ n = λ e. omega (arith, a, b, e) in
    subst (λ l. Among x l) (sym (ap (λ t. cond t [] (k ∷ before_in rest n)) (ne_eqb k n other)))
    (⊎_elim
    (λ (e : k ≡ x). inl (sym e))
    (λ (ne : k ≢ x). inr (earlier_range (k + 1) m x n (omega (arith, a, ne)) b (omega (arith, c))))
    (cases_eq k x))

-- no list of these numbers and others above them stands below
pub least_range : (k m : ℕ) (other : List ℕ) → Distinct other → ((y : ℕ) → Among y other → k ≤ y) → ((y : ℕ) → k ≤ y → y < k + m → Among y other) → NotAbove (range_with_len k m) other
least_range k zero other once above all = tt
least_range k (suc m) [] once above all = absurd (all k (omega arith) (omega arith))
least_range k (suc m) (y ∷ other) once above all = ⊎_elim
    (λ (e : k ≡ y). inr (
      e,
      least_range (k + 1) m other once.1
          (λ z h. let low = above z (inr h) in
          let fresh : z ≢ y = λ same. once.0 (subst (λ v. Among v other) same h) in
          omega (arith, low, fresh, e))
          (λ z a b. ⊎_elim (λ (same : z ≡ y). absurd (omega (arith, same, a, e))) (λ h. h) (all z (omega (arith, a)) (omega (arith, b)))),
    ))
    (λ (ne : k ≢ y). inl (let low = above y (inl refl) in omega (arith, low, ne)))
    (cases_eq k y)

pub each_of : (test : ℕ → Bool) (list : List ℕ) → list_all test list ≡ true → (x : ℕ) → Among x list → test x ≡ true
each_of test [] all x h = absurd h
each_of test (y ∷ list) all x (inl e) = subst (λ v. test v ≡ true) (sym e) (and_parts (test y) (list_all test list) all).0
each_of test (y ∷ list) all x (inr h) = each_of test list (and_parts (test y) (list_all test list) all).1 x h
