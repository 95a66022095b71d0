-- Different numbers below a bound are no more than the bound.
use Rattle.std.proofs.Common.{◌≡◌, ℕ, zero, suc, ◌<◌, ◌≤◌, ◌==◌, Bool, true, false, sym, ap, ◌∙◌, subst, ⊎_elim, eq-eqb, if◌then◌else◌, arith}
use Rattle.std.proofs.lemmas.Bool.{cases_eq, ne_eqb}

abbrev pub Differ : (ℕ → ℕ) → ℕ → Type 0
Differ f count = (i k : ℕ) → i < count → k < count → f i ≡ f k → i ≡ k

-- where one of them is n, the last one takes its place
abbrev moved : (ℕ → ℕ) → ℕ → ℕ → ℕ → ℕ
moved f n last i = if f i == n then f last else f i

pub pigeons : (n count : ℕ) (f : ℕ → ℕ) → ((i : ℕ) → i < count → f i < n) → Differ f count → count ≤ n
pigeons zero zero f below differ = omega arith
pigeons zero (suc count) f below differ = absurd (let l = below 0 (omega arith) in omega (arith, l))
pigeons (suc n) zero f below differ = omega arith
pigeons (suc n) (suc count) f below differ = let l = pigeons n count (moved f n count) less apart in omega (arith, l)
  where
    at : (i : ℕ) (b : Bool) → (f i == n) ≡ b → moved f n count i ≡ (if b then f count else f i)
    at i b e = ap (λ t. if t then f count else f i) e

    last_not : (i : ℕ) → i < count → f i ≡ n → f count ≡ n → ⊥
    last_not i lt e h = let s = differ i count (omega (arith, lt)) (omega arith) (e ∙ sym h) in omega (arith, s, lt)

    less : (i : ℕ) → i < count → moved f n count i < n
    less i lt = ⊎_elim
        (λ e. subst (λ z. z < n) (sym (at i true (eq-eqb (f i) n e))) (let l = below count (omega arith) in let ne : f count ≡ n → ⊥ = last_not i lt e in omega (arith, l, ne)))
        (λ ne. subst (λ z. z < n) (sym (at i false (ne_eqb (f i) n ne))) (let l = below i (omega (arith, lt)) in omega (arith, l, ne)))
        (cases_eq (f i) n)

    apart : Differ (moved f n count) count
    apart i k a b e = ⊎_elim
        (λ p. ⊎_elim
        (λ q. differ i k (omega (arith, a)) (omega (arith, b)) (p ∙ sym q))
        (λ q. absurd (let s = differ count k (omega arith) (omega (arith, b)) (sym (at i true (eq-eqb (f i) n p)) ∙ e ∙ at k false (ne_eqb (f k) n q)) in omega (arith, s, b)))
        (cases_eq (f k) n))
        (λ p. ⊎_elim
        (λ q. absurd (let s = differ i count (omega (arith, a)) (omega arith) (sym (at i false (ne_eqb (f i) n p)) ∙ e ∙ at k true (eq-eqb (f k) n q)) in omega (arith, s, a)))
        (λ q. differ i k (omega (arith, a)) (omega (arith, b)) (sym (at i false (ne_eqb (f i) n p)) ∙ e ∙ at k false (ne_eqb (f k) n q)))
        (cases_eq (f k) n))
        (cases_eq (f i) n)
