-- Numbers below a bound that pass a test.
use Rattle.std.proofs.Common.{◌≡◌, ℕ, zero, suc, ◌+◌, ◌<◌, Bool, true, false, ◌||◌, Some, refl, sym, ap, ◌∙◌, ⊎_elim, add-one, if◌then◌else◌, arith}
use Rattle.std.proofs.lemmas.Bool.{cases_lt, cases_Bool, false≢true, or_cases, or_left, or_right, or_from}
use Rattle.device_nodes.specs.Internal.Blocked.{some_below, last_below}

pub some_at : (f : ℕ → Bool) (n x : ℕ) → x < n → f x ≡ true → some_below f n ≡ true
some_at f zero x lt h = absurd (omega (arith, lt))
some_at f (suc n) x lt h = ⊎_elim
    (λ l. or_right (f n) (some_below f n) (some_at f n x l h))
    (λ g. let same : n ≡ x = omega (arith, lt, g) in or_left (f n) (some_below f n) (ap f same ∙ h))
    (cases_lt x n)

pub some_one : (f : ℕ → Bool) (n : ℕ) → some_below f n ≡ true → (x : ℕ) × (x < n) × (f x ≡ true)
some_one f zero h = absurd (false≢true h)
some_one f (suc n) h = ⊎_elim
    (λ e. (n, omega arith, e))
    (λ e. let r = some_one f n e in (r.0, omega (arith, r.1), r.2))
    (or_cases (f n) (some_below f n) h)

pub none_at : (f : ℕ → Bool) (n x : ℕ) → some_below f n ≡ false → x < n → f x ≡ false
none_at f n x h lt = ⊎_elim (λ e. absurd (false≢true (sym h ∙ some_at f n x lt e))) (λ e. e) (cases_Bool (f x))

pub none_below : (f : ℕ → Bool) (n : ℕ) → ((x : ℕ) → x < n → f x ≡ false) → some_below f n ≡ false
none_below f zero h = refl
none_below f (suc n) h = or_from (f n) (some_below f n) (h n (omega arith)) (none_below f n (λ x lt. h x (omega (arith, lt))))

pub some_more : (f : ℕ → Bool) (n : ℕ) → some_below f (n + 1) ≡ (f n || some_below f n)
some_more f n = ap (some_below f) (add-one n)

-- tests that agree below n
pub some_same : (f g : ℕ → Bool) (n : ℕ) → ((x : ℕ) → x < n → f x ≡ g x) → some_below f n ≡ some_below g n
some_same f g zero h = refl
some_same f g (suc n) h = ap (λ t. t || some_below f n) (h n (omega arith)) ∙ ap (λ t. g n || t) (some_same f g n (λ x lt. h x (omega (arith, lt))))

-- THE LAST ONE

pub record IsLast (f : ℕ → Bool) (n x : ℕ) : Type 0 where
  pub below : x < n
  pub passes : f x ≡ true
  pub none : (k : ℕ) → x < k → k < n → f k ≡ false

last_step : (f : ℕ → Bool) (n x : ℕ) (b : Bool) → f n ≡ b → ((last_below f n ≡ Some x) → IsLast f n x) → (if b then Some n else last_below f n) ≡ Some x → IsLast f (suc n) x
last_step f n x true e rest h = let same : n ≡ x = cc in record {
  below = omega (arith, same);
  passes = ap f (sym same) ∙ e;
  none = λ k a b. absurd (omega (arith, a, b, same));
}
last_step f n x false e rest h = let r = rest h in record {
  below = omega (arith, r.below);
  passes = r.passes;
  none = λ k a b. ⊎_elim (λ l. r.none k a l) (λ g. let same : k ≡ n = omega (arith, b, g) in ap f same ∙ e) (cases_lt k n);
}

pub last_at : (f : ℕ → Bool) (n x : ℕ) → last_below f n ≡ Some x → IsLast f n x
last_at f zero x h = absurd cc
last_at f (suc n) x h = last_step f n x (f n) refl (λ e. last_at f n x e) h

pub last_is : (f : ℕ → Bool) (n x : ℕ) → IsLast f n x → last_below f n ≡ Some x
last_is f zero x l = absurd (let b = l.below in omega (arith, b))
last_is f (suc n) x l = ⊎_elim
    (λ lt. ap (λ t. if t then Some n else last_below f n) (l.none n lt (omega arith)) ∙ last_is f n x (record { below = lt; passes = l.passes; none = λ k a b. l.none k a (omega (arith, b)) }))
    (λ g. let b = l.below in let same : n ≡ x = omega (arith, b, g) in ap (λ t. if t then Some n else last_below f n) (ap f same ∙ l.passes) ∙ ap (λ z. Some z) same)
    (cases_lt x n)

pub last_more : (f : ℕ → Bool) (n : ℕ) → last_below f (n + 1) ≡ (if f n then Some n else last_below f n)
last_more f n = ap (last_below f) (add-one n)
