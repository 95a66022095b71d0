-- The numbers of pieces and memories: those that pass a test are numbered one after another.
use Rattle.std.proofs.Common.{◌≡◌, ℕ, zero, suc, ◌+◌, ◌<◌, ◌≤◌, nat_le, ⊎_elim, Bool, true, false, List, ◌∷◌, length, get_or, slice_get, if◌then◌else◌, Some, refl, sym, ap, ◌∙◌, subst, arith}
use Rattle.std.specs.List.{All, count_by, filter, range_with_len}
use Rattle.std.proofs.lemmas.Bool.{cases_lt, lt-leb}
use Rattle.std.proofs.lemmas.List.FromFn.{length-range_with_len, get_or-range_with_len}
use Rattle.std.proofs.lemmas.List.Sums.{sum_by-cons, length-filter, count_by-le-length}
use Rattle.std.proofs.lemmas.List.Elements.{All-filter, filter_passes}
use Rattle.base.proofs.Absence.{some_same}

-- whether one is counted
abbrev pub hit : (ℕ → Bool) → ℕ → ℕ
hit p x = if p x then 1 else 0

pub count_cons : (p : ℕ → Bool) (x : ℕ) (xs : List ℕ) → count_by p (x ∷ xs) ≡ hit p x + count_by p xs
count_cons p x xs = sum_by-cons (hit p) x xs

-- the number that passes stands behind those that pass before it
counted_from : (p : ℕ → Bool) (a n k : ℕ) → k < n → p (a + k) ≡ true → slice_get (filter p (range_with_len a n)) (count_by p (range_with_len a k)) ≡ Some (a + k)
counted_from p a zero k lt e = absurd (omega (arith, lt))
counted_from p a (suc n) zero lt e =
    let z : a + 0 ≡ a = omega arith in
    let here : p a ≡ true = subst (λ x. p x ≡ true) z e in
    ap (λ b. slice_get (if b then a ∷ filter p (range_with_len (a + 1) n) else filter p (range_with_len (a + 1) n)) 0) here ∙ ap (λ x. Some x) (sym z)
counted_from p a (suc n) (suc k) lt e =
    let next : a + suc k ≡ a + 1 + k = omega arith in
    go (counted_from p (a + 1) n k (omega (arith, lt)) (subst (λ x. p x ≡ true) next e) ∙ ap (λ x. Some x) (sym next)) (p a) refl
  where
    go : slice_get (filter p (range_with_len (a + 1) n)) (count_by p (range_with_len (a + 1) k)) ≡ Some (a + suc k) → (b : Bool) → p a ≡ b → slice_get (if b then a ∷ filter p (range_with_len (a + 1) n) else filter p (range_with_len (a + 1) n)) (count_by p (range_with_len a (suc k))) ≡ Some (a + suc k)
    go rest true h =
        let one : hit p a ≡ 1 = ap (λ b. if b then 1 else 0) h in
        let number : count_by p (range_with_len a (suc k)) ≡ suc (count_by p (range_with_len (a + 1) k)) = omega (arith, one, count_cons p a (range_with_len (a + 1) k)) in
        ap (slice_get (a ∷ filter p (range_with_len (a + 1) n))) number ∙ rest
    go rest false h =
        let none : hit p a ≡ 0 = ap (λ b. if b then 1 else 0) h in
        let number : count_by p (range_with_len a (suc k)) ≡ count_by p (range_with_len (a + 1) k) = omega (arith, none, count_cons p a (range_with_len (a + 1) k)) in
        ap (slice_get (filter p (range_with_len (a + 1) n))) number ∙ rest

pub counted : (p : ℕ → Bool) (n k : ℕ) → k < n → p k ≡ true → slice_get (filter p (range_with_len 0 n)) (count_by p (range_with_len 0 k)) ≡ Some k
counted p n k lt e =
    let z : 0 + k ≡ k = omega arith in
    counted_from p 0 n k lt (subst (λ x. p x ≡ true) (sym z) e) ∙ ap (λ x. Some x) z

-- two that pass have two numbers
pub apart : (p : ℕ → Bool) (n j k : ℕ) → j < n → k < n → p j ≡ true → p k ≡ true → count_by p (range_with_len 0 j) ≡ count_by p (range_with_len 0 k) → j ≡ k
apart p n j k lj lk hj hk e = some_same (sym (counted p n j lj hj) ∙ ap (slice_get (filter p (range_with_len 0 n))) e ∙ counted p n k lk hk)

-- what holds of numbers that pass holds of those that are kept
pub kept_numbers : (P : ℕ → Type 0) (p : ℕ → Bool) (n : ℕ) → ((k : ℕ) → k < n → p k ≡ true → P k) → All P (filter p (range_with_len 0 n))
kept_numbers P p n h = λ k d lt. All-filter p (λ x. p x ≡ true → P x) (range_with_len 0 n) each k d lt (filter_passes p (range_with_len 0 n) k d lt)
  where
    each : All (λ x. p x ≡ true → P x) (range_with_len 0 n)
    each k d lt =
        let count = length-range_with_len 0 n in
        let low : k < n = omega (arith, count, lt) in
        let zero_more : 0 + k ≡ k = omega arith in
        let is : get_or (range_with_len 0 n) k d ≡ k = get_or-range_with_len 0 n k d low ∙ zero_more in
        subst (λ x. p x ≡ true → P x) (sym is) (h k low)

pub kept_few : (p : ℕ → Bool) (n : ℕ) → length (filter p (range_with_len 0 n)) ≤ n
kept_few p n = omega (arith, length-filter p (range_with_len 0 n), count_by-le-length p (range_with_len 0 n), length-range_with_len 0 n)

late_from : (m a n : ℕ) → m ≤ a → count_by (λ r. nat_le m r) (range_with_len a n) ≤ n
late_from m a n le = omega (arith, count_by-le-length (λ r. nat_le m r) (range_with_len a n), length-range_with_len a n)

-- those from number m on
late_few : (m a n : ℕ) → a ≤ m → m ≤ a + n → count_by (λ r. nat_le m r) (range_with_len a n) + m ≤ a + n
late_few m a zero low high = omega (arith, low, high)
late_few m a (suc n) low high = ⊎_elim
    (λ h. let none : hit (λ r. nat_le m r) a ≡ 0 = ap (λ b. if b then 1 else 0) (lt-leb m a h) in omega (arith, none, count_cons (λ r. nat_le m r) a (range_with_len (a + 1) n), late_few m (a + 1) n (omega (arith, h)) (omega (arith, high))))
    (λ h. omega (arith, late_from m a (suc n) h, low, h))
    (cases_lt a m)

pub kept_late : (m n : ℕ) → m ≤ n → length (filter (λ r. nat_le m r) (range_with_len 0 n)) + m ≤ n
kept_late m n le = omega (arith, length-filter (λ r. nat_le m r) (range_with_len 0 n), late_few m 0 n (omega arith) (omega (arith, le)))
