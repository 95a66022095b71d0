-- How many of the first numbers pass a test.
use Rattle.std.proofs.Common.{◌≡◌, ⊎_elim, ℕ, zero, suc, ◌+◌, ◌-◌, ◌<◌, ◌≤◌, ◌==◌, nat_le, Bool, true, false, [], ◌∷◌, ◌++◌, length, get_or, if◌then◌else◌, refl, sym, ap, ◌∙◌, subst, eq-eqb, arith}
use Rattle.std.specs.List.{count_by, filter, position_or_len, range_with_len}
use Rattle.std.proofs.lemmas.Bool.{cases_lt, cases_order, false≢true, le-leb, lt-leb}
use Rattle.std.proofs.lemmas.List.Elements.{filter-append}
use Rattle.std.proofs.lemmas.List.Sums.{sum_by-append, sum_by-cons, count_by-le-length, fails_before_first, length-filter}
use Rattle.std.proofs.lemmas.List.{get_or_append_left, get_or-append_right, length-append}
use Rattle.std.proofs.lemmas.Option.{get_or_from_slice_get, slice_get_within}
use Rattle.base.proofs.Lists.{range_more}
use Rattle.law_valid.proofs.Numbers.{hit, counted}

pub count_next : (p : ℕ → Bool) (n : ℕ) → count_by p (range_with_len 0 (suc n)) ≡ count_by p (range_with_len 0 n) + hit p n
count_next p n =
    let more : range_with_len 0 (suc n) ≡ range_with_len 0 n ++ n ∷ [] = range_more 0 n n (omega arith) in
    let joined : count_by p (range_with_len 0 n ++ n ∷ []) ≡ count_by p (range_with_len 0 n) + count_by p (n ∷ []) = sum_by-append (hit p) (range_with_len 0 n) (n ∷ []) in
    let last : count_by p (n ∷ []) ≡ hit p n + count_by p [] = sum_by-cons (hit p) n [] in
    let none : count_by p [] ≤ 0 = count_by-le-length p [] in
    ap (count_by p) more ∙ omega (arith, joined, last, none)

hit_one : (p : ℕ → Bool) (n : ℕ) → p n ≡ true → hit p n ≡ 1
hit_one p n e = ap (λ b. if b then 1 else 0) e

pub count_le : (p : ℕ → Bool) (m n : ℕ) → m ≤ n → count_by p (range_with_len 0 m) ≤ count_by p (range_with_len 0 n)
count_le p m zero le = let z : m ≡ 0 = omega (arith, le) in subst (λ k. count_by p (range_with_len 0 k) ≤ count_by p (range_with_len 0 0)) (sym z) (omega arith)
count_le p m (suc n) le = ⊎_elim
    (λ (l : n < m). let same : suc n ≡ m = omega (arith, l, le) in subst (λ k. count_by p (range_with_len 0 k) ≤ count_by p (range_with_len 0 (suc n))) same (omega arith))
    (λ (l : m ≤ n). let rest = count_le p m n l in let next = count_next p n in omega (arith, rest, next))
    (cases_lt n m)

-- one that passes is counted for all later ones
pub count_less : (p : ℕ → Bool) (m n : ℕ) → p m ≡ true → m < n → count_by p (range_with_len 0 m) < count_by p (range_with_len 0 n)
count_less p m n e lt =
    let next = count_next p m in
    let one = hit_one p m e in
    let more = count_le p (suc m) n (omega (arith, lt)) in
    omega (arith, next, one, more)

-- so two that pass have two numbers
pub count_same : (p : ℕ → Bool) (m n : ℕ) → p m ≡ true → p n ≡ true → count_by p (range_with_len 0 m) ≡ count_by p (range_with_len 0 n) → m ≡ n
count_same p m n em en e = ⊎_elim (λ same. same) (⊎_elim (λ lt. absurd (let l = count_less p m n em lt in omega (arith, l, e))) (λ lt. absurd (let l = count_less p n m en lt in omega (arith, l, e)))) (cases_order m n)

-- those from number m on
pub count_late : (m n : ℕ) → count_by (λ r. nat_le m r) (range_with_len 0 n) ≡ n - m
count_late m zero = let none = count_by-le-length (λ r. nat_le m r) [] in omega (arith, none)
count_late m (suc n) = ⊎_elim
    (λ (l : n < m). let none : hit (λ r. nat_le m r) n ≡ 0 = ap (λ b. if b then 1 else 0) (lt-leb m n l) in let next = count_next (λ r. nat_le m r) n in let rest = count_late m n in omega (arith, none, next, rest, l))
    (λ (l : m ≤ n). let one : hit (λ r. nat_le m r) n ≡ 1 = ap (λ b. if b then 1 else 0) (le-leb m n l) in let next = count_next (λ r. nat_le m r) n in let rest = count_late m n in omega (arith, one, next, rest, l))
    (cases_lt n m)

-- WHICH ONES PASS

-- so it has a place among them
pub place_within : (p : ℕ → Bool) (n k : ℕ) → k < n → p k ≡ true → position_or_len (λ u. u == k) (filter p (range_with_len 0 n)) < length (filter p (range_with_len 0 n))
place_within p n k lt e = ⊎_elim (λ h. h) (λ le. absurd (late le)) (cases_lt (position_or_len (λ u. u == k) (filter p (range_with_len 0 n))) (length (filter p (range_with_len 0 n))))
  where
    late : length (filter p (range_with_len 0 n)) ≤ position_or_len (λ u. u == k) (filter p (range_with_len 0 n)) → ⊥
    late le =
        let at = counted p n k lt e in
        let below = slice_get_within (filter p (range_with_len 0 n)) (count_by p (range_with_len 0 k)) k at in
        false≢true (sym (fails_before_first (λ u. u == k) (filter p (range_with_len 0 n)) (count_by p (range_with_len 0 k)) 0 (omega (arith, le, below))) ∙ eq-eqb (get_or (filter p (range_with_len 0 n)) (count_by p (range_with_len 0 k)) 0) k (get_or_from_slice_get (filter p (range_with_len 0 n)) (count_by p (range_with_len 0 k)) k 0 at))

-- the one at a place passes, and stands behind those that pass before it
pub record IsKept (p : ℕ → Bool) (n k : ℕ) : Type 0 where
  pub number : ℕ
  pub is : get_or (filter p (range_with_len 0 n)) k 0 ≡ number
  pub low : number < n
  pub passes : p number ≡ true
  pub place : count_by p (range_with_len 0 number) ≡ k

pub kept_at : (p : ℕ → Bool) (n k : ℕ) → k < length (filter p (range_with_len 0 n)) → IsKept p n k
kept_at p zero k lt = absurd (omega (arith, lt))
kept_at p (suc n) k lt = go (p n) refl (kept_at p n k)
  where
    more : filter p (range_with_len 0 (suc n)) ≡ filter p (range_with_len 0 n) ++ filter p (n ∷ [])
    more = ap (filter p) (range_more 0 n n (omega arith)) ∙ filter-append p (range_with_len 0 n) (n ∷ [])

    count : length (filter p (range_with_len 0 (suc n))) ≡ length (filter p (range_with_len 0 n)) + length (filter p (n ∷ []))
    count = ap length more ∙ length-append (filter p (range_with_len 0 n)) (filter p (n ∷ []))

    earlier : k < length (filter p (range_with_len 0 n)) → (k < length (filter p (range_with_len 0 n)) → IsKept p n k) → IsKept p (suc n) k
    earlier l rest =
        let R = rest l in
        let low = R.low in
        record {
          number = R.number;
          is = ap (λ xs. get_or xs k 0) more ∙ get_or_append_left (filter p (range_with_len 0 n)) (filter p (n ∷ [])) 0 k l ∙ R.is;
          low = omega (arith, low);
          passes = R.passes;
          place = R.place;
        }

    go : (b : Bool) → p n ≡ b → (k < length (filter p (range_with_len 0 n)) → IsKept p n k) → IsKept p (suc n) k
    go false e rest =
        let none : length (filter p (n ∷ [])) ≡ 0 = ap (λ z. length (if z then n ∷ [] else [])) e in
        earlier (omega (arith, none, count, lt)) rest
    go true e rest = ⊎_elim
        (λ l. earlier l rest)
        (λ (le : length (filter p (range_with_len 0 n)) ≤ k).
        let one : filter p (n ∷ []) ≡ n ∷ [] = ap (λ z. if z then n ∷ [] else []) e in
        let size : length (filter p (n ∷ [])) ≡ 1 = ap length one in
        let at : k ≡ length (filter p (range_with_len 0 n)) = omega (arith, le, size, count, lt) in
        let z : k - length (filter p (range_with_len 0 n)) ≡ 0 = omega (arith, at) in
        record {
          number = n;
          is = ap (λ xs. get_or xs k 0) more ∙ get_or-append_right (filter p (range_with_len 0 n)) (filter p (n ∷ [])) (length (filter p (range_with_len 0 n))) k 0 refl le ∙ ap (λ xs. get_or xs (k - length (filter p (range_with_len 0 n))) 0) one ∙ ap (λ i. get_or (n ∷ []) i 0) z;
          low = omega arith;
          passes = e;
          place = sym (length-filter p (range_with_len 0 n)) ∙ sym at;
        })
        (cases_lt k (length (filter p (range_with_len 0 n))))
