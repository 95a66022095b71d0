-- Numbers that pass a test, and how many pass before them.
use Rattle.std.proofs.Common.{◌≡◌, ℕ, zero, suc, ◌+◌, ◌-◌, ◌<◌, ◌≤◌, nat_le, Bool, true, false, ◌∷◌, slice_get, Some, if◌then◌else◌, refl, sym, ap, ◌∙◌, subst, leb-true, leb-false, arith}
use Rattle.std.specs.List.{count_by, filter, range_with_len}
use Rattle.std.proofs.lemmas.List.Sums.{sum_by-cons}

abbrev one_if : Bool → ℕ
one_if b = if b then 1 else 0

module _ (p : ℕ → Bool) where
  count_first : (a n : ℕ) → count_by p (range_with_len a (suc n)) ≡ one_if (p a) + count_by p (range_with_len (a + 1) n)
  count_first a n = sum_by-cons (λ k. one_if (p k)) a (range_with_len (a + 1) n)

  -- among the numbers that pass, k stands after as many as pass below it
  stands : (a n r k : ℕ) → a + r ≡ k → r < n → p k ≡ true → slice_get (filter p (range_with_len a n)) (count_by p (range_with_len a r)) ≡ Some k
  stands a zero r k e lt passing = absurd (omega (arith, lt))
  stands a (suc n) zero k e lt passing =
      let same : a ≡ k = omega (arith, e) in
      let passes : true ≡ p a = sym (ap p same ∙ passing) in
      subst (λ b. slice_get (if b then a ∷ filter p (range_with_len (a + 1) n) else filter p (range_with_len (a + 1) n)) 0 ≡ Some k) passes (ap (λ (m : ℕ). Some m) same)
  stands a (suc n) (suc r) k e lt passing =
      ap (slice_get (filter p (range_with_len a (suc n)))) (count_first a r) ∙ go (stands (a + 1) n r k (omega (arith, e)) (omega (arith, lt)) passing) (p a)
    where
      go : slice_get (filter p (range_with_len (a + 1) n)) (count_by p (range_with_len (a + 1) r)) ≡ Some k → (b : Bool) → slice_get (if b then a ∷ filter p (range_with_len (a + 1) n) else filter p (range_with_len (a + 1) n)) (one_if b + count_by p (range_with_len (a + 1) r)) ≡ Some k
      go rest true =
          let more : 1 + count_by p (range_with_len (a + 1) r) ≡ suc (count_by p (range_with_len (a + 1) r)) = omega arith in
          ap (slice_get (a ∷ filter p (range_with_len (a + 1) n))) more ∙ rest
      go rest false =
          let same : 0 + count_by p (range_with_len (a + 1) r) ≡ count_by p (range_with_len (a + 1) r) = omega arith in
          ap (slice_get (filter p (range_with_len (a + 1) n))) same ∙ rest

  pub stands_at : (n r : ℕ) → r < n → p r ≡ true → slice_get (filter p (range_with_len 0 n)) (count_by p (range_with_len 0 r)) ≡ Some r
  stands_at n r lt passing = stands 0 n r r (omega arith) lt passing

-- the numbers from n on
count_from : (n a m : ℕ) → count_by (nat_le n) (range_with_len a m) ≡ a + m - n - (a - n)
count_from n a zero = omega arith
count_from n a (suc m) = count_first (nat_le n) a m ∙ go (nat_le n a) refl (count_from n (a + 1) m)
  where
    go : (b : Bool) → nat_le n a ≡ b → count_by (nat_le n) (range_with_len (a + 1) m) ≡ a + 1 + m - n - (a + 1 - n) → one_if b + count_by (nat_le n) (range_with_len (a + 1) m) ≡ a + suc m - n - (a - n)
    go true h rest = let le : n ≤ a = leb-true n a h in omega (arith, le, rest)
    go false h rest = let lt : a < n = leb-false n a h in omega (arith, lt, rest)

pub count_past : (n k : ℕ) → count_by (nat_le n) (range_with_len 0 (n + k)) ≡ k
count_past n k = count_from n 0 (n + k) ∙ omega arith
