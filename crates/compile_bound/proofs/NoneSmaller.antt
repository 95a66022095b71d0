-- No legal placement has a smaller heap than the low of resources of which no two may alias.
use Rattle.std.proofs.Common.{◌≡◌, ◌≢◌, ℕ, ◌+◌, ◌-◌, ◌*◌, ◌/◌, ◌<◌, ◌≤◌, ◌&&◌, List, [], ◌∷◌, length, nat_lt, Bool, true, false, refl, arith, ◌⊎◌, inl, inr, ⊎_elim}
use Rattle.std.specs.List.{All, AllByRecursion}
use Rattle.std.proofs.lemmas.Bool.{ltb-false}
use Rattle.std.proofs.lemmas.List.Elements.{All-head, All-tail}
use Rattle.std.proofs.lemmas.List.Sums.{sum_by-cons}
use Rattle.compile_heap.specs.Placing.{IsLegal, Places, may_alias, number_at, overlap}
use Rattle.compile_bound.specs.Bounds.{AreApart, Holds, greatest_gap, low, rounded, rounded_sum}
use Rattle.compile_bound.proofs.Intervals.{AllClear, Clear, fit, side, whole}

-- how many granules a resource takes that another one follows
abbrev granules : ℕ → ℕ
granules size = (size + 255) / 256

rounded_is : (size : ℕ) → rounded size ≡ granules size * 256
rounded_is size = omega arith

sum_is : (sizes chosen : List ℕ) → rounded_sum sizes chosen ≡ whole (λ r. granules (number_at sizes r)) chosen * 256
sum_is sizes [] = refl
sum_is sizes (r ∷ chosen) =
    let rest = sum_is sizes chosen in
    let here = rounded_is (number_at sizes r) in
    let both : rounded_sum sizes (r ∷ chosen) ≡ rounded (number_at sizes r) + rounded_sum sizes chosen = sum_by-cons (λ x. rounded (number_at sizes x)) r chosen in
    omega (arith, both, here, rest)

-- of two ranges of bytes that do not overlap one ends before the other begins
aside : (a size b other : ℕ) → overlap a size b other ≡ false → (b + other ≤ a) ⊎ (a + size ≤ b)
aside a size b other e = by_tests (nat_lt a (b + other)) (nat_lt b (a + size)) refl refl e
  where
    by_tests : (p q : Bool) → nat_lt a (b + other) ≡ p → nat_lt b (a + size) ≡ q → (p && q) ≡ false → (b + other ≤ a) ⊎ (a + size ≤ b)
    by_tests false q p-is q-is f = inl (ltb-false a (b + other) p-is)
    by_tests true false p-is q-is f = inr (ltb-false b (a + size) q-is)
    by_tests true true p-is q-is f = absurd cc

by_recursion : (P : ℕ → Type 0) (list : List ℕ) → All P list → AllByRecursion P list
by_recursion P [] all = tt
by_recursion P (x ∷ list) all = (All-head P x list all, by_recursion P list (All-tail P x list all))

module _ (sizes : List ℕ) (ordered : ℕ → ℕ → Bool) (places : Places) (L : IsLegal sizes ordered places) where
  abbrev size : ℕ → ℕ
  size r = number_at sizes r

  abbrev offset : ℕ → ℕ
  offset r = number_at places.offsets r

  -- the first granule of a resource, and how many it has
  abbrev first : ℕ → ℕ
  first r = offset r / 256

  abbrev count : ℕ → ℕ
  count r = granules (size r)

  at_granule : (r : ℕ) → r < length sizes → offset r ≡ first r * 256
  at_granule r lt = let aligned = L.aligned r lt in omega (arith, aligned)

  clear_pair : (r s : ℕ) → r < length sizes → s < length sizes → r < s → may_alias ordered r s ≡ false → Clear first count r s
  clear_pair r s lt-r lt-s lt never =
      let a = at_granule r lt-r in
      let b = at_granule s lt-s in
      let other : r ≢ s = λ same. absurd (omega (arith, lt, same)) in
      ⊎_elim
      (λ (h : offset s + size s ≤ offset r). inr (omega (arith, a, b, h)))
      (λ (h : offset r + size r ≤ offset s). inl (omega (arith, a, b, h)))
      (aside (offset r) (size r) (offset s) (size s) (L.apart r s lt-r lt-s other never))

  clear_row : (r : ℕ) (chosen : List ℕ) → r < length sizes → AllByRecursion (λ s. s < length sizes) chosen → AllByRecursion (λ s. (r < s) × (may_alias ordered r s ≡ false)) chosen → AllByRecursion (λ s. Clear first count r s) chosen
  clear_row r [] lt within apart = tt
  clear_row r (s ∷ chosen) lt within apart = (clear_pair r s lt within.0 apart.0.0 apart.0.1, clear_row r chosen lt within.1 apart.1)

  all_clear : (chosen : List ℕ) → AllByRecursion (λ s. s < length sizes) chosen → AreApart ordered chosen → AllClear first count chosen
  all_clear [] within apart = tt
  all_clear (r ∷ chosen) within apart = (clear_row r chosen within.0 within.1 apart.0, all_clear chosen within.1 apart.1)

  -- one of them ends last; its difference is at most the greatest
  record Last (chosen : List ℕ) : Type 0 where
    pub last : ℕ
    pub in_range : last < length sizes
    pub gap : rounded (size last) - size last ≤ greatest_gap sizes chosen
    pub latest : AllByRecursion (λ r. first r + count r ≤ first last + count last) chosen

  all_later : (chosen : List ℕ) (a b : ℕ) → a ≤ b → AllByRecursion (λ r. first r + count r ≤ a) chosen → AllByRecursion (λ r. first r + count r ≤ b) chosen
  all_later [] a b le all = tt
  all_later (r ∷ chosen) a b le all = let here = all.0 in (omega (arith, here, le), all_later chosen a b le all.1)

  last_of : (r : ℕ) (chosen : List ℕ) → AllByRecursion (λ s. s < length sizes) (r ∷ chosen) → Last (r ∷ chosen)
  last_of r [] within = record { last = r; in_range = within.0; gap = omega arith; latest = (omega arith, tt) }
  last_of r (s ∷ chosen) within = or_this (last_of s chosen within.1)
    where
      or_this : Last (s ∷ chosen) → Last (r ∷ (s ∷ chosen))
      or_this rest = ⊎_elim earlier later (side (first rest.last + count rest.last) (first r + count r))
        where
          earlier : first r + count r < first rest.last + count rest.last → Last (r ∷ (s ∷ chosen))
          earlier lt = let gap = rest.gap in record { last = rest.last; in_range = rest.in_range; gap = omega (arith, gap); latest = (omega (arith, lt), rest.latest) }

          later : first rest.last + count rest.last ≤ first r + count r → Last (r ∷ (s ∷ chosen))
          later le = record { last = r; in_range = within.0; gap = omega arith; latest = (omega arith, all_later (s ∷ chosen) (first rest.last + count rest.last) (first r + count r) le rest.latest) }

  low_holds : (chosen : List ℕ) → AllByRecursion (λ s. s < length sizes) chosen → AreApart ordered chosen → low sizes chosen ≤ places.heap
  low_holds [] within apart = omega arith
  low_holds (r ∷ chosen) within apart =
      let M = last_of r chosen within in
      let inside = L.inside M.last M.in_range in
      let start = at_granule M.last M.in_range in
      let all : whole count (r ∷ chosen) ≤ first M.last + count M.last = fit first count (r ∷ chosen) (first M.last + count M.last) (all_clear (r ∷ chosen) within apart) M.latest in
      let sum = sum_is sizes (r ∷ chosen) in
      let last = rounded_is (size M.last) in
      let gap = M.gap in
      omega (arith, inside, start, all, sum, last, gap)

pub none_smaller : (sizes : List ℕ) (ordered : ℕ → ℕ → Bool) (chosen : List ℕ) → All (λ r. r < length sizes) chosen → AreApart ordered chosen → Holds sizes ordered (low sizes chosen)
none_smaller sizes ordered chosen within apart places legal = low_holds sizes ordered places legal chosen (by_recursion (λ r. r < length sizes) chosen within) apart
