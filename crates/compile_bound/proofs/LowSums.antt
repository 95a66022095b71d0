-- Sums and greatest differences, one resource further.
use Rattle.std.proofs.Common.{◌≡◌, ℕ, ◌+◌, ◌-◌, ◌<◌, ◌≤◌, List, length, drop, get_or, max, ap, arith}
use Rattle.std.proofs.lemmas.List.{drop_all, drop_more}
use Rattle.compile_bound.specs.Bounds.{greatest_gap, rounded}
use Rattle.compile_heap.specs.Placing.{number_at}

module _ (sizes chosen : List ℕ) (i : ℕ) where
  pub gap_more : (gap value total : ℕ) → i < length chosen → value ≡ rounded (number_at sizes (get_or chosen i 0)) - number_at sizes (get_or chosen i 0) → max gap (greatest_gap sizes (drop i chosen)) ≡ total → max (max gap value) (greatest_gap sizes (drop (i + 1) chosen)) ≡ total
  gap_more gap value total lt is so_far =
      let r = get_or chosen i 0 in
      let here : greatest_gap sizes (drop i chosen) ≡ max (rounded (number_at sizes r) - number_at sizes r) (greatest_gap sizes (drop (i + 1) chosen)) = ap (greatest_gap sizes) (drop_more chosen i 0 lt) in
      omega (arith, here, is, so_far)

  pub gap_end : (gap total : ℕ) → length chosen ≤ i → max gap (greatest_gap sizes (drop i chosen)) ≡ total → gap ≡ total
  gap_end gap total le so_far = let none : greatest_gap sizes (drop i chosen) ≡ 0 = ap (greatest_gap sizes) (drop_all i chosen le) in omega (arith, none, so_far)
