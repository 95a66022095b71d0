-- Sums of the first numbers of a list.
use Rattle.std.proofs.Common.{◌≡◌, ◌+◌, ◌<◌, ◌≤◌, ℕ, List, length, get_or, take, arith}
use Rattle.std.specs.List.{sum}
use Rattle.std.proofs.lemmas.List.Sums.{sum_by_more, sum_by-take-le}

pub sum_more : (sizes : List ℕ) (k : ℕ) (d : ℕ) → k < length sizes → sum (take (k + 1) sizes) ≡ sum (take k sizes) + get_or sizes k d
sum_more = sum_by_more (λ x. x)

pub sum_under : (sizes : List ℕ) (k : ℕ) (d : ℕ) → k < length sizes → sum (take k sizes) + get_or sizes k d ≤ sum sizes
sum_under sizes k d lt =
    let more = sum_by_more (λ x. x) sizes k d lt in
    let all = sum_by-take-le (λ x. x) sizes (k + 1) in
    omega (arith, more, all)
