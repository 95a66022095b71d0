-- Numbers below a bound, as a test and as a fact.
use Rattle.std.proofs.Common.{◌≡◌, ◌↔◌, ◌<◌, ℕ, Bool, true, List, nat_lt}
use Rattle.std.specs.Bool.{IsTrue}
use Rattle.std.specs.List.{All, list_all}
use Rattle.std.proofs.lemmas.Bool.{ltb-true, lt-ltb}
use Rattle.std.proofs.lemmas.List.Elements.{All-weaker}
use Rattle.std.proofs.lemmas.List.Sums.{AllPass-from_list_all, list_all-from_AllPass}
use Rattle.std.specs.Cmp.{both_ways}

pub all_below : (n : ℕ) (xs : List ℕ) → list_all (λ r. nat_lt r n) xs ≡ true → All (λ r. r < n) xs
all_below n xs e = All-weaker (λ r. nat_lt r n ≡ true) (λ r. r < n) (λ r h. ltb-true r n h) xs (AllPass-from_list_all (λ r. nat_lt r n) xs e)

passes : (n : ℕ) (xs : List ℕ) → All (λ r. r < n) xs → list_all (λ r. nat_lt r n) xs ≡ true
passes n xs h = list_all-from_AllPass (λ r. nat_lt r n) xs (All-weaker (λ r. r < n) (λ r. nat_lt r n ≡ true) (λ r lt. lt-ltb r n lt) xs h)

pub below_test : (n : ℕ) (xs : List ℕ) (b : Bool) → IsTrue b ↔ All (λ r. r < n) xs → b ≡ list_all (λ r. nat_lt r n) xs
below_test n xs b h = both_ways b (list_all (λ r. nat_lt r n) xs) (λ e. passes n xs (h.0 e)) (λ e. h.1 (all_below n xs e))
