-- How often each number stands in a list.
use Rattle.std.proofs.Common.{◌≡◌, ℕ, ◌+◌, ◌<◌, List, Bool, true, false, length, get_or, take, refl, ◌∙◌, arith}
use Rattle.std.specs.Prelude.{count_by, if◌then◌else◌}
use Rattle.std.proofs.lemmas.List.Sums.{count_by_more_no, count_by_more_yes}

count_more_by : (b : Bool) (p : ℕ → Bool) (xs : List ℕ) (i : ℕ) → i < length xs → p (get_or xs i 0) ≡ b → count_by p (take (i + 1) xs) ≡ count_by p (take i xs) + (if b then 1 else 0)
count_more_by true p xs i lt e = count_by_more_yes p xs i 0 lt e
count_more_by false p xs i lt e = count_by_more_no p xs i 0 lt e ∙ omega arith

-- one more element
pub count_more : (p : ℕ → Bool) (xs : List ℕ) (i : ℕ) → i < length xs → count_by p (take (i + 1) xs) ≡ count_by p (take i xs) + (if p (get_or xs i 0) then 1 else 0)
count_more p xs i lt = count_more_by (p (get_or xs i 0)) p xs i lt refl
