-- The names of the resources of a window.
use Rattle.std.proofs.Common.{◌≡◌, ℕ, zero, suc, ◌+◌, ◌<◌, ◌++◌, List, [], ◌∷◌, length, get_or, refl, ap, ◌∙◌, arith}
use Rattle.law_window.specs.Names.{numbered_name}

-- of so many resources of frame i, from resource j on
abbrev pub own_names : ℕ → ℕ → ℕ → List (List ℕ)
own_names i j zero = []
own_names i j (suc count) = numbered_name i j ∷ own_names i (suc j) count

-- of the frames from i on, which have so many resources
abbrev pub all_names : ℕ → List ℕ → List (List ℕ)
all_names i [] = []
all_names i (count ∷ counts) = own_names i 0 count ++ all_names (suc i) counts

pub own_at : (i k count j : ℕ) → j < count → get_or (own_names i k count) j [] ≡ numbered_name i (k + j)
own_at i k zero j lt = absurd (omega arith)
own_at i k (suc count) zero lt = let e : k ≡ k + 0 = omega arith in ap (numbered_name i) e
own_at i k (suc count) (suc j) lt = let e : suc k + j ≡ k + suc j = omega arith in own_at i (suc k) count j (omega arith) ∙ ap (numbered_name i) e

pub own_count : (i k count : ℕ) → length (own_names i k count) ≡ count
own_count i k zero = refl
own_count i k (suc count) = ap suc (own_count i (suc k) count)
