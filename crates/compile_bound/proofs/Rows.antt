-- Worked rows: what the definitions come to on written-out values.
use Rattle.std.proofs.Common.{◌≡◌, ◌<◌, ◌≤◌, ◌==◌, ◌&&◌, ◌||◌, ℕ, zero, suc, inl, inr, List, [], ◌∷◌, Bool, false, refl, arith}
use Rattle.compile_bound.specs.Bounds.{IsBound, low, rounded}
use Rattle.compile_bound.specs.Choices.{choice, falling}
use Rattle.compile_bound.specs.declared.bound.Bound.{Bound}

on_a_granule : rounded 512 ≡ 512
on_a_granule = refl

past_a_granule : rounded 513 ≡ 768
past_a_granule = refl

-- the larger ones first, and of equal ones those with the lower numbers
by_size : falling (4 ∷ 512 ∷ 8 ∷ 512 ∷ []) 4 ≡ 1 ∷ 3 ∷ 2 ∷ 0 ∷ []
by_size = refl

-- 100, 200 and 300 bytes round up to 1,024, and the greatest difference is 212
greatest_taken_off : low (300 ∷ 200 ∷ 100 ∷ []) (0 ∷ 1 ∷ 2 ∷ []) ≡ 812
greatest_taken_off = refl

-- TWO BUFFERS THAT ARE USED ONE AFTER THE OTHER, AND A COPY OUT OF EACH

abbrev sizes : List ℕ
sizes = 512 ∷ 512 ∷ 4 ∷ 4 ∷ []

-- the first buffer is done with before the second one and its copy begin
abbrev ordered : ℕ → ℕ → Bool
ordered a b = a == 0 && (b == 1 || b == 3)

from_the_first : choice sizes ordered 0 ≡ 0 ∷ 2 ∷ []
from_the_first = refl

from_the_second : choice sizes ordered 1 ≡ 1 ∷ 2 ∷ 3 ∷ []
from_the_second = refl

from_the_last : choice sizes ordered 3 ≡ 1 ∷ 2 ∷ 3 ∷ []
from_the_last = refl

abbrev two_lives : Bound
two_lives = record { least = 772; chosen = 1 ∷ 2 ∷ 3 ∷ [] }

two_lives_bound : IsBound sizes ordered two_lives
two_lives_bound = record { greatest = greatest; first = inr (1, omega arith, record { is = refl; reached = refl; before = before }) }
  where
    before : (s : ℕ) → s < 1 → low sizes (choice sizes ordered s) < 772
    before zero lt = let e : low sizes (choice sizes ordered 0) ≡ 516 = refl in omega (arith, e)
    before (suc s) lt = absurd (omega (arith, lt))

    greatest : (r : ℕ) → r < 4 → low sizes (choice sizes ordered r) ≤ 772
    greatest zero lt = let e : low sizes (choice sizes ordered 0) ≡ 516 = refl in omega (arith, e)
    greatest (suc zero) lt = let e : low sizes (choice sizes ordered 1) ≡ 772 = refl in omega (arith, e)
    greatest (suc (suc zero)) lt = let e : low sizes (choice sizes ordered 2) ≡ 516 = refl in omega (arith, e)
    greatest (suc (suc (suc zero))) lt = let e : low sizes (choice sizes ordered 3) ≡ 772 = refl in omega (arith, e)
    greatest (suc (suc (suc (suc r)))) lt = absurd (omega (arith, lt))

no_resource : IsBound [] (λ a b. false) (record { least = 0; chosen = [] })
no_resource = record { greatest = λ r lt. absurd (omega (arith, lt)); first = inl (refl, refl, refl) }
