-- Worked rows: how much is taken of a source.
use Rattle.std.proofs.Common.{[], ◌∷◌, Some, length, ap, refl, inl, inr, arith, length-append}
use Rattle.top.specs.Outcomes.{TakesAtMost, TakesWhole}

-- at a limit of two bytes: both of two are taken, or three of four
both_taken : TakesWhole 2 (Some (7 ∷ 8 ∷ [])) (Some [])
both_taken = (7 ∷ 8 ∷ [], refl, inl refl)

one_over : TakesWhole 2 (Some (7 ∷ 8 ∷ 9 ∷ 1 ∷ [])) (Some (1 ∷ []))
one_over = (7 ∷ 8 ∷ 9 ∷ [], refl, inr refl)

-- and neither one of two, nor four of four
one_left : ¬ TakesWhole 2 (Some (7 ∷ 8 ∷ [])) (Some (8 ∷ []))
one_left (taken, takes, inl all) = omega (arith, ap length takes, ap length all, length-append taken (8 ∷ []))
one_left (taken, takes, inr more) = omega (arith, ap length takes, more, length-append taken (8 ∷ []))

two_over : ¬ TakesAtMost 3 (Some (7 ∷ 8 ∷ 9 ∷ 1 ∷ [])) (Some [])
two_over (taken, takes, few) = omega (arith, ap length takes, few, length-append taken [])
