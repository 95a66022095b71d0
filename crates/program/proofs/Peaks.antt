-- The highest value of a timeline so far.
use Rattle.std.proofs.Common.{◌≡◌, ℕ, suc, ◌+◌, ◌<◌, List, [], ◌∷◌, ◌++◌, length, get_or, take, max, sym, ap, ◌∙◌, add-one, arith}
use Rattle.std.proofs.Math.Seq.{take-suc}
use Rattle.program.specs.Timelines.{value_of, highest}
use Rattle.program.specs.declared.program.Batch.{Batch}

-- one batch more at the end
pub highest_more : (xs : List Batch) (x : Batch) → highest (xs ++ x ∷ []) ≡ max (highest xs) (value_of x.signal)
highest_more [] x = omega arith
highest_more (y ∷ xs) x = let rest = highest_more xs x in omega (arith, rest)

pub highest_on : (xs : List Batch) (b : ℕ) (x : Batch) (reached more : ℕ) → b < length xs → x ≡ get_or xs b x → reached ≡ highest (take b xs) → more ≡ max reached (value_of x.signal) → more ≡ highest (take (b + 1) xs)
highest_on xs b x reached more lt is so_far grows =
    let last : highest (take (suc b) xs) ≡ max (highest (take b xs)) (value_of x.signal) = ap highest (take-suc xs b x lt ∙ ap (λ y. take b xs ++ y ∷ []) (sym is)) ∙ highest_more (take b xs) x in
    rw add-one (grows ∙ ap (λ r. max r (value_of x.signal)) so_far ∙ sym last)
