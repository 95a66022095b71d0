-- Lists, mapped and filtered.
use Rattle.std.proofs.Common.{◌≡◌, ℕ, zero, suc, ◌<◌, List, [], ◌∷◌, length, map, ap, arith}
use Rattle.std.specs.List.{Contains}
use Rattle.std.specs.Prelude.{slice_index_or}

-- what a list has is there after a map, and after a filter that it passes
pub map_has : {X Y : Type 0} (f : X → Y) (xs : List X) (x : X) (k : ℕ) → k < length xs → slice_index_or xs k x ≡ x → Contains (map f xs) (f x)
map_has f [] x k lt e = absurd (omega (arith, lt))
map_has f (y ∷ xs) x zero lt e = (0, omega arith, ap f e)
map_has f (y ∷ xs) x (suc k) lt e =
    let c = map_has f xs x k (omega (arith, lt)) e in
    let l = c.1 in
    (suc c.0, omega (arith, l), c.2)
