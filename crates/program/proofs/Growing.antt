-- Lists of nodes that grow.
use Rattle.std.proofs.Common.{◌≡◌, ℕ, suc, ◌+◌, ◌<◌, ◌++◌, List, [], ◌∷◌, length, map, get_or, drop, sym, ap, ◌∙◌, add-one, append_assoc, drop-cons, arith}
use Rattle.std.specs.List.{range_with_len}
use Rattle.std.proofs.lemmas.List.FromFn.{map-range_with_len_more}
use Rattle.program.specs.Places.{all_in}

-- what f gives for one number more
pub one_more : {X : Type 0} (f : ℕ → X) (k : ℕ) (x : X) (old list more : List X) → list ≡ old ++ map f (range_with_len 0 k) → x ≡ f k → more ≡ list ++ x ∷ [] → more ≡ old ++ map f (range_with_len 0 (k + 1))
one_more f k x old list more so_far is grows =
    grows ∙ ap (λ l. l ++ x ∷ []) so_far ∙ ap (λ y. (old ++ map f (range_with_len 0 k)) ++ y ∷ []) is ∙ append_assoc old (map f (range_with_len 0 k)) (f k ∷ []) ∙ ap (λ l. old ++ l) (sym (map-range_with_len_more f 0 k k (omega arith)))

-- one entry further
pub all_on : {X Y : Type 0} (gives : ℕ → X → List Y) (xs : List X) (i : ℕ) (x : X) (list more total : List Y) → i < length xs → x ≡ get_or xs i x → more ≡ list ++ gives i x → list ++ all_in gives i (drop i xs) ≡ total → more ++ all_in gives (i + 1) (drop (i + 1) xs) ≡ total
all_on gives xs i x list more total lt is grows so_far =
    let rest = all_in gives (suc i) (drop (suc i) xs) in
    let here : all_in gives i (drop i xs) ≡ gives i x ++ rest = ap (all_in gives i) (drop-cons xs i x lt) ∙ ap (λ y. gives i y ++ rest) (sym is) in
    rw add-one (ap (λ l. l ++ rest) grows ∙ append_assoc list (gives i x) rest ∙ ap (λ l. list ++ l) (sym here) ∙ so_far)
