-- Lists as they grow at their end.
use Rattle.std.proofs.Common.{◌≡◌, ℕ, suc, ◌+◌, ◌<◌, List, [], ◌∷◌, ◌++◌, length, map, get_or, take, sym, ap, ◌∙◌, append_assoc, append-nil, arith}
use Rattle.std.proofs.lemmas.Grind.{flat_map-append}
use Rattle.std.proofs.lemmas.List.{map-append, take_more}
use Rattle.std.specs.List.{flat_map, range_with_len}
use Rattle.base.proofs.Lists.{range_more}

-- PARTS OF ONE ELEMENT MORE

last_part : {X Z : Type 0} (f : X → List Z) (xs : List X) (x : X) → flat_map f (xs ++ x ∷ []) ≡ flat_map f xs ++ f x
last_part f xs x = flat_map-append f xs (x ∷ []) ∙ ap (λ l. flat_map f xs ++ l) (append-nil (f x))

pub part_more : {X Z : Type 0} (f : X → List Z) (xs : List X) (i : ℕ) (x : X) (begin old new : List Z) → i < length xs → x ≡ get_or xs i x → old ≡ begin ++ flat_map f (take i xs) → new ≡ old ++ f x → new ≡ begin ++ flat_map f (take (i + 1) xs)
part_more f xs i x begin old new lt is so_far grows =
    let taken : take (i + 1) xs ≡ take i xs ++ x ∷ [] = take_more xs i x lt ∙ ap (λ y. take i xs ++ y ∷ []) (sym is) in
    grows
    ∙ ap (λ l. l ++ f x) so_far
    ∙ append_assoc begin (flat_map f (take i xs)) (f x)
    ∙ ap (λ l. begin ++ l) (sym (ap (flat_map f) taken ∙ last_part f (take i xs) x))

-- what h makes of them
pub made_more : {X Y Z : Type 0} (h : Y → Z) (f : X → List Y) (xs : List X) (i : ℕ) (x : X) (begin old new : List Z) → i < length xs → x ≡ get_or xs i x → old ≡ begin ++ map h (flat_map f (take i xs)) → new ≡ old ++ map h (f x) → new ≡ begin ++ map h (flat_map f (take (i + 1) xs))
made_more h f xs i x begin old new lt is so_far grows =
    let taken : take (i + 1) xs ≡ take i xs ++ x ∷ [] = take_more xs i x lt ∙ ap (λ y. take i xs ++ y ∷ []) (sym is) in
    grows
    ∙ ap (λ l. l ++ map h (f x)) so_far
    ∙ append_assoc begin (map h (flat_map f (take i xs))) (map h (f x))
    ∙ ap (λ l. begin ++ l) (sym (ap (λ l. map h (flat_map f l)) taken ∙ ap (map h) (last_part f (take i xs) x) ∙ map-append h (flat_map f (take i xs)) (f x)))

-- of one number more
pub number_more : {Y Z : Type 0} (h : Y → Z) (f : ℕ → List Y) (n : ℕ) (begin old new : List Z) → old ≡ begin ++ map h (flat_map f (range_with_len 0 n)) → new ≡ old ++ map h (f n) → new ≡ begin ++ map h (flat_map f (range_with_len 0 (n + 1)))
number_more h f n begin old new so_far grows =
    let next : n + 1 ≡ suc n = omega arith in
    let range : range_with_len 0 (n + 1) ≡ range_with_len 0 n ++ n ∷ [] = ap (range_with_len 0) next ∙ range_more 0 n n (omega arith) in
    grows
    ∙ ap (λ l. l ++ map h (f n)) so_far
    ∙ append_assoc begin (map h (flat_map f (range_with_len 0 n))) (map h (f n))
    ∙ ap (λ l. begin ++ l) (sym (ap (λ l. map h (flat_map f l)) range ∙ ap (map h) (last_part f (range_with_len 0 n) n) ∙ map-append h (flat_map f (range_with_len 0 n)) (f n)))
