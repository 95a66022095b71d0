-- Lists of numbers that grow.
use Rattle.std.proofs.Common.{◌≡◌, map, Some, ℕ, zero, suc, refl, drop, drop-cons, replicate, append_assoc, ◌+◌, ◌<◌, ◌++◌, List, [], ◌∷◌, length, get_or, take, sym, ap, ap₂, ◌∙◌, add-one, append-nil, arith}
use Rattle.std.specs.List.{flat_map, range_with_len}
use Rattle.std.proofs.lemmas.List.FromFn.{map-range_with_len_more}
use Rattle.std.proofs.Math.Seq.{take-suc}
use Rattle.frame.specs.Units.{owners, layer_spot}
use Rattle.frame.specs.declared.frame.Resource.{Resource}
use Rattle.frame.specs.declared.frame.Spot.{Spot}
use Rattle.std.proofs.lemmas.Grind.{flat_map-append}

-- one entry further
pub flat_on : {X Y : Type 0} (f : X → List Y) (xs : List X) (i : ℕ) (x : X) (list more list' : List Y) → i < length xs → x ≡ get_or xs i x → more ≡ f x → list' ≡ list ++ more → list ≡ flat_map f (take i xs) → list' ≡ flat_map f (take (i + 1) xs)
flat_on f xs i x list more list' lt is gives grows so_far =
    let last : flat_map f (take (suc i) xs) ≡ flat_map f (take i xs) ++ f x = ap (flat_map f) (take-suc xs i x lt ∙ ap (λ y. take i xs ++ y ∷ []) (sym is)) ∙ flat_map-append f (take i xs) (x ∷ []) ∙ ap (λ ys. flat_map f (take i xs) ++ ys) (append-nil (f x)) in
    rw add-one (grows ∙ ap₂ (λ a b. a ++ b) so_far gives ∙ sym last)

-- one copy more
copy_more : {X : Type 0} (n : ℕ) (x : X) → replicate (suc n) x ≡ replicate n x ++ x ∷ []
copy_more zero x = refl
copy_more (suc n) x = ap (λ xs. x ∷ xs) (copy_more n x)

pub copies_on : {X : Type 0} (list list' : List X) (n : ℕ) (x : X) → list ≡ replicate n x → list' ≡ list ++ x ∷ [] → list' ≡ replicate (n + 1) x
copies_on list list' n x so_far grows = rw add-one (grows ∙ ap (λ xs. xs ++ x ∷ []) so_far ∙ sym (copy_more n x))

-- one layer more
pub layers_on : (name : List ℕ) (list list' : List Spot) (n : ℕ) → list ≡ map (layer_spot name) (range_with_len 0 n) → list' ≡ list ++ record { name = name; layer = Some n } ∷ [] → list' ≡ map (layer_spot name) (range_with_len 0 (n + 1))
layers_on name list list' n so_far grows = grows ∙ ap (λ xs. xs ++ record { name = name; layer = Some n } ∷ []) so_far ∙ sym (map-range_with_len_more (layer_spot name) 0 n n (let e : 0 + n ≡ n = omega arith in e))

-- the owners of one resource more
pub owners_on : (rs : List Resource) (i : ℕ) (r : Resource) (list more list' total : List ℕ) → i < length rs → r ≡ get_or rs i r → more ≡ replicate r.layers i → list' ≡ list ++ more → list ++ owners i (drop i rs) ≡ total → list' ++ owners (i + 1) (drop (i + 1) rs) ≡ total
owners_on rs i r list more list' total lt is gives grows so_far =
    let at : drop i rs ≡ r ∷ drop (suc i) rs = drop-cons rs i r lt ∙ ap (λ x. x ∷ drop (suc i) rs) (sym is) in
    rw add-one (ap (λ xs. xs ++ owners (suc i) (drop (suc i) rs)) (grows ∙ ap (λ xs. list ++ xs) gives) ∙ append_assoc list (replicate r.layers i) (owners (suc i) (drop (suc i) rs)) ∙ ap (λ xs. list ++ owners i xs) (sym at) ∙ so_far)
