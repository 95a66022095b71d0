-- Where the units of resources stand.
use Rattle.std.proofs.Common.{◌≡◌, ℕ, suc, ◌+◌, ◌<◌, ◌≤◌, ◌++◌, List, [], ◌∷◌, length, get_or, drop, sym, ap, subst, ◌∙◌, add-one, drop-cons, append_assoc, arith}
use Rattle.std.specs.List.{All}
use Rattle.std.proofs.lemmas.List.Elements.{All-push}
use Rattle.base.specs.Shapes.{is_image}
use Rattle.frame.specs.Units.{stretches, layers_of}
use Rattle.frame.specs.declared.frame.Resource.{Resource}
use Rattle.frame.specs.declared.numbered.Stretch.{Stretch}

-- one resource further
pub stretches_on : (rs : List Resource) (i n : ℕ) (r : Resource) (list list' total : List Stretch) → i < length rs → r ≡ get_or rs i r → list' ≡ list ++ record { first = n; layers = r.layers; is_image = is_image r.shape } ∷ [] → list ++ stretches n (drop i rs) ≡ total → list' ++ stretches (n + r.layers) (drop (i + 1) rs) ≡ total
stretches_on rs i n r list list' total lt is grows so_far =
    let at : drop i rs ≡ r ∷ drop (suc i) rs = drop-cons rs i r lt ∙ ap (λ x. x ∷ drop (suc i) rs) (sym is) in
    rw add-one (ap (λ xs. xs ++ stretches (n + r.layers) (drop (suc i) rs)) grows ∙ append_assoc list (record { first = n; layers = r.layers; is_image = is_image r.shape } ∷ []) (stretches (n + r.layers) (drop (suc i) rs)) ∙ ap (λ xs. list ++ stretches n xs) (sym at) ∙ so_far)

split : (rs : List Resource) (i : ℕ) (r : Resource) → i < length rs → r ≡ get_or rs i r → layers_of (drop i rs) ≡ r.layers + layers_of (drop (i + 1) rs)
split rs i r lt is = rw add-one (ap layers_of (drop-cons rs i r lt ∙ ap (λ x. x ∷ drop (suc i) rs) (sym is)))

pub few_on : (rs : List Resource) (i n : ℕ) (r : Resource) → i < length rs → r ≡ get_or rs i r → n + layers_of (drop i rs) ≤ 256 → n + r.layers + layers_of (drop (i + 1) rs) ≤ 256
few_on rs i n r lt is few = let e = split rs i r lt is in omega arith

pub few_here : (rs : List Resource) (i n : ℕ) (r : Resource) → i < length rs → r ≡ get_or rs i r → n + layers_of (drop i rs) ≤ 256 → n + r.layers ≤ 256
few_here rs i n r lt is few = let e = split rs i r lt is in omega arith

pub all_small : (list list' : List Stretch) (s : Stretch) → list' ≡ list ++ s ∷ [] → All (λ s. s.first + s.layers ≤ 256) list → s.first + s.layers ≤ 256 → All (λ s. s.first + s.layers ≤ 256) list'
all_small list list' s grows all here = subst (λ xs. All (λ s. s.first + s.layers ≤ 256) xs) (sym grows) (All-push (λ s. s.first + s.layers ≤ 256) list s all here)
