-- Where the units of renamed resources stand.
use Rattle.std.proofs.Common.{◌≡◌, ℕ, zero, suc, ◌+◌, ◌<◌, ◌++◌, List, [], ◌∷◌, length, map, slice_get, nat_lt, true, Option, Some, None, refl, ap, ◌∙◌, subst, arith}
use Rattle.std.specs.Prelude.{option_and_then}
use Rattle.std.specs.List.{All}
use Rattle.std.proofs.lemmas.Bool.{lt-ltb}
use Rattle.std.proofs.lemmas.List.Elements.{All-head, All-tail}
use Rattle.base.specs.Shapes.{is_image}
use Rattle.frame.specs.Units.{layers_of, stretches}
use Rattle.frame.specs.declared.frame.Resource.{Resource}
use Rattle.frame.specs.declared.numbered.Stretch.{Stretch}
use Rattle.law_window.specs.Resources.{renamed_resources, set_import, set_imports}

-- the units of a resource, n further on
abbrev pub moved_stretch : ℕ → Stretch → Stretch
moved_stretch n s = record { first = n + s.first; layers = s.layers; is_image = s.is_image }

pub stretches_on : (n : ℕ) (rs ss : List Resource) → stretches n (rs ++ ss) ≡ stretches n rs ++ stretches (n + layers_of rs) ss
stretches_on n [] ss = let e : n ≡ n + 0 = omega arith in ap (λ k. stretches k ss) e
stretches_on n (r ∷ rs) ss =
    let e : (n + r.layers) + layers_of rs ≡ n + (r.layers + layers_of rs) = omega arith in
    ap (λ list. record { first = n; layers = r.layers; is_image = is_image r.shape } ∷ list) (stretches_on (n + r.layers) rs ss ∙ ap (λ k. stretches (n + r.layers) rs ++ stretches k ss) e)

pub stretches_moved : (n m : ℕ) (rs : List Resource) → stretches (n + m) rs ≡ map (moved_stretch n) (stretches m rs)
stretches_moved n m [] = refl
stretches_moved n m (r ∷ rs) =
    let e : (n + m) + r.layers ≡ n + (m + r.layers) = omega arith in
    ap (λ list. record { first = n + m; layers = r.layers; is_image = is_image r.shape } ∷ list) (ap (λ k. stretches k rs) e ∙ stretches_moved n (m + r.layers) rs)

pub stretch_count : (n : ℕ) (rs : List Resource) → length (stretches n rs) ≡ length rs
stretch_count n [] = refl
stretch_count n (r ∷ rs) = ap suc (stretch_count (n + r.layers) rs)

-- NEITHER NAMES NOR IMPORTS COUNT

pub renamed_stretches : (i j n : ℕ) (rs : List Resource) → stretches n (renamed_resources i j rs) ≡ stretches n rs
renamed_stretches i j n [] = refl
renamed_stretches i j n (r ∷ rs) = ap (λ ss. record { first = n; layers = r.layers; is_image = is_image r.shape } ∷ ss) (renamed_stretches i (suc j) (n + r.layers) rs)

set_stretches : (n : ℕ) (rs : List Resource) (k : ℕ) (import : Option (List ℕ)) → stretches n (set_import rs k import) ≡ stretches n rs
set_stretches n [] k import = refl
set_stretches n (r ∷ rs) zero import = refl
set_stretches n (r ∷ rs) (suc k) import = ap (λ ss. record { first = n; layers = r.layers; is_image = is_image r.shape } ∷ ss) (set_stretches (n + r.layers) rs k import)

pub sets_stretches : (n : ℕ) (holders : List (Option ℕ)) (imports : List (Option (List ℕ))) (rs : List Resource) → stretches n (set_imports holders imports rs) ≡ stretches n rs
sets_stretches n [] imports rs = refl
sets_stretches n (None ∷ holders) [] rs = refl
sets_stretches n (Some k ∷ holders) [] rs = refl
sets_stretches n (None ∷ holders) (import ∷ imports) rs = sets_stretches n holders imports rs
sets_stretches n (Some k ∷ holders) (import ∷ imports) rs = sets_stretches n holders imports (set_import rs k import) ∙ set_stretches n rs k import

pub renamed_layers : (i j : ℕ) (rs : List Resource) → layers_of (renamed_resources i j rs) ≡ layers_of rs
renamed_layers i j [] = refl
renamed_layers i j (r ∷ rs) = ap (λ m. r.layers + m) (renamed_layers i (suc j) rs)

set_layers : (rs : List Resource) (k : ℕ) (import : Option (List ℕ)) → layers_of (set_import rs k import) ≡ layers_of rs
set_layers [] k import = refl
set_layers (r ∷ rs) zero import = refl
set_layers (r ∷ rs) (suc k) import = ap (λ m. r.layers + m) (set_layers rs k import)

pub sets_layers : (holders : List (Option ℕ)) (imports : List (Option (List ℕ))) (rs : List Resource) → layers_of (set_imports holders imports rs) ≡ layers_of rs
sets_layers [] imports rs = refl
sets_layers (None ∷ holders) [] rs = refl
sets_layers (Some k ∷ holders) [] rs = refl
sets_layers (None ∷ holders) (import ∷ imports) rs = sets_layers holders imports rs
sets_layers (Some k ∷ holders) (import ∷ imports) rs = sets_layers holders imports (set_import rs k import) ∙ set_layers rs k import

-- each stretch has a layer where each resource has one
some_stretch : (m : ℕ) (rs : List Resource) (k : ℕ) (s : Stretch) → All (λ r. 0 < r.layers) rs → slice_get (stretches m rs) k ≡ Some s → nat_lt 0 s.layers ≡ true
some_stretch m [] k s some e = absurd cc
some_stretch m (r ∷ rs) zero s some e = let same : r.layers ≡ s.layers = cc in subst (λ l. nat_lt 0 l ≡ true) same (lt-ltb 0 r.layers (All-head (λ x. 0 < x.layers) r rs some))
some_stretch m (r ∷ rs) (suc k) s some e = some_stretch (m + r.layers) rs k s (All-tail (λ x. 0 < x.layers) r rs some) e

pub found_some : (rs : List Resource) (s : Stretch) (o : Option ℕ) → All (λ r. 0 < r.layers) rs → option_and_then (slice_get (stretches 0 rs)) o ≡ Some s → nat_lt 0 s.layers ≡ true
found_some rs s None some e = absurd cc
found_some rs s (Some k) some e = some_stretch 0 rs k s some e
