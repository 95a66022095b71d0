-- The units of a declared window.
use Rattle.std.proofs.Common.{◌≡◌, ℕ, zero, suc, ◌+◌, ◌++◌, List, [], ◌∷◌, length, replicate, Option, Some, None, refl, sym, ap, ap₂, ◌∙◌, arith}
use Rattle.std.specs.List.{flat_map}
use Rattle.std.proofs.lemmas.List.{length-replicate}
use Rattle.frame.specs.Units.{Unit, unit_from, units_from}
use Rattle.frame.specs.declared.frame.Resource.{Resource}
use Rattle.law_window.proofs.Holders.{HaveOneLayer, OneLayer}
use Rattle.law_window.specs.Declared.{places_in, unit_at}
use Rattle.law_window.specs.Resources.{renamed_resources, set_import, set_imports}
use Rattle.law_window.specs.Flown.{with_import, with_imports}

-- names are no part of units
pub same_units : (i j : ℕ) (rs : List Resource) → flat_map units_from (renamed_resources i j rs) ≡ flat_map units_from rs
same_units i j [] = refl
same_units i j (r ∷ rs) = ap (λ us. units_from r ++ us) (same_units i (suc j) rs)

import_after : (before us : List Unit) (x : ℕ) (import : Option (List ℕ)) → with_import (before ++ us) (length before + x) import ≡ before ++ with_import us x import
import_after [] us x import = let e : 0 + x ≡ x = omega arith in ap (λ k. with_import us k import) e
import_after (u ∷ before) us x import = let e : suc (length before) + x ≡ suc (length before + x) = omega arith in ap (λ k. with_import (u ∷ (before ++ us)) k import) e ∙ ap (λ vs. u ∷ vs) (import_after before us x import)

one_import : (rs : List Resource) (k : ℕ) (import : Option (List ℕ)) → OneLayer rs k → flat_map units_from (set_import rs k import) ≡ with_import (flat_map units_from rs) (unit_at rs k) import
one_import [] k import one = refl
one_import (r ∷ rs) zero import one =
    ap (λ m. replicate m (unit_from (record r { import = import })) ++ flat_map units_from rs) one ∙ sym (ap (λ m. with_import (replicate m (unit_from r) ++ flat_map units_from rs) 0 import) one)
one_import (r ∷ rs) (suc k) import one =
    ap (λ us. units_from r ++ us) (one_import rs k import one)
    ∙ sym (import_after (units_from r) (flat_map units_from rs) (unit_at rs k) import)
    ∙ ap (λ m. with_import (units_from r ++ flat_map units_from rs) (m + unit_at rs k) import) (length-replicate r.layers (unit_from r))

same_places : (rs : List Resource) (k j : ℕ) (import : Option (List ℕ)) → unit_at (set_import rs k import) j ≡ unit_at rs j
same_places [] k j import = refl
same_places (r ∷ rs) zero zero import = refl
same_places (r ∷ rs) zero (suc j) import = refl
same_places (r ∷ rs) (suc k) zero import = refl
same_places (r ∷ rs) (suc k) (suc j) import = ap (λ m. r.layers + m) (same_places rs k j import)

all_places : (rs : List Resource) (k : ℕ) (import : Option (List ℕ)) (holders : List (Option ℕ)) → places_in (set_import rs k import) holders ≡ places_in rs holders
all_places rs k import [] = refl
all_places rs k import (None ∷ holders) = ap (λ ps. None ∷ ps) (all_places rs k import holders)
all_places rs k import (Some j ∷ holders) = ap₂ (λ x ps. Some x ∷ ps) (same_places rs k j import) (all_places rs k import holders)

same_layer : (rs : List Resource) (k j : ℕ) (import : Option (List ℕ)) → OneLayer rs j → OneLayer (set_import rs k import) j
same_layer [] k j import one = one
same_layer (r ∷ rs) zero zero import one = one
same_layer (r ∷ rs) zero (suc j) import one = one
same_layer (r ∷ rs) (suc k) zero import one = one
same_layer (r ∷ rs) (suc k) (suc j) import one = same_layer rs k j import one

all_layers : (rs : List Resource) (k : ℕ) (import : Option (List ℕ)) (holders : List (Option ℕ)) → HaveOneLayer rs holders → HaveOneLayer (set_import rs k import) holders
all_layers rs k import [] persisted = tt
all_layers rs k import (None ∷ holders) persisted = all_layers rs k import holders persisted
all_layers rs k import (Some j ∷ holders) persisted = (same_layer rs k j import persisted.0, all_layers rs k import holders persisted.1)

-- imports of resources are imports of their units
pub units_with_imports : (holders : List (Option ℕ)) (imports : List (Option (List ℕ))) (rs : List Resource) → HaveOneLayer rs holders → flat_map units_from (set_imports holders imports rs) ≡ with_imports (places_in rs holders) imports (flat_map units_from rs)
units_with_imports [] imports rs persisted = refl
units_with_imports (None ∷ holders) [] rs persisted = refl
units_with_imports (Some k ∷ holders) [] rs persisted = refl
units_with_imports (None ∷ holders) (import ∷ imports) rs persisted = units_with_imports holders imports rs persisted
units_with_imports (Some k ∷ holders) (import ∷ imports) rs persisted =
    units_with_imports holders imports (set_import rs k import) (all_layers rs k import holders persisted.1)
    ∙ ap₂ (λ ps us. with_imports ps imports us) (all_places rs k import holders) (one_import rs k import persisted.0)
