-- Units with other imports.
use Rattle.std.proofs.Common.{◌≡◌, ◌≢◌, ℕ, zero, suc, ◌<◌, ◌==◌, ◌&&◌, List, [], ◌∷◌, Bool, true, false, length, map, slice_set, replicate, unwrap_or, Option, Some, None, refl, sym, ap, ◌∙◌, arith}
use Rattle.std.specs.List.{AllByRecursion}
use Rattle.std.proofs.lemmas.Bool.{eqb-true}
use Rattle.std.proofs.lemmas.List.{length-replicate}
use Rattle.base.specs.Applied.{bytes_at}
use Rattle.base.specs.Shapes.{bytes_of, is_buffer, shape_at}
use Rattle.frame.specs.Valid.{is_import}
use Rattle.frame.specs.Units.{Unit}
use Rattle.frame.specs.Uses.{import_fits}
use Rattle.frame_meaning.specs.Meaning.{first_bytes}
use Rattle.law_window.specs.Flown.{with_import, with_imports}
use Rattle.law_window.specs.Together.{Absent}

-- ONE IMPORT

pub same_shapes : (us : List Unit) (x : ℕ) (i : Option (List ℕ)) → map (λ u. u.shape) (with_import us x i) ≡ map (λ u. u.shape) us
same_shapes [] x i = refl
same_shapes (u ∷ us) zero i = refl
same_shapes (u ∷ us) (suc x) i = ap (λ s. u.shape ∷ s) (same_shapes us x i)

pub same_length : (us : List Unit) (x : ℕ) (i : Option (List ℕ)) → length (with_import us x i) ≡ length us
same_length [] x i = refl
same_length (u ∷ us) zero i = refl
same_length (u ∷ us) (suc x) i = ap suc (same_length us x i)

pub imported_bytes : (us : List Unit) (x : ℕ) (b : List ℕ) → map first_bytes (with_import us x (Some b)) ≡ slice_set (map first_bytes us) x b
imported_bytes [] x b = refl
imported_bytes (u ∷ us) zero b = refl
imported_bytes (u ∷ us) (suc x) b = ap (λ s. first_bytes u ∷ s) (imported_bytes us x b)

pub last_import : (us : List Unit) (x : ℕ) (i j : Option (List ℕ)) → with_import (with_import us x i) x j ≡ with_import us x j
last_import [] x i j = refl
last_import (u ∷ us) zero i j = refl
last_import (u ∷ us) (suc x) i j = ap (λ s. u ∷ s) (last_import us x i j)

pub imports_commute : (us : List Unit) (x y : ℕ) (i j : Option (List ℕ)) → x ≢ y → with_import (with_import us x i) y j ≡ with_import (with_import us y j) x i
imports_commute [] x y i j other = refl
imports_commute (u ∷ us) zero zero i j other = absurd (other refl)
imports_commute (u ∷ us) zero (suc y) i j other = refl
imports_commute (u ∷ us) (suc x) zero i j other = refl
imports_commute (u ∷ us) (suc x) (suc y) i j other = ap (λ s. u ∷ s) (imports_commute us x y i j (λ e. other (ap suc e)))

pub is_imported : (us : List Unit) (x : ℕ) (b : List ℕ) → x < length us → is_import (with_import us x (Some b)) x ≡ true
is_imported [] x b lt = absurd (omega arith)
is_imported (u ∷ us) zero b lt = refl
is_imported (u ∷ us) (suc x) b lt = is_imported us x b (omega arith)

pub is_as_before : (us : List Unit) (x y : ℕ) (i : Option (List ℕ)) → x ≢ y → is_import (with_import us x i) y ≡ is_import us y
is_as_before [] x y i other = refl
is_as_before (u ∷ us) zero zero i other = absurd (other refl)
is_as_before (u ∷ us) zero (suc y) i other = refl
is_as_before (u ∷ us) (suc x) zero i other = refl
is_as_before (u ∷ us) (suc x) (suc y) i other = is_as_before us x y i (λ e. other (ap suc e))

-- ALL IMPORTS

pub all_shapes : (places : List (Option ℕ)) (imports : List (Option (List ℕ))) (us : List Unit) → map (λ u. u.shape) (with_imports places imports us) ≡ map (λ u. u.shape) us
all_shapes [] imports us = refl
all_shapes (place ∷ places) [] us = refl
all_shapes (None ∷ places) (i ∷ imports) us = all_shapes places imports us
all_shapes (Some x ∷ places) (i ∷ imports) us = all_shapes places imports (with_import us x i) ∙ same_shapes us x i

pub all_length : (places : List (Option ℕ)) (imports : List (Option (List ℕ))) (us : List Unit) → length (with_imports places imports us) ≡ length us
all_length [] imports us = refl
all_length (place ∷ places) [] us = refl
all_length (None ∷ places) (i ∷ imports) us = all_length places imports us
all_length (Some x ∷ places) (i ∷ imports) us = all_length places imports (with_import us x i) ∙ same_length us x i

-- an import at no place may come first or last
pub import_last : (places : List (Option ℕ)) (imports : List (Option (List ℕ))) (us : List Unit) (x : ℕ) (i : Option (List ℕ)) → Absent x places → with_imports places imports (with_import us x i) ≡ with_import (with_imports places imports us) x i
import_last [] imports us x i absent = refl
import_last (place ∷ places) [] us x i absent = refl
import_last (None ∷ places) (j ∷ imports) us x i absent = import_last places imports us x i absent
import_last (Some y ∷ places) (j ∷ imports) us x i absent = ap (with_imports places imports) (imports_commute us x y i j absent.0) ∙ import_last places imports (with_import us y j) x i absent.1

-- the bytes of a unit at no place, put in before or after the imports
pub bytes_last : (places : List (Option ℕ)) (imports : List (Option (List ℕ))) (us : List Unit) (x : ℕ) (i : Option (List ℕ)) (b : List ℕ) → Absent x places → slice_set (map first_bytes (with_imports places imports (with_import us x i))) x b ≡ map first_bytes (with_imports places imports (with_import us x (Some b)))
bytes_last places imports us x i b absent =
    let all = with_imports places imports us in
    ap (λ v. slice_set (map first_bytes v) x b) (import_last places imports us x i absent)
    ∙ sym (imported_bytes (with_import all x i) x b)
    ∙ ap (map first_bytes) (last_import all x i (Some b) ∙ sym (import_last places imports us x (Some b) absent))

-- IMPORTS OF THEIR UNITS' LENGTHS

abbrev pub Fit : Unit → Type 0
Fit u = import_fits u.shape u.imported ≡ true

pub first_long : (u : Unit) → Fit u → length (first_bytes u) ≡ bytes_of u.shape
first_long u fit = by_import u.imported refl fit
  where
    right : (a b : Bool) → (a && b) ≡ true → b ≡ true
    right true b e = e
    right false b e = absurd cc

    by_import : (o : Option (List ℕ)) → u.imported ≡ o → import_fits u.shape o ≡ true → length (first_bytes u) ≡ bytes_of u.shape
    by_import None is e = ap (λ o. length (unwrap_or o (replicate (bytes_of u.shape) 0))) is ∙ length-replicate (bytes_of u.shape) 0
    by_import (Some bytes) is e = ap (λ o. length (unwrap_or o (replicate (bytes_of u.shape) 0))) is ∙ eqb-true (length bytes) (bytes_of u.shape) (right (is_buffer u.shape) (length bytes == bytes_of u.shape) e)

pub all_long : (us : List Unit) → AllByRecursion Fit us → (x : ℕ) → x < length us → length (bytes_at (map first_bytes us) x) ≡ bytes_of (shape_at (map (λ u. u.shape) us) x)
all_long [] fit x lt = absurd (omega arith)
all_long (u ∷ us) fit zero lt = first_long u fit.0
all_long (u ∷ us) fit (suc x) lt = all_long us fit.1 x (omega arith)

pub one_fits : (us : List Unit) (x : ℕ) (i : Option (List ℕ)) → AllByRecursion Fit us → import_fits (shape_at (map (λ u. u.shape) us) x) i ≡ true → AllByRecursion Fit (with_import us x i)
one_fits [] x i fit e = tt
one_fits (u ∷ us) zero i fit e = (e, fit.1)
one_fits (u ∷ us) (suc x) i fit e = (fit.0, one_fits us x i fit.1 e)
