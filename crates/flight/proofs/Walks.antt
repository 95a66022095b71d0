-- One entry further, in lists that grow.
use Rattle.std.proofs.Common.{◌≡◌, ℕ, zero, suc, ◌+◌, ◌<◌, ◌≤◌, ◌++◌, List, [], ◌∷◌, length, map, get_or, drop, drop-cons, Option, Some, None, refl, sym, ap, ap₂, ◌∙◌, add-one, append_assoc, append-nil, arith}
use Rattle.std.specs.Prelude.{option_to_list, unwrap_or}
use Rattle.std.proofs.Math.ListN.{set}
use Rattle.std.proofs.Math.Seq.{drop-length}
use Rattle.flight.specs.Internal.Left.{carried, carries_by, carry_by, imports_by, left_after, left_by, set_held, source_by}
use Rattle.flight.specs.declared.joins.Carry.{Carry}
use Rattle.frame.specs.declared.frame.Pass.{Pass}
use Rattle.frame.specs.declared.frame.Resource.{Resource}
use Rattle.law_window.specs.NamedJoins.{named_copy, named_join, named_joins, named_renewal, whole}
use Rattle.law_window.specs.Names.{numbered_name}
use Rattle.law_window.specs.Passes.{renamed_pass, renamed_passes}
use Rattle.law_window.specs.Resources.{renamed_resources, set_import, set_imports}
use Rattle.law_window.specs.NamedSources.{named_import}

-- A LIST, AND WHAT IS STILL TO COME

pub grown : {Y : Type 0} (list more list' rest rest' total : List Y) → list' ≡ list ++ more → rest ≡ more ++ rest' → list ++ rest ≡ total → list' ++ rest' ≡ total
grown list more list' rest rest' total grows is so_far = ap (λ l. l ++ rest') grows ∙ append_assoc list more rest' ∙ ap (λ r. list ++ r) (sym is) ∙ so_far

pub at_place : {X : Type 0} (xs : List X) (i : ℕ) (x : X) → i < length xs → x ≡ get_or xs i x → drop i xs ≡ x ∷ drop (suc i) xs
at_place xs i x lt is = drop-cons xs i x lt ∙ ap (λ y. y ∷ drop (suc i) xs) (sym is)

pub nothing_more : {Y : Type 0} (list total rest : List Y) → rest ≡ [] → list ++ rest ≡ total → list ≡ total
nothing_more list total rest none so_far = sym (append-nil list) ∙ ap (λ r. list ++ r) (sym none) ∙ so_far

-- WHERE BYTES ARE

pub left_on : (i : ℕ) (holders : List (Option ℕ)) (left : List (Option (List ℕ))) (k : ℕ) (h : Option ℕ) (l y : Option (List ℕ)) (after after' total : List (Option (List ℕ))) → k < length holders → length holders ≡ length left → h ≡ get_or holders k h → l ≡ get_or left k l → y ≡ left_by i h l → after' ≡ after ++ y ∷ [] → after ++ left_after i (drop k holders) (drop k left) ≡ total → after' ++ left_after i (drop (k + 1) holders) (drop (k + 1) left) ≡ total
left_on i holders left k h l y after after' total lt same h_is l_is y_is grows so_far =
    let rest : left_after i (drop k holders) (drop k left) ≡ y ∷ left_after i (drop (suc k) holders) (drop (suc k) left) = ap₂ (left_after i) (at_place holders k h lt h_is) (at_place left k l (omega arith) l_is) ∙ ap (λ z. z ∷ left_after i (drop (suc k) holders) (drop (suc k) left)) (sym y_is) in
    rw add-one (grown after (y ∷ []) after' _ _ total grows rest so_far)

pub left_end : (i : ℕ) (holders : List (Option ℕ)) (left after total : List (Option (List ℕ))) → after ++ left_after i (drop (length holders) holders) (drop (length holders) left) ≡ total → after ≡ total
left_end i holders left after total so_far = nothing_more after total _ (ap (λ hs. left_after i hs (drop (length holders) left)) (drop-length holders)) so_far

pub length_left : (i : ℕ) (holders : List (Option ℕ)) (left : List (Option (List ℕ))) → length holders ≡ length left → length (left_after i holders left) ≡ length left
length_left i [] [] same = refl
length_left i [] (l ∷ left) same = absurd (omega arith)
length_left i (h ∷ holders) [] same = refl
length_left i (h ∷ holders) (l ∷ left) same = ap suc (length_left i holders left (omega arith))

pub left_many : (i : ℕ) (holders : List (Option ℕ)) (left : List (Option (List ℕ))) (k : ℕ) (after : List (Option (List ℕ))) → length holders ≤ k → k ≤ length holders → length holders ≡ length left → after ++ left_after i (drop k holders) (drop k left) ≡ left_after i holders left → length after ≡ length left
left_many i holders left k after far near same so_far =
    let e : k ≡ length holders = omega arith in
    let none : drop k holders ≡ [] = ap (λ n. drop n holders) e ∙ drop-length holders in
    ap length (nothing_more after _ _ (ap (λ hs. left_after i hs (drop k left)) none) so_far) ∙ length_left i holders left same

-- RESOURCES

pub resource_on : (i : ℕ) (rs : List Resource) (j : ℕ) (r r' : Resource) (all all' total : List Resource) → j < length rs → r ≡ get_or rs j r → r' ≡ record r { name = numbered_name i j } → all' ≡ all ++ r' ∷ [] → all ++ renamed_resources i j (drop j rs) ≡ total → all' ++ renamed_resources i (j + 1) (drop (j + 1) rs) ≡ total
resource_on i rs j r r' all all' total lt is gives grows so_far =
    let rest : renamed_resources i j (drop j rs) ≡ r' ∷ renamed_resources i (suc j) (drop (suc j) rs) = ap (renamed_resources i j) (at_place rs j r lt is) ∙ ap (λ x. x ∷ renamed_resources i (suc j) (drop (suc j) rs)) (sym gives) in
    rw add-one (grown all (r' ∷ []) all' _ _ total grows rest so_far)

abbrev with_import : List Resource → Option (List ℕ) → Resource → List Resource
with_import rs import r = record r { import = import } ∷ rs

pub import_set : (rs : List Resource) (k : ℕ) (import : Option (List ℕ)) (r : Resource) → k < length rs → r ≡ get_or rs k r → set rs k (record r { import = import }) ≡ set_import rs k import
import_set [] k import r lt is = refl
import_set (x ∷ rs) zero import r lt is = ap (with_import rs import) is
import_set (x ∷ rs) (suc k) import r lt is = ap (λ ys. x ∷ ys) (import_set rs k import r (omega arith) is)

pub import_unset : (rs : List Resource) (k : ℕ) (import : Option (List ℕ)) → length rs ≤ k → set_import rs k import ≡ rs
import_unset [] k import past = refl
import_unset (x ∷ rs) zero import past = absurd (omega arith)
import_unset (x ∷ rs) (suc k) import past = ap (λ ys. x ∷ ys) (import_unset rs k import (omega arith))

-- names and imports change nothing of each other
renamed_set : (i j : ℕ) (rs : List Resource) (k : ℕ) (import : Option (List ℕ)) → renamed_resources i j (set_import rs k import) ≡ set_import (renamed_resources i j rs) k import
renamed_set i j [] k import = refl
renamed_set i j (r ∷ rs) zero import = refl
renamed_set i j (r ∷ rs) (suc k) import = ap (λ ys. record r { name = numbered_name i j } ∷ ys) (renamed_set i (suc j) rs k import)

pub renamed_sets : (i j : ℕ) (holders : List (Option ℕ)) (imports : List (Option (List ℕ))) (rs : List Resource) → renamed_resources i j (set_imports holders imports rs) ≡ set_imports holders imports (renamed_resources i j rs)
renamed_sets i j [] imports rs = refl
renamed_sets i j (None ∷ holders) [] rs = refl
renamed_sets i j (Some k ∷ holders) [] rs = refl
renamed_sets i j (None ∷ holders) (import ∷ imports) rs = renamed_sets i j holders imports rs
renamed_sets i j (Some k ∷ holders) (import ∷ imports) rs = renamed_sets i j holders imports (set_import rs k import) ∙ ap (set_imports holders imports) (renamed_set i j rs k import)

module _ (holders : List (Option ℕ)) (persisted left : List (Option (List ℕ))) (k : ℕ) (h : Option ℕ) (x y : Option (List ℕ)) (lt : k < length holders) (as_held : length holders ≡ length persisted) (as_left : length holders ≡ length left) (h_is : h ≡ get_or holders k h) (x_is : x ≡ get_or persisted k x) (y_is : y ≡ get_or left k y) where
  imports_at : imports_by (drop k persisted) (drop k left) ≡ named_import (source_by (unwrap_or x []) y) ∷ imports_by (drop (suc k) persisted) (drop (suc k) left)
  imports_at = ap₂ imports_by (at_place persisted k x (omega arith) x_is) (at_place left k y (omega arith) y_is)

  sets_at : (all : List Resource) → set_imports (drop k holders) (imports_by (drop k persisted) (drop k left)) all ≡ set_imports (h ∷ drop (suc k) holders) (named_import (source_by (unwrap_or x []) y) ∷ imports_by (drop (suc k) persisted) (drop (suc k) left)) all
  sets_at all = ap₂ (λ hs is. set_imports hs is all) (at_place holders k h lt h_is) imports_at

set_first : (h : Option ℕ) (import : Option (List ℕ)) (hs : List (Option ℕ)) (imports : List (Option (List ℕ))) (all : List Resource) → set_imports (h ∷ hs) (import ∷ imports) all ≡ set_imports hs imports (set_held h import all)
set_first None import hs imports all = refl
set_first (Some k) import hs imports all = refl

pub holder_on : (holders : List (Option ℕ)) (persisted left : List (Option (List ℕ))) (k : ℕ) (h : Option ℕ) (x y : Option (List ℕ)) (all all' total : List Resource) → k < length holders → length holders ≡ length persisted → length holders ≡ length left → h ≡ get_or holders k h → x ≡ get_or persisted k x → y ≡ get_or left k y → all' ≡ set_held h (named_import (source_by (unwrap_or x []) y)) all → set_imports (drop k holders) (imports_by (drop k persisted) (drop k left)) all ≡ total → set_imports (drop (k + 1) holders) (imports_by (drop (k + 1) persisted) (drop (k + 1) left)) all' ≡ total
holder_on holders persisted left k h x y all all' total lt as_held as_left h_is x_is y_is sets so_far =
    let rest = imports_by (drop (suc k) persisted) (drop (suc k) left) in
    let import = named_import (source_by (unwrap_or x []) y) in
    rw add-one (ap (set_imports (drop (suc k) holders) rest) sets ∙ sym (set_first h import (drop (suc k) holders) rest all) ∙ sym (sets_at holders persisted left k h x y lt as_held as_left h_is x_is y_is all) ∙ so_far)

pub resources_end : (i : ℕ) (holders : List (Option ℕ)) (persisted left : List (Option (List ℕ))) (rs : List Resource) (k : ℕ) (all : List Resource) → length holders ≤ k → k ≤ length holders → set_imports (drop k holders) (imports_by (drop k persisted) (drop k left)) all ≡ set_imports holders (imports_by persisted left) (renamed_resources i 0 rs) → all ≡ renamed_resources i 0 (set_imports holders (imports_by persisted left) rs)
resources_end i holders persisted left rs k all far near so_far =
    let e : k ≡ length holders = omega arith in
    let none : drop k holders ≡ [] = ap (λ n. drop n holders) e ∙ drop-length holders in
    sym (ap (λ hs. set_imports hs (imports_by (drop k persisted) (drop k left)) all) none) ∙ so_far ∙ sym (renamed_sets i 0 holders (imports_by persisted left) rs)

-- COPIES

module _ (i : ℕ) (rs : List Resource) (holders : List (Option ℕ)) (left : List (Option (List ℕ))) (k : ℕ) (h : Option ℕ) (l : Option (List ℕ)) (lt : k < length holders) (same : length holders ≡ length left) (h_is : h ≡ get_or holders k h) (l_is : l ≡ get_or left k l) where
  carries_at : carries_by i rs (drop k holders) (drop k left) ≡ option_to_list (carry_by i rs h l) ++ carries_by i rs (drop (suc k) holders) (drop (suc k) left)
  carries_at = ap₂ (carries_by i rs) (at_place holders k h lt h_is) (at_place left k l (omega arith) l_is)

pub carry_on : (i : ℕ) (rs : List Resource) (holders : List (Option ℕ)) (left : List (Option (List ℕ))) (k : ℕ) (h : Option ℕ) (l : Option (List ℕ)) (carry : Carry) (all all' total : List Carry) → k < length holders → length holders ≡ length left → h ≡ get_or holders k h → l ≡ get_or left k l → carry_by i rs h l ≡ Some carry → all' ≡ all ++ carry ∷ [] → all ++ carries_by i rs (drop k holders) (drop k left) ≡ total → all' ++ carries_by i rs (drop (k + 1) holders) (drop (k + 1) left) ≡ total
carry_on i rs holders left k h l carry all all' total lt same h_is l_is gives grows so_far =
    let rest : carries_by i rs (drop k holders) (drop k left) ≡ carry ∷ carries_by i rs (drop (suc k) holders) (drop (suc k) left) = carries_at i rs holders left k h l lt same h_is l_is ∙ ap (λ o. option_to_list o ++ carries_by i rs (drop (suc k) holders) (drop (suc k) left)) gives in
    rw add-one (grown all (carry ∷ []) all' _ _ total grows rest so_far)

pub no_carry_on : (i : ℕ) (rs : List Resource) (holders : List (Option ℕ)) (left : List (Option (List ℕ))) (k : ℕ) (h : Option ℕ) (l : Option (List ℕ)) (all total : List Carry) → k < length holders → length holders ≡ length left → h ≡ get_or holders k h → l ≡ get_or left k l → carry_by i rs h l ≡ None → all ++ carries_by i rs (drop k holders) (drop k left) ≡ total → all ++ carries_by i rs (drop (k + 1) holders) (drop (k + 1) left) ≡ total
no_carry_on i rs holders left k h l all total lt same h_is l_is gives so_far =
    let rest : carries_by i rs (drop k holders) (drop k left) ≡ carries_by i rs (drop (suc k) holders) (drop (suc k) left) = carries_at i rs holders left k h l lt same h_is l_is ∙ ap (λ o. option_to_list o ++ carries_by i rs (drop (suc k) holders) (drop (suc k) left)) gives in
    rw add-one (ap (λ r. all ++ r) (sym rest) ∙ so_far)

pub carries_end : (i : ℕ) (rs : List Resource) (holders : List (Option ℕ)) (left : List (Option (List ℕ))) (all total : List Carry) → all ++ carries_by i rs (drop (length holders) holders) (drop (length holders) left) ≡ total → all ≡ total
carries_end i rs holders left all total so_far = nothing_more all total _ (ap (λ hs. carries_by i rs hs (drop (length holders) left)) (drop-length holders)) so_far

pub reads_carried : (all : List Carry) → map (λ carry. whole carry.from) (map carried all) ≡ map (λ carry. whole carry.from) all
reads_carried [] = refl
reads_carried (carry ∷ all) = ap (λ xs. whole carry.from ∷ xs) (reads_carried all)

pub writes_carried : (all : List Carry) → map named_renewal (map carried all) ≡ map (λ carry. named_renewal (carried carry)) all
writes_carried [] = refl
writes_carried (carry ∷ all) = ap (λ xs. named_renewal (carried carry) ∷ xs) (writes_carried all)

pub ops_carried : (all : List Carry) → map named_copy (map carried all) ≡ map (λ carry. named_copy (carried carry)) all
ops_carried [] = refl
ops_carried (carry ∷ all) = ap (λ xs. named_copy (carried carry) ∷ xs) (ops_carried all)

pub join_added : (i : ℕ) (queue : List ℕ) (all : List Carry) (pass : Pass) (passes passes' : List Pass) → 0 < length all → pass ≡ named_join i queue (map carried all) → passes' ≡ passes ++ pass ∷ [] → passes' ≡ passes ++ named_joins i queue (map carried all)
join_added i queue [] pass passes passes' some is grows = absurd (omega arith)
join_added i queue (carry ∷ all) pass passes passes' some is grows = grows ∙ ap (λ p. passes ++ p ∷ []) is

pub nothing_joined : (i : ℕ) (queue : List ℕ) (all : List Carry) (passes : List Pass) → length all ≡ 0 → passes ≡ passes ++ named_joins i queue (map carried all)
nothing_joined i queue [] passes none = sym (append-nil passes)
nothing_joined i queue (carry ∷ all) passes none = absurd (omega arith)

-- PASSES

pub pass_on : (i : ℕ) (rename : List ℕ → List ℕ) (ps : List Pass) (k : ℕ) (p p' : Pass) (all all' total : List Pass) → k < length ps → p ≡ get_or ps k p → p' ≡ renamed_pass rename (numbered_name i k) p → all' ≡ all ++ p' ∷ [] → all ++ renamed_passes i k rename (drop k ps) ≡ total → all' ++ renamed_passes i (k + 1) rename (drop (k + 1) ps) ≡ total
pass_on i rename ps k p p' all all' total lt is gives grows so_far =
    let rest : renamed_passes i k rename (drop k ps) ≡ p' ∷ renamed_passes i (suc k) rename (drop (suc k) ps) = ap (renamed_passes i k rename) (at_place ps k p lt is) ∙ ap (λ x. x ∷ renamed_passes i (suc k) rename (drop (suc k) ps)) (sym gives) in
    rw add-one (grown all (p' ∷ []) all' _ _ total grows rest so_far)

pub passes_end : (i : ℕ) (rename : List ℕ → List ℕ) (ps all total : List Pass) → all ++ renamed_passes i (length ps) rename (drop (length ps) ps) ≡ total → all ≡ total
passes_end i rename ps all total so_far = nothing_more all total _ (ap (renamed_passes i (length ps) rename) (drop-length ps)) so_far

-- two lists that are added one after the other
pub both_added : {X : Type 0} (old middle new first second : List X) → middle ≡ old ++ first → new ≡ middle ++ second → new ≡ old ++ (first ++ second)
both_added old middle new first second one two = two ∙ ap (λ l. l ++ second) one ∙ append_assoc old first second
