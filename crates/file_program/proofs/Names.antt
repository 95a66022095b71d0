-- The names of masks that are read and written.
use Rattle.std.proofs.Common.{◌≡◌, ◌≤◌, ◌<◌, ◌+◌, ◌++◌, ◌==◌, ℕ, zero, suc, Bool, true, false, List, [], ◌∷◌, length, drop, slice_get, Option, Some, None, IfSome, if◌then◌else◌, refl, sym, ap, ◌∙◌, subst, arith, eq-eqb}
use Rattle.std.specs.List.{slice_split}
use Rattle.std.specs.Option.{option_and_then, option_map}
use Rattle.std.specs.Int.RustNames.{bit_and, bit_or}
use Rattle.std.specs.Str.{bytes_eq}
use Rattle.std.proofs.lemmas.List.{append-nil, append_assoc}
use Rattle.std.proofs.lemmas.Option.{slice_get_within}
use Rattle.std.specs.Int.Bits.{and_zero_r}
use Rattle.vk.specs.Accesses.{access_names}
use Rattle.vk.specs.Sets.{has}
use Rattle.vk.specs.Stages.{stage_names}
use Rattle.vk.specs.Texts.{is_bar, bits_named, union_of, mask_of, names_of, joined}
use Rattle.vk.specs.declared.accesses.Accesses.{Accesses}
use Rattle.vk.specs.declared.stages.Stages.{Stages}
use Rattle.file_program.specs.Masks.{known, IsNamed, FitsStages, FitsAccesses}
use Rattle.file_program.proofs.Bits.{has_first, has_rest, has_union}

abbrev Row : Type 0
Row = List ℕ × ℕ

-- THERE ARE FEW

few_names : (rows : List Row) (set : ℕ) → length (names_of rows set) ≤ length rows
few_names [] set = omega arith
few_names (row ∷ rows) set = by_test (has set row.1) (few_names rows set)
  where
    by_test : (b : Bool) → length (names_of rows set) ≤ length rows → length (if b then row.0 ∷ names_of rows set else names_of rows set) ≤ suc (length rows)
    by_test true le = omega (arith, le)
    by_test false le = omega (arith, le)

pub few : {X : Type 0} (f : X → List ℕ) (rows : List Row) (set k : ℕ) (found : Option X) → length rows ≤ 16 → option_map f found ≡ slice_get (names_of rows set) k → IfSome found (λ name. k < 16)
few f rows set k None le is = tt
few f rows set k (Some x) le is =
    let lt : k < length (names_of rows set) = slice_get_within (names_of rows set) k (f x) (sym is) in
    let few : length (names_of rows set) ≤ length rows = few_names rows set in
    omega (arith, lt, few, le)

-- READING

named_known : (rows : List Row) (name : List ℕ) (bits : ℕ) → bits_named rows name ≡ Some bits → bit_and (known rows) bits ≡ bits
named_known [] name bits is = absurd cc
named_known (row ∷ rows) name bits is = by_test (bytes_eq row.0 name) is (named_known rows name bits)
  where
    by_test : (b : Bool) → (if b then Some row.1 else bits_named rows name) ≡ Some bits → (bits_named rows name ≡ Some bits → bit_and (known rows) bits ≡ bits) → bit_and (bit_or row.1 (known rows)) bits ≡ bits
    by_test true is later = let same : row.1 ≡ bits = cc in subst (λ x. bit_and (bit_or row.1 (known rows)) x ≡ x) same (has_first row.1 (known rows))
    by_test false is later = has_rest row.1 (known rows) bits (later is)

union_known : (rows : List Row) (names : List (List ℕ)) (set all : ℕ) → bit_and (known rows) set ≡ set → union_of rows set names ≡ Some all → bit_and (known rows) all ≡ all
union_known rows [] set all within is = let same : set ≡ all = cc in subst (λ x. bit_and (known rows) x ≡ x) same within
union_known rows (name ∷ names) set all within is = by_name (bits_named rows name) refl is (λ more. union_known rows names more all)
  where
    by_name : (found : Option ℕ) → bits_named rows name ≡ found → option_and_then (λ bits. union_of rows (bit_or set bits) names) found ≡ Some all → ((more : ℕ) → bit_and (known rows) more ≡ more → union_of rows more names ≡ Some all → bit_and (known rows) all ≡ all) → bit_and (known rows) all ≡ all
    by_name None at is later = absurd cc
    by_name (Some bits) at is later = later (bit_or set bits) (has_union (known rows) set bits within (named_known rows name bits at)) is

mask_known : (rows : List Row) (text : List ℕ) (all : ℕ) → mask_of rows text ≡ Some all → bit_and (known rows) all ≡ all
mask_known rows text all is = by_test (length text == 0) is
  where
    by_test : (b : Bool) → (if b then Some 0 else union_of rows 0 (slice_split is_bar text)) ≡ Some all → bit_and (known rows) all ≡ all
    by_test true is = let same : 0 ≡ all = cc in subst (λ x. bit_and (known rows) x ≡ x) same (and_zero_r (known rows))
    by_test false is = union_known rows (slice_split is_bar text) 0 all (and_zero_r (known rows)) is

named : (rows : List Row) (text : List ℕ) (all : ℕ) → mask_of rows text ≡ Some all → IsNamed rows all
named rows text all is = eq-eqb (bit_and (known rows) all) all (mask_known rows text all is)

pub stages_fit : (found : Option Stages) (text : List ℕ) → option_map (λ s. s.0) found ≡ mask_of stage_names text → IfSome found FitsStages
stages_fit None text is = tt
stages_fit (Some set) text is = named stage_names text set.0 (sym is)

pub accesses_fit : (found : Option Accesses) (text : List ℕ) → option_map (λ a. a.0) found ≡ mask_of access_names text → IfSome found FitsAccesses
accesses_fit None text is = tt
accesses_fit (Some set) text is = named access_names text set.0 (sym is)

-- WRITING

-- each name with a bar before it
abbrev pub barred : List (List ℕ) → List ℕ
barred [] = []
barred (name ∷ names) = 124 ∷ name ++ barred names

joined_first : (name : List ℕ) (names : List (List ℕ)) → joined (name ∷ names) ≡ name ++ barred names
joined_first name [] = sym (append-nil name)
joined_first name (next ∷ names) = ap (λ rest. name ++ 124 ∷ rest) (joined_first next names)

no_more : (names : List (List ℕ)) (k : ℕ) → slice_get names k ≡ None → drop k names ≡ []
no_more [] zero is = refl
no_more [] (suc k) is = refl
no_more (name ∷ names) zero is = absurd cc
no_more (name ∷ names) (suc k) is = no_more names k is

one_more : (names : List (List ℕ)) (k : ℕ) (name : List ℕ) → slice_get names k ≡ Some name → drop k names ≡ name ∷ drop (suc k) names
one_more [] k name is = absurd cc
one_more (first ∷ names) zero name is = let same : first ≡ name = cc in ap (λ x. x ∷ names) same
one_more (first ∷ names) (suc k) name is = one_more names k name is

-- the text of no names, of the first, of one more, and of all
pub joined_none : (names : List (List ℕ)) → None ≡ slice_get names 0 → [] ≡ joined names
joined_none [] is = refl
joined_none (name ∷ names) is = absurd cc

pub starts : (names : List (List ℕ)) (first text : List ℕ) → Some first ≡ slice_get names 0 → text ≡ first → text ++ barred (drop 1 names) ≡ joined names
starts [] first text is at = absurd cc
starts (name ∷ names) first text is at = let same : first ≡ name = cc in ap (λ t. t ++ barred names) (at ∙ same) ∙ sym (joined_first name names)

pub goes_on : (names : List (List ℕ)) (k : ℕ) (name text next total : List ℕ) → Some name ≡ slice_get names k → next ≡ text ++ 124 ∷ [] ++ name → text ++ barred (drop k names) ≡ total → next ++ barred (drop (k + 1) names) ≡ total
goes_on names k name text next total is at so_far =
    let more : k + 1 ≡ suc k = omega arith in
    let rest = barred (drop (suc k) names) in
    let left : text ++ barred (drop k names) ≡ text ++ (124 ∷ name ++ rest) = ap (λ ns. text ++ barred ns) (one_more names k name (sym is)) in
    rw (more, at) (append_assoc (text ++ 124 ∷ []) name rest ∙ append_assoc text (124 ∷ []) (name ++ rest) ∙ sym left ∙ so_far)

pub ends : (names : List (List ℕ)) (k : ℕ) (text total : List ℕ) → None ≡ slice_get names k → text ++ barred (drop k names) ≡ total → text ≡ total
ends names k text total is so_far = sym (ap (λ ns. text ++ barred ns) (no_more names k (sym is)) ∙ append-nil text) ∙ so_far
