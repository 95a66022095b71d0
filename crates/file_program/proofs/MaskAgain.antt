-- A written mask is read again.
use Rattle.std.proofs.Common.{◌≡◌, ◌==◌, ◌^◌, ℕ, Bool, true, false, cond, List, [], ◌∷◌, ◌++◌, length, Some, if◌then◌else◌, refl, sym, ap, ◌∙◌, eqb-true, arith}
use Rattle.std.specs.List.{list_any, slice_split, onto_first, AllByRecursion}
use Rattle.std.specs.Option.{option_and_then, option_map}
use Rattle.std.specs.Int.RustNames.{bit_and, bit_or}
use Rattle.std.proofs.lemmas.Bool.{ne_eqb, or_parts}
use Rattle.std.proofs.lemmas.Nat.{and_comm}
use Rattle.std.specs.Int.Bits.{and_zero_r}
use Rattle.vk.specs.Accesses.{access_names}
use Rattle.vk.specs.Sets.{has}
use Rattle.vk.specs.Stages.{stage_names}
use Rattle.vk.specs.Texts.{is_bar, bits_named, union_of, mask_of, names_of, joined, text_of}
use Rattle.vk.specs.declared.accesses.Accesses.{Accesses}
use Rattle.vk.specs.declared.stages.Stages.{Stages}
use Rattle.file_program.specs.Masks.{known, stages_of, stages_text, FitsStages, accesses_of, accesses_text, FitsAccesses}
use Rattle.file_program.proofs.Bits.{and_or_both, or_assoc, zero_or, or_zero, apart}

abbrev Row : Type 0
Row = List ℕ × ℕ

-- NAMES

abbrev Found : List Row → List Row → Type 0
Found table rows = AllByRecursion (λ row. (bits_named table row.0 ≡ Some row.1) × ((k : ℕ) × (row.1 ≡ 2 ^ k))) rows

union_names : (table rows : List Row) (set acc : ℕ) → Found table rows → union_of table acc (names_of rows set) ≡ Some (bit_or acc (bit_and set (known rows)))
union_names table [] set acc found = ap Some (sym (ap (bit_or acc) (and_zero_r set) ∙ or_zero acc))
union_names table (row ∷ rows) set acc found = by_test (has set row.1) refl (λ more. union_names table rows set more found.1)
  where
    rest : ℕ
    rest = bit_and set (known rows)

    by_test : (b : Bool) → has set row.1 ≡ b → ((more : ℕ) → union_of table more (names_of rows set) ≡ Some (bit_or more (bit_and set (known rows)))) → union_of table acc (if b then row.0 ∷ names_of rows set else names_of rows set) ≡ Some (bit_or acc (bit_and set (bit_or row.1 (known rows))))
    by_test true e more =
        let here : bit_and set row.1 ≡ row.1 = eqb-true (bit_and set row.1) row.1 e in
        ap (option_and_then (λ bits. union_of table (bit_or acc bits) (names_of rows set))) found.0.0
        ∙ more (bit_or acc row.1)
        ∙ ap Some (or_assoc acc row.1 (bit_and set (known rows)) ∙ ap (λ x. bit_or acc (bit_or x (bit_and set (known rows)))) (sym here) ∙ ap (bit_or acc) (sym (and_or_both set row.1 (known rows))))
    by_test false e more =
        let none : bit_and set row.1 ≡ 0 = apart set found.0.1.0 row.1 found.0.1.1 e in
        more acc ∙ ap (λ x. Some (bit_or acc x)) (sym (and_or_both set row.1 (known rows) ∙ ap (λ x. bit_or x (bit_and set (known rows))) none ∙ zero_or (bit_and set (known rows))))

-- TEXTS

abbrev Plain : List ℕ → Type 0
Plain name = list_any is_bar name ≡ false

cut_first : (name rest : List ℕ) → Plain name → slice_split is_bar (name ++ 124 ∷ rest) ≡ name ∷ slice_split is_bar rest
cut_first [] rest plain = refl
cut_first (x ∷ name) rest plain =
    let parts = or_parts (is_bar x) (list_any is_bar name) plain in
    ap (λ b. cond b ([] ∷ slice_split is_bar (name ++ 124 ∷ rest)) (onto_first x (slice_split is_bar (name ++ 124 ∷ rest)))) parts.0 ∙ ap (onto_first x) (cut_first name rest parts.1)

uncut : (name : List ℕ) → Plain name → slice_split is_bar name ≡ name ∷ []
uncut [] plain = refl
uncut (x ∷ name) plain =
    let parts = or_parts (is_bar x) (list_any is_bar name) plain in
    ap (λ b. cond b ([] ∷ slice_split is_bar name) (onto_first x (slice_split is_bar name))) parts.0 ∙ ap (onto_first x) (uncut name parts.1)

cut_all : (name : List ℕ) (names : List (List ℕ)) → AllByRecursion Plain (name ∷ names) → slice_split is_bar (joined (name ∷ names)) ≡ name ∷ names
cut_all name [] plain = uncut name plain.0
cut_all name (next ∷ names) plain = cut_first name (joined (next ∷ names)) plain.0 ∙ ap (λ rest. name ∷ rest) (cut_all next names plain.1)

-- each name has a byte and no bar
abbrev Named : List Row → Type 0
Named rows = AllByRecursion (λ row. (Plain row.0) × ((length row.0 == 0) ≡ false)) rows

plain_names : (rows : List Row) (set : ℕ) → Named rows → AllByRecursion (λ name. (Plain name) × ((length name == 0) ≡ false)) (names_of rows set)
plain_names [] set named = tt
plain_names (row ∷ rows) set named = by_test (has set row.1) (plain_names rows set named.1)
  where
    by_test : (b : Bool) → AllByRecursion (λ name. (Plain name) × ((length name == 0) ≡ false)) (names_of rows set) → AllByRecursion (λ name. (Plain name) × ((length name == 0) ≡ false)) (if b then row.0 ∷ names_of rows set else names_of rows set)
    by_test true more = (named.0, more)
    by_test false more = more

all_plain : (names : List (List ℕ)) → AllByRecursion (λ name. (Plain name) × ((length name == 0) ≡ false)) names → AllByRecursion Plain names
all_plain [] named = tt
all_plain (name ∷ names) named = (named.0.0, all_plain names named.1)

cons_some : (x : ℕ) (xs : List ℕ) → (length (x ∷ xs) == 0) ≡ false
cons_some x xs = ne_eqb (length (x ∷ xs)) 0 (λ is. omega (arith, is))

some_text : (name : List ℕ) (names : List (List ℕ)) → (length name == 0) ≡ false → (length (joined (name ∷ names)) == 0) ≡ false
some_text [] names e = absurd cc
some_text (x ∷ name) [] e = e
some_text (x ∷ name) (next ∷ names) e = cons_some x (name ++ 124 ∷ joined (next ∷ names))

read_names : (table : List Row) (names : List (List ℕ)) → AllByRecursion (λ name. (Plain name) × ((length name == 0) ≡ false)) names → mask_of table (joined names) ≡ union_of table 0 names
read_names table [] named = refl
read_names table (name ∷ names) named =
    ap (λ b. if b then Some 0 else union_of table 0 (slice_split is_bar (joined (name ∷ names)))) (some_text name names named.0.1)
    ∙ ap (union_of table 0) (cut_all name names (all_plain (name ∷ names) named))

again : (table : List Row) (set : ℕ) → Found table table → Named table → has (known table) set ≡ true → mask_of table (text_of table set) ≡ Some set
again table set found named within =
    let all : bit_and (known table) set ≡ set = eqb-true (bit_and (known table) set) set within in
    read_names table (names_of table set) (plain_names table set named)
    ∙ union_names table table set 0 found
    ∙ ap Some (zero_or (bit_and set (known table)) ∙ and_comm set (known table) ∙ all)

stages_bits : (set : ℕ) → has (known stage_names) set ≡ true → mask_of stage_names (text_of stage_names set) ≡ Some set
stages_bits set within = again stage_names set ((refl, (10, refl)), ((refl, (11, refl)), ((refl, (12, refl)), ((refl, (14, refl)), ((refl, (16, refl)), ((refl, (32, refl)), ((refl, (35, refl)), tt))))))) ((refl, refl), ((refl, refl), ((refl, refl), ((refl, refl), ((refl, refl), ((refl, refl), ((refl, refl), tt))))))) within

accesses_bits : (set : ℕ) → has (known access_names) set ≡ true → mask_of access_names (text_of access_names set) ≡ Some set
accesses_bits set within = again access_names set ((refl, (5, refl)), ((refl, (6, refl)), ((refl, (7, refl)), ((refl, (8, refl)), ((refl, (11, refl)), ((refl, (12, refl)), ((refl, (13, refl)), ((refl, (15, refl)), ((refl, (16, refl)), ((refl, (32, refl)), ((refl, (33, refl)), ((refl, (34, refl)), tt)))))))))))) ((refl, refl), ((refl, refl), ((refl, refl), ((refl, refl), ((refl, refl), ((refl, refl), ((refl, refl), ((refl, refl), ((refl, refl), ((refl, refl), ((refl, refl), ((refl, refl), tt)))))))))))) within

pub stages_again : (set : Stages) → FitsStages set → stages_of (stages_text set) ≡ Some set
stages_again set fits = ap (option_map (λ bits. record { 0 = bits })) (stages_bits set.0 fits)

pub accesses_again : (set : Accesses) → FitsAccesses set → accesses_of (accesses_text set) ≡ Some set
accesses_again set fits = ap (option_map (λ bits. record { 0 = bits })) (accesses_bits set.0 fits)
