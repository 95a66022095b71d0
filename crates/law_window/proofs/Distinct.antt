-- The names of a window are different.
use Rattle.std.proofs.Common.{◌≡◌, ℕ, zero, suc, ◌+◌, ◌^◌, ◌<◌, ◌≤◌, ◌++◌, List, [], ◌∷◌, length, Bool, true, false, refl, sym, ap, ◌∙◌, codes, arith}
use Rattle.std.specs.List.{AllByRecursion}
use Rattle.std.specs.Str.{bytes_eq}
use Rattle.std.specs.Fmt.{decimal}
use Rattle.std.proofs.lemmas.Fmt.{decimal_injective, length-decimal-le}
use Rattle.std.proofs.lemmas.Slice.Eq.{bytes_eq-Decides}
use Rattle.base.proofs.Lists.{all_append}
use Rattle.law_window.proofs.OwnNames.{all_names, own_names}
use Rattle.law_window.proofs.Pairs.{NoPair, no_pair_on}
use Rattle.law_window.specs.Names.{join_name, numbered_name}

-- TWO NAMES

pub apart : (a b : List ℕ) → (a ≡ b → ⊥) → bytes_eq a b ≡ false
apart a b other = by_test (bytes_eq a b) refl
  where
    by_test : (c : Bool) → bytes_eq a b ≡ c → bytes_eq a b ≡ false
    by_test true e = absurd (other ((bytes_eq-Decides a b).0 e))
    by_test false e = e

same_frame : (i k : ℕ) (more rest : List ℕ) → ◌≡◌ {A = List ℕ} ((48 + i) ∷ more) ((48 + k) ∷ rest) → i ≡ k
same_frame i k more rest e = let digits : 48 + i ≡ 48 + k = cc in omega arith

pub same_resource : (i j k l : ℕ) → j < 2 ^ 64 → l < 2 ^ 64 → numbered_name i j ≡ numbered_name k l → j ≡ l
same_resource i j k l small few e = let digits : decimal j ≡ decimal l = cc in decimal_injective j l small few digits

not_join : (i j : ℕ) → j < 1000 → numbered_name i j ≡ join_name i → ⊥
not_join i j small e =
    let digits : decimal j ≡ codes "join" = cc in
    let few : length (decimal j) ≤ 3 = length-decimal-le 3 j (omega arith) (omega arith) (omega arith) in
    let four : length (decimal j) ≡ 4 = ap length digits in
    absurd (omega arith)

-- NAMES OF FRAMES

-- a name of frame i
abbrev pub IsOf : ℕ → List ℕ → Type 0
IsOf i name = (rest : List ℕ) × (name ≡ (48 + i) ∷ rest)

pub own_of : (i j count : ℕ) → AllByRecursion (IsOf i) (own_names i j count)
own_of i j zero = tt
own_of i j (suc count) = ((46 ∷ decimal j, refl), own_of i (suc j) count)

-- a name of a frame after i
abbrev pub IsAfter : ℕ → List ℕ → Type 0
IsAfter i name = (k : ℕ) × (i < k) × IsOf k name

pub frames_apart : (i : ℕ) (a b : List ℕ) → IsOf i a → IsAfter i b → bytes_eq b a ≡ false
frames_apart i a b of after = apart b a (λ e. let same : after.0 ≡ i = same_frame after.0 i after.2.0 of.0 (sym after.2.1 ∙ e ∙ of.1) in let less : i < after.0 = after.1 in absurd (omega arith))

each_apart : (i : ℕ) (a : List ℕ) (names : List (List ℕ)) → IsOf i a → AllByRecursion (IsAfter i) names → AllByRecursion (λ b. bytes_eq b a ≡ false) names
each_apart i a [] of after = tt
each_apart i a (b ∷ names) of after = (frames_apart i a b of after.0, each_apart i a names of after.1)

between : (i : ℕ) (own names : List (List ℕ)) → AllByRecursion (IsOf i) own → AllByRecursion (IsAfter i) names → AllByRecursion (λ a. AllByRecursion (λ b. bytes_eq b a ≡ false) names) own
between i [] names of after = tt
between i (a ∷ own) names of after = (each_apart i a names of.0 after, between i own names of.1 after)

-- the names of a frame, and those of later ones
pub frame_names : (i : ℕ) (own names : List (List ℕ)) → AllByRecursion (IsOf i) own → NoPair bytes_eq own → AllByRecursion (IsAfter i) names → NoPair bytes_eq names → NoPair bytes_eq (own ++ names)
frame_names i own names of none after others = no_pair_on bytes_eq own names none others (between i own names of after)

pub after_all : (i k : ℕ) (names : List (List ℕ)) → i < k → AllByRecursion (IsOf k) names → AllByRecursion (IsAfter i) names
after_all i k [] less of = tt
after_all i k (name ∷ names) less of = ((k, less, of.0), after_all i k names less of.1)

-- RESOURCES

own_later : (i j k count : ℕ) → j < k → k + count ≤ 2 ^ 64 → AllByRecursion (λ b. bytes_eq b (numbered_name i j) ≡ false) (own_names i k count)
own_later i j k zero less few = tt
own_later i j k (suc count) less few = (
  apart (numbered_name i k) (numbered_name i j) (λ e. let same : k ≡ j = same_resource i k i j (omega arith) (omega arith) e in absurd (omega arith)),
  own_later i j (suc k) count (omega arith) (omega arith),
)

pub own_distinct : (i j count : ℕ) → j + count ≤ 2 ^ 64 → NoPair bytes_eq (own_names i j count)
own_distinct i j zero few = tt
own_distinct i j (suc count) few = (own_later i j (suc j) count (omega arith) (omega arith), own_distinct i (suc j) count (omega arith))

-- the join pass is named as no other
pub join_apart : (i j count : ℕ) → j + count ≤ 1000 → AllByRecursion (λ b. bytes_eq b (join_name i) ≡ false) (own_names i j count)
join_apart i j zero few = tt
join_apart i j (suc count) few = (apart (numbered_name i j) (join_name i) (not_join i j (omega arith)), join_apart i (suc j) count (omega arith))

all_after : (i k : ℕ) (counts : List ℕ) → i < k → AllByRecursion (IsAfter i) (all_names k counts)
all_after i k [] less = tt
all_after i k (count ∷ counts) less = all_append (IsAfter i) (own_names k 0 count) (all_names (suc k) counts) (after_all i k (own_names k 0 count) less (own_of k 0 count)) (all_after i (suc k) counts (omega arith))

pub all_distinct : (i : ℕ) (counts : List ℕ) → AllByRecursion (λ count. count ≤ 256) counts → NoPair bytes_eq (all_names i counts)
all_distinct i [] few = tt
all_distinct i (count ∷ counts) few = frame_names i (own_names i 0 count) (all_names (suc i) counts) (own_of i 0 count) (own_distinct i 0 count (omega (arith, few.0))) (all_after i (suc i) counts (omega arith)) (all_distinct (suc i) counts few.1)
