-- Lists of which no two entries pass a test.
use Rattle.std.proofs.Common.{◌≡◌, ℕ, zero, suc, ◌+◌, ◌<◌, ◌++◌, List, [], ◌∷◌, length, map, take, get_or, Bool, true, false, Option, Some, None, if◌then◌else◌, refl, sym, ap, subst, ◌∙◌, arith}
use Rattle.std.specs.List.{AllByRecursion, list_any}
use Rattle.std.proofs.lemmas.List.{get_or-take, length-take-le}
use Rattle.std.proofs.lemmas.List.Folds.{list_any_at, list_any_none}
use Rattle.base.proofs.Absence.{first_none, out, stays_out}
use Rattle.base.proofs.Lists.{all_append}
use Rattle.base.specs.Walks.{first_in}
use Rattle.frame.proofs.Sufficient.{none_in}

-- each entry fails the test against those before it
abbrev pub NoPair : {X : Type 0} → (X → X → Bool) → List X → Type 0
NoPair test [] = Unit {0}
NoPair test (x ∷ xs) = AllByRecursion (λ y. test y x ≡ false) xs × NoPair test xs

abbrev pub pair_at : {X : Type 0} → (X → X → Bool) → List X → ℕ → X → Option ℕ
pair_at test xs i x = if list_any (test x) (take i xs) then Some i else None

later_at : {X : Type 0} (test : X → X → Bool) (x : X) (xs : List X) → AllByRecursion (λ y. test y x ≡ false) xs → (i : ℕ) (d : X) → i < length xs → test (get_or xs i d) x ≡ false
later_at test x [] later i d lt = absurd (omega arith)
later_at test x (y ∷ xs) later zero d lt = later.0
later_at test x (y ∷ xs) later (suc i) d lt = later_at test x xs later.1 i d (omega arith)

apart_at : {X : Type 0} (test : X → X → Bool) (xs : List X) → NoPair test xs → (i j : ℕ) (d e : X) → i < length xs → j < i → test (get_or xs i d) (get_or xs j e) ≡ false
apart_at test [] none i j d e lt less = absurd (omega arith)
apart_at test (x ∷ xs) none zero j d e lt less = absurd (omega arith)
apart_at test (x ∷ xs) none (suc i) zero d e lt less = later_at test x xs none.0 i d (omega arith)
apart_at test (x ∷ xs) none (suc i) (suc j) d e lt less = apart_at test xs none.1 i j d e (omega arith) (omega arith)

-- no entry passes it against one before it
pub none_at : {X : Type 0} (test : X → X → Bool) (xs : List X) → NoPair test xs → (i : ℕ) (d : X) → i < length xs → pair_at test xs i (get_or xs i d) ≡ None
none_at test xs none i d lt = stays_out (list_any (test (get_or xs i d)) (take i xs)) i (list_any_none (test (get_or xs i d)) (take i xs) (λ j e less.
    let short : length (take i xs) ≡ i = length-take-le i xs (omega arith) in
    let inside : j < i = omega arith in
    subst (λ y. test (get_or xs i d) y ≡ false) (sym (get_or-take i xs j e inside)) (apart_at test xs none i j d e lt inside)))

pub no_first : {X : Type 0} (test : X → X → Bool) (xs : List X) → NoPair test xs → first_in (pair_at test xs) 0 xs ≡ None
no_first test xs none = none_in (pair_at test xs) xs (λ i d lt. none_at test xs none i d lt)

no_true : true ≡ false → ⊥
no_true e = cc

apart_from : {X : Type 0} (test : X → X → Bool) (xs : List X) → first_in (pair_at test xs) 0 xs ≡ None → (i j : ℕ) (d e : X) → i < length xs → j < i → test (get_or xs i d) (get_or xs j e) ≡ false
apart_from test xs none i j d e lt less = by_test (test (get_or xs i d) (get_or xs j e)) refl
  where
    fresh : list_any (test (get_or xs i d)) (take i xs) ≡ false
    fresh = out (list_any (test (get_or xs i d)) (take i xs)) i (let z : 0 + i ≡ i = omega arith in subst (λ k. pair_at test xs k (get_or xs i d) ≡ None) z (first_none (pair_at test xs) 0 xs none i d lt))

    by_test : (b : Bool) → test (get_or xs i d) (get_or xs j e) ≡ b → test (get_or xs i d) (get_or xs j e) ≡ false
    by_test false f = f
    by_test true f = absurd (no_true (sym (list_any_at (test (get_or xs i d)) (take i xs) j e (subst (λ n. j < n) (sym (length-take-le i xs (omega arith))) less) (ap (test (get_or xs i d)) (get_or-take i xs j e less) ∙ f)) ∙ fresh))

all_after : {X : Type 0} (test : X → X → Bool) (x : X) (xs : List X) → ((i : ℕ) (d : X) → i < length xs → test (get_or xs i d) x ≡ false) → AllByRecursion (λ y. test y x ≡ false) xs
all_after test x [] each = tt
all_after test x (y ∷ xs) each = (each 0 y (omega arith), all_after test x xs (λ i d lt. each (suc i) d (omega arith)))

from_apart : {X : Type 0} (test : X → X → Bool) (xs : List X) → ((i j : ℕ) (d e : X) → i < length xs → j < i → test (get_or xs i d) (get_or xs j e) ≡ false) → NoPair test xs
from_apart test [] each = tt
from_apart test (x ∷ xs) each = (all_after test x xs (λ i d lt. each (suc i) 0 d x (omega arith) (omega arith)), from_apart test xs (λ i j d e lt less. each (suc i) (suc j) d e (omega arith) (omega arith)))

pub from_none : {X : Type 0} (test : X → X → Bool) (xs : List X) → first_in (pair_at test xs) 0 xs ≡ None → NoPair test xs
from_none test xs none = from_apart test xs (apart_from test xs none)

-- two lists, of which no entry of the second passes it against one of the first
pub no_pair_on : {X : Type 0} (test : X → X → Bool) (xs ys : List X) → NoPair test xs → NoPair test ys → AllByRecursion (λ x. AllByRecursion (λ y. test y x ≡ false) ys) xs → NoPair test (xs ++ ys)
no_pair_on test [] ys a b between = b
no_pair_on test (x ∷ xs) ys a b between = (all_append (λ y. test y x ≡ false) xs ys a.0 between.0, no_pair_on test xs ys a.1 b between.1)

later : {X Y : Type 0} (test : X → X → Bool) (other : Y → Y → Bool) (f : X → Y) (P : X → Type 0) → ((x y : X) → P x → P y → test y x ≡ false → other (f y) (f x) ≡ false) → (x : X) (ys : List X) → P x → AllByRecursion P ys → AllByRecursion (λ y. test y x ≡ false) ys → AllByRecursion (λ y. other y (f x) ≡ false) (map f ys)
later test other f P so x [] p all e = tt
later test other f P so x (y ∷ ys) p all e = (so x y p all.0 e.0, later test other f P so x ys p all.1 e.1)

-- the images of a list, where the images of two entries pass only where the entries do
pub no_pair_mapped : {X Y : Type 0} (test : X → X → Bool) (other : Y → Y → Bool) (f : X → Y) (P : X → Type 0) → ((x y : X) → P x → P y → test y x ≡ false → other (f y) (f x) ≡ false) → (xs : List X) → AllByRecursion P xs → NoPair test xs → NoPair other (map f xs)
no_pair_mapped test other f P so [] all none = tt
no_pair_mapped test other f P so (x ∷ xs) all none = (later test other f P so x xs all.0 all.1 none.0, no_pair_mapped test other f P so xs all.1 none.1)
