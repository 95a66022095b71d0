-- A name that stands once is found where it stands.
use Rattle.std.proofs.Common.{◌≡◌, ℕ, zero, suc, ◌+◌, ◌<◌, List, [], ◌∷◌, length, take, get_or, Bool, true, false, Some, None, refl, sym, ap, subst, ◌∙◌, arith}
use Rattle.std.specs.List.{list_any, position}
use Rattle.std.specs.Option.{option_map}
use Rattle.std.specs.Str.{bytes_eq}
use Rattle.std.proofs.lemmas.List.{get_or-take, length-take-le}
use Rattle.std.proofs.lemmas.List.Folds.{list_any_at}
use Rattle.base.proofs.Absence.{first_none, out}
use Rattle.base.proofs.Lists.{same_bytes, turned}
use Rattle.frame.proofs.Exports.{position_here, position_past}
use Rattle.frame.specs.Repeats.{first_repeat, repeats_at}

no_true : true ≡ false → ⊥
no_true e = cc

-- the first location at which a test passes
pub place_at : {X : Type 0} (test : X → Bool) (xs : List X) (q : ℕ) (d : X) → q < length xs → test (get_or xs q d) ≡ true → ((j : ℕ) → j < q → test (get_or xs j d) ≡ false) → position test xs ≡ Some q
place_at test [] q d lt here before = absurd (omega arith)
place_at test (x ∷ xs) zero d lt here before = position_here test x xs here
place_at test (x ∷ xs) (suc q) d lt here before = position_past test x xs (before 0 (omega arith)) ∙ ap (option_map suc) (place_at test xs q d (omega arith) here (λ j less. before (suc j) (omega arith)))

-- of names that stand once, two are different
pub names_apart : (names : List (List ℕ)) → first_repeat names ≡ None → (i j : ℕ) → i < length names → j < i → bytes_eq (get_or names i []) (get_or names j []) ≡ false
names_apart names none i j lt less = by_test (bytes_eq (get_or names i []) (get_or names j [])) refl
  where
    fresh : list_any (bytes_eq (get_or names i [])) (take i names) ≡ false
    fresh = out (list_any (bytes_eq (get_or names i [])) (take i names)) i (let e : 0 + i ≡ i = omega arith in subst (λ k. repeats_at names k (get_or names i []) ≡ None) e (first_none (repeats_at names) 0 names none i [] lt))

    by_test : (b : Bool) → bytes_eq (get_or names i []) (get_or names j []) ≡ b → bytes_eq (get_or names i []) (get_or names j []) ≡ false
    by_test false e = e
    by_test true e = absurd (no_true (sym (list_any_at (bytes_eq (get_or names i [])) (take i names) j [] (subst (λ n. j < n) (sym (length-take-le i names (omega arith))) less) (ap (bytes_eq (get_or names i [])) (get_or-take i names j [] less) ∙ e)) ∙ fresh))

-- names that stand once are found by their own places, whichever way they are compared
pub found_by : (names : List (List ℕ)) → first_repeat names ≡ None → (q : ℕ) → q < length names → position (bytes_eq (get_or names q [])) names ≡ Some q
found_by names none q lt = place_at (bytes_eq (get_or names q [])) names q [] lt (same_bytes (get_or names q [])) (λ j less. names_apart names none q j lt less)

pub found_as : (names : List (List ℕ)) → first_repeat names ≡ None → (q : ℕ) → q < length names → position (λ name. bytes_eq name (get_or names q [])) names ≡ Some q
found_as names none q lt = place_at (λ name. bytes_eq name (get_or names q [])) names q [] lt (same_bytes (get_or names q [])) (λ j less. turned (get_or names q []) (get_or names j []) (names_apart names none q j lt less))
