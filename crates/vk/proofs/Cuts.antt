-- Cutting a list at the first element that passes.
use Rattle.std.proofs.Common.{◌≡◌, ℕ, suc, ◌+◌, ◌<◌, ◌≤◌, Bool, true, false, cond, not, List, [], ◌∷◌, length, take, drop, Option, Some, None, ltb, refl, ap, arith}
use Rattle.std.specs.Prelude.{position, IfSome, IfNone}
use Rattle.std.specs.List.{position_or_len, slice_split, onto_first}
use Rattle.std.proofs.lemmas.List.Splits.{slice_split_first}
use Rattle.std.proofs.lemmas.Bool.{ltb-true, ltb-false}

none_at : {X : Type 0} (p : X → Bool) (x : X) (xs : List X) (b : Bool) → suc (length xs) ≤ cond (not b) (1 + position_or_len p xs) 0 → (length xs ≤ position_or_len p xs → slice_split p xs ≡ xs ∷ [])
    → cond b ([] ∷ slice_split p xs) (onto_first x (slice_split p xs)) ≡ (x ∷ xs) ∷ []
none_at p x xs true h later = absurd (omega arith)
none_at p x xs false h later = ap (onto_first x) (later (omega arith))

none_passes : {X : Type 0} (p : X → Bool) (xs : List X) → length xs ≤ position_or_len p xs → slice_split p xs ≡ xs ∷ []
none_passes p [] h = refl
none_passes p (x ∷ xs) h = none_at p x xs (p x) h (none_passes p xs)

past : (a b : ℕ) (t : Bool) → ltb a b ≡ t → cond t (Some a) None ≡ None → b ≤ a
past a b true e is = absurd cc
past a b false e is = ltb-false a b e

within : (a b i : ℕ) (t : Bool) → ltb a b ≡ t → cond t (Some a) None ≡ Some i → (a < b) × (a ≡ i)
within a b i true e is = (ltb-true a b e, cc)
within a b i false e is = absurd cc

pub uncut : (p : ℕ → Bool) (xs : List ℕ) → position p xs ≡ None → slice_split p xs ≡ xs ∷ []
uncut p xs is = none_passes p xs (past (position_or_len p xs) (length xs) _ refl is)

pub cut_within : (p : ℕ → Bool) (xs : List ℕ) (i : ℕ) → position p xs ≡ Some i → i < length xs
cut_within p xs i is = let w = within (position_or_len p xs) (length xs) i _ refl is in omega (arith, w.0, w.1)

pub cut_first : (p : ℕ → Bool) (xs : List ℕ) (i : ℕ) → position p xs ≡ Some i → slice_split p xs ≡ take i xs ∷ slice_split p (drop (i + 1) xs)
cut_first p xs i is = let w = within (position_or_len p xs) (length xs) i _ refl is in rw (← w.1) (slice_split_first p xs 0 w.0)

pub at_none : (r : Option ℕ) (P : Type 0) → (r ≡ None → P) → IfNone r P
at_none None P h = h refl
at_none (Some i) P h = tt

pub at_some : (r : Option ℕ) (P : ℕ → Type 0) → ((i : ℕ) → r ≡ Some i → P i) → IfSome r P
at_some None P h = tt
at_some (Some i) P h = h i refl
