-- Entries of lists that are joined.
use Rattle.std.proofs.Common.{◌≡◌, ◌⊎◌, ⊎_elim, inl, inr, ℕ, zero, suc, ◌-◌, ◌<◌, ◌≤◌, List, [], ◌∷◌, ◌++◌, length, slice_get, Some, refl, ap, ◌∙◌, arith}
use Rattle.std.specs.List.{Contains}
use Rattle.std.proofs.lemmas.Option.{get_or_from_slice_get, slice_get_within}

pub entry_cases : {X : Type 0} (xs ys : List X) (i : ℕ) (x : X) → slice_get (xs ++ ys) i ≡ Some x → (slice_get xs i ≡ Some x) ⊎ ((length xs ≤ i) × (slice_get ys (i - length xs) ≡ Some x))
entry_cases [] ys i x e = let same : i - 0 ≡ i = omega arith in inr (omega arith, ap (slice_get ys) same ∙ e)
entry_cases (z ∷ xs) ys zero x e = inl e
entry_cases (z ∷ xs) ys (suc i) x e = ⊎_elim
    (λ h. inl h)
    (λ h. let le = h.0 in let same : suc i - suc (length xs) ≡ i - length xs = omega arith in inr (omega (arith, le), ap (slice_get ys) same ∙ h.1))
    (entry_cases xs ys i x e)

pub entry_left : {X : Type 0} (xs ys : List X) (i : ℕ) → i < length xs → slice_get (xs ++ ys) i ≡ slice_get xs i
entry_left [] ys i lt = absurd (omega (arith, lt))
entry_left (x ∷ xs) ys zero lt = refl
entry_left (x ∷ xs) ys (suc i) lt = entry_left xs ys i (omega (arith, lt))

pub contains_entry : {X : Type 0} (xs : List X) (k : ℕ) (x : X) → slice_get xs k ≡ Some x → Contains xs x
contains_entry xs k x e = (k, slice_get_within xs k x e, get_or_from_slice_get xs k x x e)
