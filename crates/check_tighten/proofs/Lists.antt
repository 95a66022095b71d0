-- Lists with one entry changed.
use Rattle.std.proofs.Common.{◌≡◌, ◌∙◌, ℕ, zero, suc, ◌<◌, ◌≤◌, List, [], ◌∷◌, length, slice_get, Some, slice_set, slice_index_or, refl, sym, ap, arith}
use Rattle.check_tighten.specs.Edits.{changed_at}

set_changed : {X : Type 0} (change : X → X) (xs : List X) (k : ℕ) (d : X) → k < length xs → slice_set xs k (change (slice_index_or xs k d)) ≡ changed_at change k xs
set_changed change [] k d lt = absurd (omega (arith, lt))
set_changed change (x ∷ xs) zero d lt = refl
set_changed change (x ∷ xs) (suc k) d lt = ap (λ l. x ∷ l) (set_changed change xs k d (omega (arith, lt)))

-- what is set to the changed entry
pub written : {X : Type 0} (change : X → X) (items xs : List X) (k : ℕ) (now : X) → items ≡ xs → now ≡ slice_index_or items k now → k < length xs → slice_set items k (change now) ≡ changed_at change k xs
written change items xs k now same is lt =
    ap (λ x. slice_set items k (change x)) is
    ∙ (ap (λ l. slice_set l k (change (slice_index_or l k now))) same
    ∙ set_changed change xs k now lt)

pub set_twice : {X : Type 0} (xs : List X) (k : ℕ) (x y : X) → slice_set (slice_set xs k x) k y ≡ slice_set xs k y
set_twice [] k x y = refl
set_twice (z ∷ xs) zero x y = refl
set_twice (z ∷ xs) (suc k) x y = ap (λ l. z ∷ l) (set_twice xs k x y)

-- past the end nothing is changed
pub changed_past : {X : Type 0} (change : X → X) (k : ℕ) (xs : List X) → length xs ≤ k → changed_at change k xs ≡ xs
changed_past change k [] le = refl
changed_past change zero (x ∷ xs) le = absurd (omega (arith, le))
changed_past change (suc k) (x ∷ xs) le = ap (λ l. x ∷ l) (changed_past change k xs (omega (arith, le)))

-- what is changed back is as it was
pub changed_back : {X : Type 0} (change back : X → X) (k : ℕ) (xs : List X) (x : X) → slice_get xs k ≡ Some x → back (change x) ≡ x → changed_at back k (changed_at change k xs) ≡ xs
changed_back change back k [] x at same = refl
changed_back change back zero (y ∷ xs) x at same = let e : x ≡ y = cc in ap (λ z. z ∷ xs) (ap (λ z. back (change z)) (sym e) ∙ (same ∙ e))
changed_back change back (suc k) (y ∷ xs) x at same = ap (λ l. y ∷ l) (changed_back change back k xs x at same)
