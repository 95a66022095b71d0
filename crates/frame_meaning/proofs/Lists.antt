-- A list that is made entry by entry.
use Rattle.std.proofs.Common.{subst, suc, map, take, drop, drop-cons, ◌≡◌, ℕ, ◌+◌, ◌<◌, ◌≤◌, ◌++◌, ◌⊎◌, inl, inr, List, [], ◌∷◌, length, get_or, slice_get, None, Some, IfSome, sym, ap, ap₂, ◌∙◌, arith}
use Rattle.std.proofs.lemmas.List.{map_more}
use Rattle.std.proofs.lemmas.Option.{slice_get_cases}

pub entry_on : {A B : Type 0} (f : A → B) (xs : List A) (ys more : List B) (i : ℕ) (y : B) → i < length xs → ys ≡ map f (take i xs) → IfSome (slice_get xs i) (λ x. y ≡ f x) → more ≡ ys ++ y ∷ [] → more ≡ map f (take (i + 1) xs)
entry_on {A} {B} f xs ys more i y lt is says grown = by_case (slice_get_cases xs i).1
  where
    by_case : (((x : A) × (i < length xs) × (slice_get xs i ≡ Some x) × (get_or xs i x ≡ x)) ⊎ ((length xs ≤ i) × (slice_get xs i ≡ None))) → more ≡ map f (take (i + 1) xs)
    by_case (inl (x, less, got, same)) = grown ∙ ap₂ (λ zs z. zs ++ z ∷ []) is (subst (λ o. IfSome o (λ z. y ≡ f z)) got says ∙ ap f (sym same)) ∙ sym (map_more f xs i x lt)
    by_case (inr (le, none)) = absurd (omega arith)

-- the item at which a loop stands
pub item_first : {A : Type 0} (xs : List A) (i : ℕ) (x : A) → i < length xs → get_or xs i x ≡ x → drop i xs ≡ x ∷ drop (i + 1) xs
item_first xs i x lt here = drop-cons xs i x lt ∙ ap₂ (λ y j. y ∷ drop j xs) here (let e : suc i ≡ i + 1 = omega arith in e)
