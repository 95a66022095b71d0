-- Lists by their entries.
use Rattle.std.proofs.Common.{◌≡◌, ◌⊎◌, inl, inr, ⊎_elim, ℕ, zero, suc, ◌+◌, ◌-◌, ◌<◌, ◌≤◌, List, [], ◌∷◌, ◌++◌, length, map, get_or, Some, refl, sym, ap, ◌∙◌, subst, arith}
use Rattle.std.specs.List.{flat_map}
use Rattle.std.specs.Prelude.{slice_get}
use Rattle.std.proofs.lemmas.Bool.{cases_lt}
use Rattle.std.proofs.lemmas.List.{length-append, get_or_append_left, get_or-append_right}
use Rattle.std.proofs.lemmas.Option.{slice_get-get_or, slice_get_within, get_or_from_slice_get}

module _ {X : Type 0} where
  -- an entry of two lists is one of the first, or one of the second
  pub entry_append : (xs ys : List X) (i : ℕ) (x : X) → slice_get (xs ++ ys) i ≡ Some x → ((i < length xs) × (slice_get xs i ≡ Some x)) ⊎ ((length xs ≤ i) × (slice_get ys (i - length xs) ≡ Some x))
  entry_append xs ys i x e = ⊎_elim (λ lt. inl (lt, low lt)) (λ ge. inr (ge, high ge)) (cases_lt i (length xs))
    where
      within : i < length (xs ++ ys)
      within = slice_get_within (xs ++ ys) i x e

      at : get_or (xs ++ ys) i x ≡ x
      at = get_or_from_slice_get (xs ++ ys) i x x e

      low : i < length xs → slice_get xs i ≡ Some x
      low lt = slice_get-get_or xs i x lt ∙ ap (λ z. Some z) (sym (get_or_append_left xs ys x i lt) ∙ at)

      high : length xs ≤ i → slice_get ys (i - length xs) ≡ Some x
      high ge = slice_get-get_or ys (i - length xs) x (omega (arith, within, length-append xs ys, ge)) ∙ ap (λ z. Some z) (sym (get_or-append_right xs ys (length xs) i x refl ge) ∙ at)

  pub entry_left : (xs ys : List X) (i : ℕ) (x : X) → slice_get xs i ≡ Some x → slice_get (xs ++ ys) i ≡ Some x
  entry_left [] ys i x e = absurd cc
  entry_left (y ∷ xs) ys zero x e = e
  entry_left (y ∷ xs) ys (suc i) x e = entry_left xs ys i x e

  pub entry_right : (xs ys : List X) (i j : ℕ) (x : X) → slice_get ys i ≡ Some x → length xs + i ≡ j → slice_get (xs ++ ys) j ≡ Some x
  entry_right [] ys i j x e is = let number : i ≡ j = omega (arith, is) in ap (slice_get ys) (sym number) ∙ e
  entry_right (y ∷ xs) ys i zero x e is = absurd (omega (arith, is))
  entry_right (y ∷ xs) ys i (suc j) x e is = entry_right xs ys i j x e (omega (arith, is))

  pub one_entry : (x : X) (i : ℕ) (y : X) → slice_get (x ∷ []) i ≡ Some y → (i ≡ 0) × (x ≡ y)
  one_entry x zero y e = (refl, cc)
  one_entry x (suc i) y e = absurd cc

-- an entry of mapped ones
pub entry_map : {X Y : Type 0} (f : X → Y) (xs : List X) (i : ℕ) (y : Y) → slice_get (map f xs) i ≡ Some y → (x : X) × (slice_get xs i ≡ Some x) × (f x ≡ y)
entry_map f [] i y e = absurd cc
entry_map f (x ∷ xs) zero y e = (x, refl, cc)
entry_map f (x ∷ xs) (suc i) y e = entry_map f xs i y e

-- LISTS THAT ARE JOINED

module _ {X Y : Type 0} (f : X → List Y) where
  -- where that of number n begins
  abbrev pub joint : List X → ℕ → ℕ
  joint [] n = 0
  joint (x ∷ xs) zero = 0
  joint (x ∷ xs) (suc n) = length (f x) + joint xs n

  -- entry i is entry k of the list of number n
  pub record IsOf (xs : List X) (i : ℕ) (y : Y) : Type 0 where
    pub number : ℕ
    pub from : X
    pub entry : ℕ
    pub there : slice_get xs number ≡ Some from
    pub is : slice_get (f from) entry ≡ Some y
    pub place : i ≡ joint xs number + entry

  pub entry_of_joined : (xs : List X) (i : ℕ) (y : Y) → slice_get (flat_map f xs) i ≡ Some y → IsOf xs i y
  entry_of_joined [] i y e = absurd cc
  entry_of_joined (x ∷ xs) i y e = ⊎_elim here (λ h. later h (entry_of_joined xs (i - length (f x)) y h.1)) (entry_append (f x) (flat_map f xs) i y e)
    where
      here : (i < length (f x)) × (slice_get (f x) i ≡ Some y) → IsOf (x ∷ xs) i y
      here h = record { number = 0; from = x; entry = i; there = refl; is = h.1; place = omega arith }

      later : (length (f x) ≤ i) × (slice_get (flat_map f xs) (i - length (f x)) ≡ Some y) → IsOf xs (i - length (f x)) y → IsOf (x ∷ xs) i y
      later h L = let le = h.0 in let place = L.place in record { number = suc L.number; from = L.from; entry = L.entry; there = L.there; is = L.is; place = omega (arith, le, place) }

  pub joined_entry : (xs : List X) (n k j : ℕ) (x : X) (y : Y) → slice_get xs n ≡ Some x → slice_get (f x) k ≡ Some y → joint xs n + k ≡ j → slice_get (flat_map f xs) j ≡ Some y
  joined_entry [] n k j x y at is e = absurd cc
  joined_entry (z ∷ xs) zero k j x y at is e =
      let same : z ≡ x = cc in
      let number : k ≡ j = omega (arith, e) in
      entry_left (f z) (flat_map f xs) j y (ap (slice_get (f z)) (sym number) ∙ subst (λ w. slice_get (f w) k ≡ Some y) (sym same) is)
  joined_entry (z ∷ xs) (suc n) k j x y at is e =
      entry_right (f z) (flat_map f xs) (joint xs n + k) j y (joined_entry xs n k (joint xs n + k) x y at is refl) (omega (arith, e))

pub entry_there : {X : Type 0} (xs : List X) (i : ℕ) → i < length xs → (x : X) × (slice_get xs i ≡ Some x)
entry_there [] i lt = absurd (omega (arith, lt))
entry_there (x ∷ xs) zero lt = (x, refl)
entry_there (x ∷ xs) (suc i) lt = entry_there xs i (omega (arith, lt))
