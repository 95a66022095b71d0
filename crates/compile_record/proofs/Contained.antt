-- What lists contain.
use Rattle.std.proofs.Common.{◌≡◌, ℕ, zero, suc, ◌<◌, Bool, true, false, List, [], ◌∷◌, length, map, get_or, if◌then◌else◌, refl, sym, ap, ◌∙◌, subst, arith}
use Rattle.std.specs.List.{Contains, filter, flat_map}
use Rattle.std.specs.Prelude.{slice_get, slice_index_or, Some}
use Rattle.std.proofs.lemmas.List.{get_or_default}
use Rattle.std.proofs.lemmas.List.Elements.{All-filter, All-contains_itself, Contains-append_left, Contains-append_right, filter_passes}
use Rattle.std.proofs.lemmas.Option.{slice_get_within, slice_get-get_or, get_or_from_slice_get}

module _ {X : Type 0} where
  pub contains_entry : (xs : List X) (i : ℕ) (x : X) → slice_get xs i ≡ Some x → Contains xs x
  contains_entry xs i x e = (i, slice_get_within xs i x e, get_or_from_slice_get xs i x x e)

  pub entry_contained : (xs : List X) (x : X) (h : Contains xs x) → slice_get xs h.0 ≡ Some x
  entry_contained xs x h = slice_get-get_or xs h.0 x h.1 ∙ ap (λ z. Some z) h.2

  pub contains_head : (x : X) (xs : List X) → Contains (x ∷ xs) x
  contains_head x xs = (0, omega arith, refl)

  pub contains_tail : (y : X) (xs : List X) (x : X) → Contains xs x → Contains (y ∷ xs) x
  contains_tail y xs x h = let l = h.1 in (suc h.0, omega (arith, l), h.2)

  pub contains_some : (xs : List X) (x : X) → Contains xs x → 0 < length xs
  contains_some xs x h = let l = h.1 in omega (arith, l)

  pub contains_filter : (p : X → Bool) (xs : List X) (x : X) → Contains xs x → p x ≡ true → Contains (filter p xs) x
  contains_filter p xs x h passes = go xs h.0 h.1 h.2
    where
      more : (b : Bool) (y : X) (ys : List X) → Contains ys x → Contains (if b then y ∷ ys else ys) x
      more true y ys c = contains_tail y ys x c
      more false y ys c = c

      go : (ys : List X) (k : ℕ) → k < length ys → slice_index_or ys k x ≡ x → Contains (filter p ys) x
      go [] k lt e = absurd (omega (arith, lt))
      go (y ∷ ys) zero lt e = subst (λ b. Contains (if b then y ∷ filter p ys else filter p ys) x) (sym (subst (λ z. p z ≡ true) (sym e) passes)) (0, omega arith, e)
      go (y ∷ ys) (suc k) lt e = more (p y) y (filter p ys) (go ys k (omega (arith, lt)) e)

  -- what is kept is of the list, and passes
  pub kept : (p : X → Bool) (xs : List X) (k : ℕ) (d : X) → k < length (filter p xs) → Contains xs (get_or (filter p xs) k d) × (p (get_or (filter p xs) k d) ≡ true)
  kept p xs k d lt = (All-filter p (Contains xs) xs (All-contains_itself xs) k d lt, filter_passes p xs k d lt)

  -- with another default
  pub at_entry : (xs : List X) (x d : X) (h : Contains xs x) → get_or xs h.0 d ≡ x
  at_entry xs x d h = get_or_default xs h.0 d x h.1 ∙ h.2

module _ {X Y : Type 0} where
  pub contains_map : (f : X → Y) (xs : List X) (x : X) → Contains xs x → Contains (map f xs) (f x)
  contains_map f xs x h = go xs h.0 h.1 h.2
    where
      go : (ys : List X) (k : ℕ) → k < length ys → slice_index_or ys k x ≡ x → Contains (map f ys) (f x)
      go [] k lt e = absurd (omega (arith, lt))
      go (y ∷ ys) zero lt e = (0, omega arith, ap f e)
      go (y ∷ ys) (suc k) lt e = contains_tail (f y) (map f ys) (f x) (go ys k (omega (arith, lt)) e)

  pub contains_part : (f : X → List Y) (xs : List X) (x : X) (y : Y) → Contains xs x → Contains (f x) y → Contains (flat_map f xs) y
  contains_part f xs x y h c = go xs h.0 h.1 h.2
    where
      go : (ys : List X) (k : ℕ) → k < length ys → slice_index_or ys k x ≡ x → Contains (flat_map f ys) y
      go [] k lt e = absurd (omega (arith, lt))
      go (z ∷ ys) zero lt e = Contains-append_left (f z) (flat_map f ys) y (subst (λ w. Contains (f w) y) (sym e) c)
      go (z ∷ ys) (suc k) lt e = Contains-append_right (f z) (flat_map f ys) y (go ys k (omega (arith, lt)) e)
