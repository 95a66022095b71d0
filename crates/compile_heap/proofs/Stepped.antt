-- One resource more is placed.
use Rattle.std.proofs.Common.{◌≡◌, ◌≢◌, ◌==◌, ◌&&◌, ◌%◌, ◌≤◌, ℕ, ◌<◌, List, ◌∷◌, length, get_or, set, Bool, true, false, not, sym, ap, subst, ◌∙◌, ⊎_elim}
use Rattle.std.specs.List.{Contains}
use Rattle.std.proofs.lemmas.List.{get_or-set_same, get_or-set_other}
use Rattle.std.proofs.lemmas.Bool.{cases_Bool, cases_lt}
use Rattle.std.specs.List.Sorted.{IsPermutation}
use Rattle.std.proofs.lemmas.Bool.Decides.{eqb_tells}
use Rattle.compile_heap.specs.Placing.{number_at, may_alias, overlap, collides, goes_first, granule, IsFree, IsLow}
use Rattle.compile_heap.specs.Internal.Choosing.{IsNext}
use Rattle.compile_heap.specs.Internal.Filling.{IsFront}
use Rattle.compile_heap.specs.Internal.Moving.{IsClear, IsLowest}
use Rattle.compile_heap.proofs.Grown.{new_in, old_in, all_in}
use Rattle.compile_heap.proofs.Order.{not_both}

-- the offset of another does not matter to a resource that does not meet it
other_collides : (sizes : List ℕ) (ordered : ℕ → ℕ → Bool) (offsets : List ℕ) (b o i place j : ℕ) → j ≢ b → collides sizes ordered (set offsets b o) i place j ≡ collides sizes ordered offsets i place j
other_collides sizes ordered offsets b o i place j other = ap (λ x. not (may_alias ordered i j) && overlap place (number_at sizes i) x (number_at sizes j)) (get_or-set_other offsets b j o 0 other)

true_false : true ≡ false → ⊥
true_false e = cc

module _ (sizes : List ℕ) (ordered : ℕ → ℕ → Bool) (offsets placed grown : List ℕ) (is_placed : List Bool) (b o : ℕ)
    (P : IsFront sizes ordered offsets placed is_placed) (N : IsNext sizes is_placed b) (L : IsLowest sizes ordered offsets placed b o)
    (G : IsPermutation (b ∷ placed) grown) (size : length offsets ≡ length sizes) (size-2 : length is_placed ≡ length sizes) where
  was_placed : (j : ℕ) → j ≢ b → get_or (set is_placed b true) j false ≡ true → get_or is_placed j false ≡ true
  was_placed j other e = sym (get_or-set_other is_placed b j true false other) ∙ e

  not_b : (j : ℕ) → get_or is_placed j false ≡ true → j ≢ b
  not_b j e = λ f. true_false (sym e ∙ (ap (λ x. get_or is_placed x false) f ∙ N.left))

  -- what goes first of b is placed
  first_placed : (j : ℕ) → j < length sizes → goes_first sizes j b ≡ true → get_or is_placed j false ≡ true
  first_placed j lt e = ⊎_elim (λ d. d) (λ d. absurd (not_both sizes b j (N.first j lt d (λ f. not_both sizes b b (subst (λ x. goes_first sizes x b ≡ true) f e) (subst (λ x. goes_first sizes x b ≡ true) f e))) e)) (cases_Bool (get_or is_placed j false))

  free_at : (p : ℕ) → IsClear sizes ordered offsets placed (length placed) b p → IsFree sizes ordered (set offsets b o) b p
  free_at p clear = λ j lt e.
      let d = first_placed j lt e in
      let m = P.members j lt d in
      other_collides sizes ordered offsets b o b p j (not_b j d) ∙ subst (λ x. collides sizes ordered offsets b p x ≡ false) m.2 (clear m.0 j m.1)

  clear_at : (p : ℕ) → IsFree sizes ordered (set offsets b o) b p → IsClear sizes ordered offsets placed (length placed) b p
  clear_at p free = λ k d lt.
      let j = get_or placed k d in
      let both = P.each k d lt in
      sym (other_collides sizes ordered offsets b o b p j (not_b j both.1)) ∙ free j both.0 (P.before j b both.0 N.within both.1 N.left)

  new_low : IsLow sizes ordered (set offsets b o) b
  new_low =
      let same : get_or (set offsets b o) b 0 ≡ o = get_or-set_same offsets b o 0 (subst (λ n. b < n) (sym size) N.within) in
      record {
        aligned = ap (λ x. x % granule) same ∙ L.aligned;
        free = subst (λ p. IsFree sizes ordered (set offsets b o) b p) (sym same) (free_at o L.clear);
        least = λ p aligned free. ⊎_elim (λ lt. absurd (L.taken p lt aligned (clear_at p free))) (λ le. subst (λ x. x ≤ p) (sym same) le) (cases_lt p o);
      }

  -- b does not go first of a placed one
  not_first : (i j : ℕ) → i < length sizes → get_or is_placed i false ≡ true → goes_first sizes j i ≡ true → j ≢ b
  not_first i j lt d e = λ f. not_both sizes i b (P.before i b lt N.within d N.left) (subst (λ x. goes_first sizes x i ≡ true) f e)

  old_low : (i : ℕ) → i < length sizes → get_or is_placed i false ≡ true → IsLow sizes ordered (set offsets b o) i
  old_low i lt d =
      let Q = P.low i lt d in
      let same : get_or (set offsets b o) i 0 ≡ get_or offsets i 0 = get_or-set_other offsets b i o 0 (not_b i d) in
      record {
        aligned = ap (λ x. x % granule) same ∙ Q.aligned;
        free = subst (λ p. IsFree sizes ordered (set offsets b o) i p) (sym same) (λ j lt-j e. other_collides sizes ordered offsets b o i (get_or offsets i 0) j (not_first i j lt d e) ∙ Q.free j lt-j e);
        least = λ p aligned free. subst (λ x. x ≤ p) (sym same) (Q.least p aligned (λ j lt-j e. sym (other_collides sizes ordered offsets b o i p j (not_first i j lt d e)) ∙ free j lt-j e));
      }

  pub front_more : IsFront sizes ordered (set offsets b o) grown (set is_placed b true)
  front_more =
      let now : get_or (set is_placed b true) b false ≡ true = get_or-set_same is_placed b true false (subst (λ n. b < n) (sym size-2) N.within) in
      record {
        members = λ j lt d. ⊎_elim
            (λ (h : ((j == b) ≡ true) × (j ≡ b)). subst (λ x. Contains grown x) (sym h.1) (new_in placed grown b G))
            (λ (h : ((j == b) ≡ false) × (j ≢ b)). old_in placed grown b j G (P.members j lt (was_placed j h.1 d)))
            (eqb_tells j b);
        each = all_in (λ j. (j < length sizes) × (get_or (set is_placed b true) j false ≡ true)) placed grown b G (N.within, now) (λ k d lt. let both = P.each k d lt in (both.0, get_or-set_other is_placed b (get_or placed k d) true false (not_b (get_or placed k d) both.1) ∙ both.1));
        before = λ j i lt-j lt-i d e.
            let other : i ≢ b = λ f. true_false (sym now ∙ (ap (λ x. get_or (set is_placed b true) x false) (sym f) ∙ e)) in
            let e-2 : get_or is_placed i false ≡ false = sym (get_or-set_other is_placed b i true false other) ∙ e in
            ⊎_elim (λ (h : ((j == b) ≡ true) × (j ≡ b)). subst (λ x. goes_first sizes x i ≡ true) (sym h.1) (N.first i lt-i e-2 other)) (λ (h : ((j == b) ≡ false) × (j ≢ b)). P.before j i lt-j lt-i (was_placed j h.1 d) e-2) (eqb_tells j b);
        low = λ j lt d. ⊎_elim (λ (h : ((j == b) ≡ true) × (j ≡ b)). subst (λ x. IsLow sizes ordered (set offsets b o) x) (sym h.1) new_low) (λ (h : ((j == b) ≡ false) × (j ≢ b)). old_low j lt (was_placed j h.1 d)) (eqb_tells j b);
      }
