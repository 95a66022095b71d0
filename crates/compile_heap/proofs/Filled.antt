-- Resources are placed one after another.
use Rattle.std.proofs.Common.{◌≡◌, ◌≢◌, ◌⊎◌, ◌==◌, inl, inr, ℕ, zero, suc, ◌+◌, ◌*◌, ◌<◌, ◌≤◌, ◌^◌, List, [], ◌∷◌, length, get_or, set, replicate, map, max, Bool, true, false, refl, sym, ap, subst, ◌∙◌, arith, ⊎_elim}
use Rattle.std.specs.List.{All, Contains, insert, sum}
use Rattle.std.specs.List.Sorted.{IsPermutation}
use Rattle.std.proofs.Math.Nat.{le-max_left, le-max_right, max-eq_left, max-eq_right, max-le}
use Rattle.std.proofs.lemmas.Bool.Decides.{eqb_tells}
use Rattle.std.proofs.lemmas.List.Elements.{All-set, All-nil}
use Rattle.std.proofs.lemmas.List.Sorted.{IsPermutation-insert, IsNonDecreasingBy-insert, IsNonDecreasingBy-short}
use Rattle.std.proofs.lemmas.List.Sums.{sum_by-cons, sum_by-set}
use Rattle.std.proofs.lemmas.Grind.{get_or_default_zero}
use Rattle.std.proofs.lemmas.List.{get_or-map, get_or-set_same, get_or-set_other, length-map, length-replicate, length-set}
use Rattle.base.specs.Maxima.{max_units, max_size, max_resource_bytes}
use Rattle.compile_heap.specs.Placing.{number_at, IsLeast}
use Rattle.compile_heap.specs.Internal.Choosing.{IsNext, IsOrder}
use Rattle.compile_heap.specs.Internal.Filling.{HasRoom, IsEnd, IsFilling, IsFilledUpTo}
use Rattle.compile_heap.specs.Internal.Moving.{IsLowest}
use Rattle.compile_heap.specs.Internal.Rising.{IsRising, IsIndex}
use Rattle.compile_heap.proofs.Chosen.{up_to_none, up_to_all}
use Rattle.compile_heap.proofs.Grown.{new_in, old_in, all_in}
use Rattle.compile_heap.proofs.Stepped.{front_more}

true_false : true ≡ false → ⊥
true_false e = cc

-- NONE YET

rest_sum : (sizes : List ℕ) → sum (map (λ s. s + 255) sizes) ≡ sum sizes + 255 * length sizes
rest_sum [] = refl
rest_sum (size ∷ sizes) =
    let one = sum_by-cons (λ s. s) (size + 255) (map (λ s. s + 255) sizes) in
    let two = sum_by-cons (λ s. s) size sizes in
    let rest = rest_sum sizes in
    omega (arith, one, two, rest)

none_in : (n k : ℕ) → get_or (replicate n false) k false ≡ false
none_in zero k = refl
none_in (suc n) zero = refl
none_in (suc n) (suc k) = none_in n k

filling_none : (sizes : List ℕ) (ordered : ℕ → ℕ → Bool) (offsets placed : List ℕ) (is_placed : List Bool) → length sizes ≤ max_units → All (λ s. s ≤ max_size) sizes → length offsets ≡ length sizes → length is_placed ≡ length sizes → ((k : ℕ) → get_or offsets k 0 ≡ 0) → ((k : ℕ) → get_or is_placed k false ≡ false) → placed ≡ [] → IsFilling sizes ordered offsets placed is_placed 0
filling_none sizes ordered offsets placed is_placed few each size size-2 zeros none empty = record {
  front = record {
    members = λ j lt d. absurd (true_false (sym d ∙ none j));
    each = subst (λ l. All (λ j. (j < length sizes) × (get_or is_placed j false ≡ true)) l) (sym empty) (All-nil (λ j. (j < length sizes) × (get_or is_placed j false ≡ true)));
    before = λ j i lt-j lt-i d e. absurd (true_false (sym d ∙ none j));
    low = λ j lt d. absurd (true_false (sym d ∙ none j));
  };
  room = record {
    rest = map (λ s. s + 255) sizes;
    count = length-map sizes (λ s. s + 255);
    left = λ i lt d. get_or-map (λ s. s + 255) sizes i 0 0 lt;
    bound = let s = rest_sum sizes in omega (arith, s);
  };
  end = record { within = subst (λ l. All (λ j. number_at offsets j + number_at sizes j ≤ 0) l) (sym empty) (All-nil (λ j. number_at offsets j + number_at sizes j ≤ 0)); reached = inl refl };
  rising = subst (λ l. IsRising offsets l) (sym empty) (IsNonDecreasingBy-short (number_at offsets) [] (omega arith));
  count = size-2;
  fits = record { few = few; count = size; each = each; near = λ k d lt. let z = get_or_default_zero offsets k d lt in let e = zeros k in omega (arith, z, e) };
}

pub filled_none : (sizes : List ℕ) (ordered : ℕ → ℕ → Bool) (order offsets placed : List ℕ) → length sizes ≤ max_units → All (λ s. s ≤ max_size) sizes → length offsets ≡ length sizes → ((k : ℕ) → get_or offsets k 0 ≡ 0) → placed ≡ [] → IsFilledUpTo sizes ordered order 0 offsets placed 0
filled_none sizes ordered order offsets placed few each size zeros empty =
    let none = replicate (length sizes) false in
    (none, up_to_none order none (none_in (length sizes)), filling_none sizes ordered offsets placed none few each size (length-replicate (length sizes) false) zeros (none_in (length sizes)) empty)

-- ONE MORE

module _ (sizes : List ℕ) (ordered : ℕ → ℕ → Bool) (offsets placed : List ℕ) (is_placed : List Bool) (heap b o index : ℕ)
    (P : IsFilling sizes ordered offsets placed is_placed heap) (N : IsNext sizes is_placed b) (L : IsLowest sizes ordered offsets placed b o) (I : IsIndex offsets placed o index) (low : o ≤ heap + 255) (near : o ≤ 2 ^ 31) where
  in_sizes : b < length sizes
  in_sizes = N.within

  not_b : (j : ℕ) → get_or is_placed j false ≡ true → j ≢ b
  not_b j e = λ f. true_false (sym e ∙ (ap (λ x. get_or is_placed x false) f ∙ N.left))

  old_offset : (j : ℕ) → j ≢ b → number_at (set offsets b o) j ≡ number_at offsets j
  old_offset j other = get_or-set_other offsets b j o 0 other

  new_offset : number_at (set offsets b o) b ≡ o
  new_offset = get_or-set_same offsets b o 0 (subst (λ n. b < n) (sym P.fits.count) in_sizes)

  room_more : HasRoom sizes (set is_placed b true) (max heap (o + number_at sizes b))
  room_more =
      let R = P.room in
      let total = sum_by-set (λ s. s) R.rest b 0 0 (subst (λ n. b < n) (sym R.count) in_sizes) in
      let here = R.left b in_sizes N.left in
      let bound = R.bound in
      let high : max heap (o + number_at sizes b) ≤ heap + get_or R.rest b 0 = max-le (omega arith) (omega (arith, here, low)) in
      record {
        rest = set R.rest b 0;
        count = length-set R.rest b 0 ∙ R.count;
        left = λ i lt d. ⊎_elim
            (λ (h : ((i == b) ≡ true) × (i ≡ b)). absurd (true_false (sym (ap (λ x. get_or (set is_placed b true) x false) h.1 ∙ get_or-set_same is_placed b true false (subst (λ n. b < n) (sym P.count) in_sizes)) ∙ d)))
            (λ (h : ((i == b) ≡ false) × (i ≢ b)). get_or-set_other R.rest b i 0 0 h.1 ∙ R.left i lt (sym (get_or-set_other is_placed b i true false h.1) ∙ d))
            (eqb_tells i b);
        bound = omega (arith, total, bound, high);
      }

  grown : IsPermutation (b ∷ placed) (insert placed index b)
  grown = IsPermutation-insert placed index b

  end_more : IsEnd sizes (set offsets b o) (insert placed index b) (max heap (o + number_at sizes b))
  end_more = record {
    within = all_in (λ j. number_at (set offsets b o) j + number_at sizes j ≤ max heap (o + number_at sizes b)) placed (insert placed index b) b grown
        (let here = new_offset in let right = le-max_right heap (o + number_at sizes b) in omega (arith, here, right))
        (λ k d lt.
        let old = P.end.within k d lt in
        let same = old_offset (get_or placed k d) (not_b (get_or placed k d) (P.front.each k d lt).1) in
        let left = le-max_left heap (o + number_at sizes b) in
        omega (arith, old, same, left));
    reached = ⊎_elim (λ le. inr (b, new_in placed (insert placed index b) b grown, ap (λ x. x + number_at sizes b) new_offset ∙ sym (max-eq_right le))) (λ le. old (max-eq_left le) P.end.reached) split;
  }
    where
      split : (heap ≤ o + number_at sizes b) ⊎ (o + number_at sizes b ≤ heap)
      split = grind arith

      old : max heap (o + number_at sizes b) ≡ heap → (heap ≡ 0) ⊎ ((i : ℕ) × Contains placed i × (number_at offsets i + number_at sizes i ≡ heap)) → (max heap (o + number_at sizes b) ≡ 0) ⊎ ((i : ℕ) × Contains (insert placed index b) i × (number_at (set offsets b o) i + number_at sizes i ≡ max heap (o + number_at sizes b)))
      old e (inl z) = inl (e ∙ z)
      old e (inr (i, m, r)) =
          let there : get_or is_placed i false ≡ true = subst (λ x. get_or is_placed x false ≡ true) m.2 (P.front.each m.0 i m.1).1 in
          inr (i, old_in placed (insert placed index b) b i grown m, ap (λ x. x + number_at sizes i) (old_offset i (not_b i there)) ∙ r ∙ sym e)

  -- the offset of a placed one is the same
  same_at : (k d : ℕ) → k < length placed → number_at (set offsets b o) (get_or placed k d) ≡ number_at offsets (get_or placed k d)
  same_at k d lt = old_offset (get_or placed k d) (not_b (get_or placed k d) (P.front.each k d lt).1)

  rising_more : IsRising (set offsets b o) (insert placed index b)
  rising_more = IsNonDecreasingBy-insert (number_at (set offsets b o)) placed index b
      (λ k m d le lt. let low = same_at k d (omega arith) in let high = same_at m d lt in let old = P.rising k m d le lt in omega (arith, low, high, old))
      I.within
      (λ k d lt. let within = I.within in let same = same_at k d (omega (arith, within, lt)) in let before = I.before k d lt in let here = new_offset in omega (arith, same, before, here))
      (λ k d le lt. let same = same_at k d lt in let after = I.after k d le lt in let here = new_offset in omega (arith, same, after, here))

  pub filling_more : IsFilling sizes ordered (set offsets b o) (insert placed index b) (set is_placed b true) (max heap (o + number_at sizes b))
  filling_more = record {
    front = front_more sizes ordered offsets placed (insert placed index b) is_placed b o P.front N L grown P.fits.count P.count;
    room = room_more;
    end = end_more;
    rising = rising_more;
    count = length-set is_placed b true ∙ P.count;
    fits = record { few = P.fits.few; count = length-set offsets b o ∙ P.fits.count; each = P.fits.each; near = All-set (λ x. x ≤ 2 ^ 31) offsets b o near P.fits.near };
  }

-- ALL

filled_least : (sizes : List ℕ) (ordered : ℕ → ℕ → Bool) (offsets placed : List ℕ) (is_placed : List Bool) (heap : ℕ) → IsFilling sizes ordered offsets placed is_placed heap → ((k : ℕ) → k < length sizes → get_or is_placed k false ≡ true) → IsLeast sizes ordered (record { offsets = offsets; heap = heap })
filled_least sizes ordered offsets placed is_placed heap P all = record {
  each = λ i lt. P.front.low i lt (all i lt);
  count = P.fits.count;
  heap = record {
    within = λ i lt. let m = P.front.members i lt (all i lt) in subst (λ j. number_at offsets j + number_at sizes j ≤ heap) m.2 (P.end.within m.0 i m.1);
    reached = ⊎_elim (λ z. inl z) (λ r. let m = r.1 in inr (r.0, subst (λ j. j < length sizes) m.2 (P.front.each m.0 r.0 m.1).0, r.2)) P.end.reached;
  };
}

pub filled_all : (sizes : List ℕ) (ordered : ℕ → ℕ → Bool) (order : List ℕ) (k : ℕ) (offsets placed : List ℕ) (heap : ℕ) → IsOrder sizes order → k ≡ length order → IsFilledUpTo sizes ordered order k offsets placed heap → IsLeast sizes ordered (record { offsets = offsets; heap = heap })
filled_all sizes ordered order k offsets placed heap O e F = filled_least sizes ordered offsets placed F.0 heap F.2 (up_to_all sizes order k F.0 O F.1 e)

-- the heap stays small
pub heap_small : (sizes : List ℕ) (is_placed : List Bool) (heap : ℕ) → length sizes ≤ max_units → sum sizes ≤ max_resource_bytes → HasRoom sizes is_placed heap → heap ≤ max_resource_bytes + 255 * max_units
heap_small sizes is_placed heap few total R = let b = R.bound in omega (arith, few, total, b)
