-- The next of an order goes first among those that are left.
use Rattle.std.proofs.Common.{◌≡◌, ◌≢◌, ◌==◌, ◌⊎◌, inl, inr, ℕ, ◌+◌, ◌<◌, ◌≤◌, List, length, get_or, set, Bool, true, false, sym, ap, subst, ◌∙◌, arith, ⊎_elim}
use Rattle.std.proofs.lemmas.Bool.{cases_lt}
use Rattle.std.proofs.lemmas.Bool.Decides.{eqb_tells}
use Rattle.std.proofs.lemmas.List.{get_or_default, get_or-set_same, get_or-set_other}
use Rattle.compile_heap.specs.Placing.{goes_first}
use Rattle.compile_heap.specs.Internal.Choosing.{IsOrder, IsUpTo, IsNext}
use Rattle.compile_heap.proofs.Order.{not_both}

true_false : true ≡ false → ⊥
true_false e = cc

pub up_to_none : (order : List ℕ) (is_placed : List Bool) → ((j : ℕ) → get_or is_placed j false ≡ false) → IsUpTo order 0 is_placed
up_to_none order is_placed none = record { done = λ m d lt. absurd (omega (arith, lt)); left = λ m d le lt. none (get_or order m d) }

module _ (sizes order : List ℕ) (k : ℕ) (is_placed : List Bool) (O : IsOrder sizes order) (U : IsUpTo order k is_placed) where
  pub up_to_all : k ≡ length order → (j : ℕ) → j < length sizes → get_or is_placed j false ≡ true
  up_to_all e j lt = let m = O.each j lt in let less = m.1 in subst (λ x. get_or is_placed x false ≡ true) m.2 (U.done m.0 j (omega (arith, e, less)))

  module _ (lt : k < length order) where
    same : (d : ℕ) → get_or order k d ≡ get_or order k 0
    same d = get_or_default order k d 0 lt

    -- those behind it are others
    other : (m d : ℕ) → k < m → m < length order → get_or order m d ≢ get_or order k 0
    other m d less within e =
        let first = subst (λ x. goes_first sizes x (get_or order m d) ≡ true) (same d ∙ sym e) (O.falling k m d less within) in
        not_both sizes (get_or order m d) (get_or order m d) first first

    behind : (m j : ℕ) → k ≤ m → m < length order → get_or order m j ≡ j → j ≢ get_or order k 0 → goes_first sizes (get_or order k 0) j ≡ true
    behind m j le within e ne = ⊎_elim
        (λ l. subst (λ x. goes_first sizes x j ≡ true) (same j) (subst (λ x. goes_first sizes (get_or order k j) x ≡ true) e (O.falling k m j l within)))
        (λ g. let at : m ≡ k = omega (arith, g, le) in absurd (ne (sym e ∙ (ap (λ x. get_or order x j) at ∙ same j))))
        (cases_lt k m)

    pub next_in : IsNext sizes is_placed (get_or order k 0)
    next_in = record {
      within = O.within k 0 lt;
      left = U.left k 0 (omega arith) lt;
      first = λ j lt-j no ne.
          let m = O.each j lt-j in
          ⊎_elim
          (λ l. absurd (true_false (sym (subst (λ x. get_or is_placed x false ≡ true) m.2 (U.done m.0 j l)) ∙ no)))
          (λ g. behind m.0 j g m.1 m.2 ne)
          (cases_lt m.0 k);
    }

    pub up_to_more : get_or order k 0 < length is_placed → IsUpTo order (k + 1) (set is_placed (get_or order k 0) true)
    up_to_more in_list = record {
      done = λ m d less. now (get_or order m d) (⊎_elim
          (λ l. inr (U.done m d l))
          (λ g. let at : m ≡ k = omega (arith, g, less) in inl (ap (λ x. get_or order x d) at ∙ same d))
          (cases_lt m k));
      left = λ m d le within. get_or-set_other is_placed (get_or order k 0) (get_or order m d) true false (other m d (omega arith) within) ∙ U.left m d (omega arith) within;
    }
      where
        set_here : (j : ℕ) → j ≡ get_or order k 0 → get_or (set is_placed (get_or order k 0) true) j false ≡ true
        set_here j e = subst (λ x. get_or (set is_placed (get_or order k 0) true) x false ≡ true) (sym e) (get_or-set_same is_placed (get_or order k 0) true false in_list)

        now : (j : ℕ) → (j ≡ get_or order k 0) ⊎ (get_or is_placed j false ≡ true) → get_or (set is_placed (get_or order k 0) true) j false ≡ true
        now j (inl e) = set_here j e
        now j (inr was) = ⊎_elim
            (λ (h : ((j == get_or order k 0) ≡ true) × (j ≡ get_or order k 0)). set_here j h.1)
            (λ (h : ((j == get_or order k 0) ≡ false) × (j ≢ get_or order k 0)). get_or-set_other is_placed (get_or order k 0) j true false h.1 ∙ was)
            (eqb_tells j (get_or order k 0))
