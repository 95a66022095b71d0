-- There are no two least placements.
use Rattle.std.proofs.Common.{◌≡◌, ℕ, zero, suc, ◌+◌, ◌-◌, ◌*◌, ◌<◌, ◌≤◌, ◌&&◌, List, length, Bool, true, not, sym, ap, subst, ◌∙◌, arith, ◌⊎◌, inl, inr}
use Rattle.std.specs.List.{sum}
use Rattle.std.proofs.lemmas.List.Sums.{get_or-le-sum_by}
use Rattle.std.proofs.lemmas.List.{ext_get_or}
use Rattle.std.proofs.lemmas.Nat.{row_fits}
use Rattle.compile_heap.specs.Placing.{number_at, may_alias, overlap, goes_first, IsFree, Places, IsLeast, IsOnly}
use Rattle.compile_heap.proofs.Order.{Precedes, precedes_of}

-- a number that is lower where a resource goes first
rank : List ℕ → ℕ → ℕ
rank sizes i = (sum sizes - number_at sizes i) * length sizes + i

rank_less : (sizes : List ℕ) (j i : ℕ) → j < length sizes → i < length sizes → goes_first sizes j i ≡ true → rank sizes j < rank sizes i
unfolding rank
rank_less sizes j i lt-j lt-i e = go (precedes_of sizes j i e)
  where
    small : (k : ℕ) → k < length sizes → number_at sizes k ≤ sum sizes
    small k lt = get_or-le-sum_by (λ s. s) sizes k 0 lt

    go : Precedes sizes j i → (sum sizes - number_at sizes j) * length sizes + j < (sum sizes - number_at sizes i) * length sizes + i
    go (inl larger) =
        let s = small j lt-j in
        let lower : sum sizes - number_at sizes j < sum sizes - number_at sizes i = omega (arith, s, larger) in
        let rows : (sum sizes - number_at sizes j) * length sizes + length sizes ≤ (sum sizes - number_at sizes i) * length sizes = row_fits (sum sizes - number_at sizes j) (length sizes) (sum sizes - number_at sizes i) (length sizes) lower (omega arith) in
        omega (arith, rows, lt-j)
    go (inr h) =
        let same : (sum sizes - number_at sizes j) * length sizes ≡ (sum sizes - number_at sizes i) * length sizes = ap (λ s. (sum sizes - s) * length sizes) (sym h.0) in
        let lt = h.1 in
        omega (arith, same, lt)

module _ (sizes : List ℕ) (ordered : ℕ → ℕ → Bool) where
  -- what is placed before i lies at the same offsets
  free_too : (some other : List ℕ) (i o : ℕ) → ((j : ℕ) → j < length sizes → goes_first sizes j i ≡ true → number_at some j ≡ number_at other j) → IsFree sizes ordered some i o → IsFree sizes ordered other i o
  free_too some other i o same free = λ j lt e. ap (λ x. not (may_alias ordered i j) && overlap o (number_at sizes i) x (number_at sizes j)) (sym (same j lt e)) ∙ free j lt e

  not_above : (a b : Places) → IsLeast sizes ordered a → IsLeast sizes ordered b → (i : ℕ) → i < length sizes → ((j : ℕ) → j < length sizes → goes_first sizes j i ≡ true → number_at b.offsets j ≡ number_at a.offsets j) → number_at a.offsets i ≤ number_at b.offsets i
  not_above a b A B i lt same = (A.each i lt).least (number_at b.offsets i) (B.each i lt).aligned (free_too b.offsets a.offsets i (number_at b.offsets i) same (B.each i lt).free)

  agree : (a b : Places) → IsLeast sizes ordered a → IsLeast sizes ordered b → (fuel i : ℕ) → i < length sizes → rank sizes i < fuel → number_at a.offsets i ≡ number_at b.offsets i
  agree a b A B zero i lt less = absurd (omega (arith, less))
  agree a b A B (suc fuel) i lt less =
      let before : (j : ℕ) → j < length sizes → goes_first sizes j i ≡ true → number_at a.offsets j ≡ number_at b.offsets j = λ j lt-j e. agree a b A B fuel j lt-j (let r = rank_less sizes j i lt-j lt e in omega (arith, r, less)) in
      let down = not_above a b A B i lt (λ j lt-j e. sym (before j lt-j e)) in
      let up = not_above b a B A i lt before in
      omega (arith, down, up)

  same_offset : (a b : Places) → IsLeast sizes ordered a → IsLeast sizes ordered b → (i : ℕ) → i < length sizes → number_at a.offsets i ≡ number_at b.offsets i
  same_offset a b A B i lt = agree a b A B (suc (rank sizes i)) i lt (omega arith)

  heap_within : (a b : Places) → IsLeast sizes ordered a → IsLeast sizes ordered b → a.heap ≤ b.heap
  heap_within a b A B = go A.heap.reached
    where
      go : (a.heap ≡ 0) ⊎ ((i : ℕ) × (i < length sizes) × (number_at a.offsets i + number_at sizes i ≡ a.heap)) → a.heap ≤ b.heap
      go (inl none) = omega (arith, none)
      go (inr (i, lt, end)) =
          let same = same_offset a b A B i lt in
          let within = B.heap.within i lt in
          omega (arith, end, same, within)

  pub least_only : (places : Places) → IsLeast sizes ordered places → IsOnly sizes ordered places
  least_only places L = λ other O.
      let offsets : other.offsets ≡ places.offsets = ext_get_or 0 other.offsets places.offsets (O.count ∙ sym L.count) (λ i lt. same_offset other places O L i (subst (λ n. i < n) O.count lt)) in
      let up = heap_within other places O L in
      let down = heap_within places other L O in
      let heap : other.heap ≡ places.heap = omega (arith, up, down) in
      ap (λ o. record { offsets = o; heap = other.heap }) offsets ∙ ap (λ h. record { offsets = places.offsets; heap = h }) heap
