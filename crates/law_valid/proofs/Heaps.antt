-- A heap of least places is no longer than its resources, each with a granule.
use Rattle.std.proofs.Common.{◌≡◌, ◌≢◌, ◌⊎◌, inl, inr, ⊎_elim, ℕ, zero, suc, ◌+◌, ◌*◌, ◌/◌, ◌%◌, ◌<◌, ◌≤◌, ◌==◌, ◌&&◌, ◌||◌, nat_lt, not, Bool, true, false, List, [], ◌∷◌, length, if◌then◌else◌, refl, sym, ap, ◌∙◌, subst, eq-eqb, eqb-true, arith}
use Rattle.std.specs.List.{sum_by}
use Rattle.std.proofs.lemmas.Bool.{ltb-true, lt-ltb, le-ltb, and_parts, and_from, and_left, and_right, or_left, or_right}
use Rattle.std.proofs.lemmas.Bool.Decides.{eqb_tells}
use Rattle.std.proofs.lemmas.List.Sums.{sum_by-cons}
use Rattle.compile_heap.specs.Placing.{Places, number_at, may_alias, overlap, goes_first, IsFree, IsLeast}
use Rattle.law_valid.proofs.Sums.{sum_below, at_one, below_le, below_both, below_hit, sum_entries}

-- THE ORDER OF PLACING

-- a pair that goes first has a larger size, or the same and a lower number
abbrev First : List ℕ → ℕ → ℕ → Type 0
First sizes j i = (number_at sizes i < number_at sizes j) ⊎ ((number_at sizes i ≡ number_at sizes j) × (j < i))

first_is : (sizes : List ℕ) (j i : ℕ) → goes_first sizes j i ≡ true → First sizes j i
first_is sizes j i e = go (nat_lt (number_at sizes i) (number_at sizes j)) refl
  where
    go : (b : Bool) → nat_lt (number_at sizes i) (number_at sizes j) ≡ b → First sizes j i
    go true f = inl (ltb-true (number_at sizes i) (number_at sizes j) f)
    go false f =
        let rest : (number_at sizes i == number_at sizes j && nat_lt j i) ≡ true = sym (ap (λ b. b || (number_at sizes i == number_at sizes j && nat_lt j i)) f) ∙ e in
        let parts = and_parts (number_at sizes i == number_at sizes j) (nat_lt j i) rest in
        inr (eqb-true (number_at sizes i) (number_at sizes j) parts.0, ltb-true j i parts.1)

first_from : (sizes : List ℕ) (j i : ℕ) → First sizes j i → goes_first sizes j i ≡ true
first_from sizes j i (inl lt) = or_left (nat_lt (number_at sizes i) (number_at sizes j)) (number_at sizes i == number_at sizes j && nat_lt j i) (lt-ltb (number_at sizes i) (number_at sizes j) lt)
first_from sizes j i (inr h) = or_right (nat_lt (number_at sizes i) (number_at sizes j)) (number_at sizes i == number_at sizes j && nat_lt j i) (and_from (number_at sizes i == number_at sizes j) (nat_lt j i) (eq-eqb (number_at sizes i) (number_at sizes j) h.0) (lt-ltb j i h.1))

first_then : (sizes : List ℕ) (k j i : ℕ) → First sizes k j → First sizes j i → First sizes k i
first_then sizes k j i (inl a) (inl b) = inl (omega (arith, a, b))
first_then sizes k j i (inl a) (inr b) = inl (omega (arith, a, b.0))
first_then sizes k j i (inr a) (inl b) = inl (omega (arith, a.0, b))
first_then sizes k j i (inr a) (inr b) = inr (b.0 ∙ a.0, omega (arith, a.1, b.1))

not_itself : (sizes : List ℕ) (i : ℕ) → First sizes i i → ⊥
not_itself sizes i (inl a) = omega (arith, a)
not_itself sizes i (inr a) = omega (arith, a.1)

-- THE ROOM THAT IS TAKEN

module _ (sizes : List ℕ) where
  -- of resource k, with a granule
  abbrev room : ℕ → ℕ
  room k = number_at sizes k + 255

  -- what is placed before i takes
  abbrev before : ℕ → ℕ → ℕ
  before i k = if goes_first sizes k i then room k else 0

  abbrev taken : ℕ → ℕ
  taken i = sum_below (before i) (length sizes)

  before_hit : (i k : ℕ) → goes_first sizes k i ≡ true → before i k ≡ room k
  before_hit i k e = ap (λ b. if b then room k else 0) e

  -- j and what is placed before it is placed before i
  nested : (i j k : ℕ) → goes_first sizes j i ≡ true → before j k + at_one j room k ≤ before i k
  nested i j k e = go (goes_first sizes k j) refl (eqb_tells j k)
    where
      go : (b : Bool) → goes_first sizes k j ≡ b → (((j == k) ≡ true) × (j ≡ k)) ⊎ (((j == k) ≡ false) × (j ≢ k)) → (if b then room k else 0) + at_one j room k ≤ before i k
      go true f (inl h) = absurd (not_itself sizes j (first_is sizes j j (subst (λ x. goes_first sizes x j ≡ true) (sym h.1) f)))
      go true f (inr h) =
          let none : at_one j room k ≡ 0 = ap (λ b. if b then room k else 0) h.0 in
          let all = before_hit i k (first_from sizes k i (first_then sizes k j i (first_is sizes k j f) (first_is sizes j i e))) in
          omega (arith, none, all)
      go false f (inl h) =
          let one : at_one j room k ≡ room k = ap (λ b. if b then room k else 0) h.0 in
          let all = before_hit i k (subst (λ x. goes_first sizes x i ≡ true) h.1 e) in
          omega (arith, one, all)
      go false f (inr h) =
          let none : at_one j room k ≡ 0 = ap (λ b. if b then room k else 0) h.0 in
          omega (arith, none)

  taken_more : (i j : ℕ) → j < length sizes → goes_first sizes j i ≡ true → taken j + room j ≤ taken i
  taken_more i j lt e = omega (
    arith,
    below_le (λ k. before j k + at_one j room k) (before i) (length sizes) (λ k l. nested i j k e),
    below_both (before j) (at_one j room) (length sizes),
    below_hit j room (length sizes) lt,
  )

  -- i and what is placed before it are no more than all
  apart_itself : (i k : ℕ) → before i k + at_one i room k ≤ room k
  apart_itself i k = go (goes_first sizes k i) refl (eqb_tells i k)
    where
      go : (b : Bool) → goes_first sizes k i ≡ b → (((i == k) ≡ true) × (i ≡ k)) ⊎ (((i == k) ≡ false) × (i ≢ k)) → (if b then room k else 0) + at_one i room k ≤ room k
      go true f (inl h) = absurd (not_itself sizes i (first_is sizes i i (subst (λ x. goes_first sizes x i ≡ true) (sym h.1) f)))
      go true f (inr h) = let none : at_one i room k ≡ 0 = ap (λ b. if b then room k else 0) h.0 in omega (arith, none)
      go false f (inl h) = let one : at_one i room k ≡ room k = ap (λ b. if b then room k else 0) h.0 in omega (arith, one)
      go false f (inr h) = let none : at_one i room k ≡ 0 = ap (λ b. if b then room k else 0) h.0 in omega (arith, none)

  taken_all : (i : ℕ) → i < length sizes → taken i + room i ≤ sum_below room (length sizes)
  taken_all i lt = omega (
    arith,
    below_le (λ k. before i k + at_one i room k) room (length sizes) (λ k l. apart_itself i k),
    below_both (before i) (at_one i room) (length sizes),
    below_hit i room (length sizes) lt,
  )

  -- LEAST PLACES

  module _ (ordered : ℕ → ℕ → Bool) (places : Places) (least : IsLeast sizes ordered places) where
    abbrev end : ℕ → ℕ
    end i = number_at places.offsets i + number_at sizes i

    -- where those that go first end, i is free
    free_at : (i offset : ℕ) → ((j : ℕ) → j < length sizes → goes_first sizes j i ≡ true → end j ≤ offset) → IsFree sizes ordered places.offsets i offset
    free_at i offset low j lt e =
        and_right (not (may_alias ordered i j)) (overlap offset (number_at sizes i) (number_at places.offsets j) (number_at sizes j))
        (and_left (nat_lt offset (end j)) (nat_lt (number_at places.offsets j) (offset + number_at sizes i)) (le-ltb offset (end j) (low j lt e)))

    rounded : (n : ℕ) → (o : ℕ) × (o % 256 ≡ 0) × (n ≤ o) × (o ≤ n + 255)
    rounded n = ((n + 255) / 256 * 256, omega arith, omega arith, omega arith)

    ends_within : (n i : ℕ) → i < length sizes → taken i < n → end i ≤ taken i + room i
    ends_within zero i lt small = absurd (omega (arith, small))
    ends_within (suc n) i lt small =
        let r = rounded (taken i) in
        let low : number_at places.offsets i ≤ r.0 = (least.each i lt).least r.0 r.1 (free_at i r.0 (λ j lj e.
        let less = taken_more i j lj e in
        let ends = ends_within n j lj (omega (arith, less, small)) in
        let above = r.2 in
        omega (arith, less, ends, above))) in
        let near = r.3 in
        omega (arith, low, near)

    pub heap_bounded : places.heap ≤ sum_below room (length sizes)
    heap_bounded = ⊎_elim
        (λ none. omega (arith, none))
        (λ (h : (i : ℕ) × (i < length sizes) × (end i ≡ places.heap)).
        let ends = ends_within (suc (taken h.0)) h.0 h.1 (omega arith) in
        let all = taken_all h.0 h.1 in
        let is = h.2 in
        omega (arith, ends, all, is))
        least.heap.reached

-- and its resources together
rooms : (sizes : List ℕ) → sum_by (λ s. s + 255) sizes ≡ sum_by (λ s. s) sizes + 255 * length sizes
rooms [] = refl
rooms (size ∷ sizes) = omega (arith, rooms sizes, sum_by-cons (λ (s : ℕ). s + 255) size sizes, sum_by-cons (λ (s : ℕ). s) size sizes)

pub heap_few : (sizes : List ℕ) (ordered : ℕ → ℕ → Bool) (places : Places) → IsLeast sizes ordered places → places.heap ≤ sum_by (λ s. s) sizes + 255 * length sizes
heap_few sizes ordered places least = omega (arith, heap_bounded sizes ordered places least, sum_entries (λ (s : ℕ). s + 255) sizes 0, rooms sizes)
