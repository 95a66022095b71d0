-- Which segment has an address.
use Rattle.std.proofs.Common.{◌≡◌, ◌⊎◌, inl, inr, ℕ, zero, suc, ◌+◌, ◌<◌, ◌≤◌, Bool, true, ltb, leb, List, [], ◌∷◌, length, sym, ⊎_elim, subst, arith}
use Rattle.std.specs.Prelude.{if◌then◌else◌, ◌==◌}
use Rattle.std.specs.List.{list_any}
use Rattle.std.proofs.lemmas.Bool.{lt-ltb, ltb-true, ltb-false, cases_lt, cases_Bool, cond_both, or_cases, or_left, or_right, eq-eqb, eqb-true, and_parts, and_from, leb-true, le-leb}
use Rattle.std.proofs.lemmas.List.Folds.{list_any_at}
use Rattle.std.specs.Cmp.{both_ways}
use Rattle.device_cache.specs.declared.segment.Segment.{Segment}
use Rattle.device_cache.proofs.Anyone.{any_at}
use Rattle.device_cache.specs.Places.{nowhere, segment_at, place, cut_in}
use Rattle.device_cache.specs.Internal.Segments.{Ascending, within}

pub place_le : (segments : List Segment) (j x : ℕ) → j < length segments → x < (segment_at segments j).end → place segments x ≤ j
place_le [] j x lt h = absurd (omega (arith, lt))
place_le (s ∷ rest) zero x lt h = rw (lt-ltb x s.end h) (omega arith)
place_le (s ∷ rest) (suc j) x lt h =
    cond_both (ltb x s.end) 0 (suc (place rest x)) (λ n. n ≤ suc j) (λ e. omega arith) (λ e. let r : place rest x ≤ j = place_le rest j x (omega (arith, lt)) h in omega arith)

pub before_place : (segments : List Segment) (j x : ℕ) → j < place segments x → (segment_at segments j).end ≤ x
before_place [] j x lt = absurd (omega (arith, lt))
before_place (s ∷ rest) zero x lt = ⊎_elim
    (λ (e : ltb x s.end ≡ true). let P : Bool → Type 0 = λ b. 0 < (if b then 0 else suc (place rest x)) in let h = subst P e lt in absurd (omega (arith, h)))
    (λ e. ltb-false x s.end e)
    (cases_Bool (ltb x s.end))
before_place (s ∷ rest) (suc j) x lt = before_place rest j x (⊎_elim
    (λ (e : ltb x s.end ≡ true). let P : Bool → Type 0 = λ b. suc j < (if b then 0 else suc (place rest x)) in let h = subst P e lt in absurd (omega (arith, h)))
    (λ e. let P : Bool → Type 0 = λ b. suc j < (if b then 0 else suc (place rest x)) in let h = subst P e lt in omega (arith, h))
    (cases_Bool (ltb x s.end)))

pub at_place : (segments : List Segment) (x : ℕ) → place segments x < length segments → x < (segment_at segments (place segments x)).end
at_place [] x lt = absurd (omega (arith, lt))
at_place (s ∷ rest) x lt =
    let P : Bool → Type 0 = λ b. (if b then 0 else suc (place rest x)) < suc (length rest) in
    let Q : Bool → Type 0 = λ b. x < (segment_at (s ∷ rest) (if b then 0 else suc (place rest x))).end in ⊎_elim
    (λ (e : ltb x s.end ≡ true). subst Q (sym e) (ltb-true x s.end e))
    (λ e. let h = subst P e lt in subst Q (sym e) (at_place rest x (omega (arith, h))))
    (cases_Bool (ltb x s.end))

pub place_bound : (segments : List Segment) (x : ℕ) → place segments x ≤ length segments
place_bound [] x = omega arith
place_bound (s ∷ rest) x = cond_both (ltb x s.end) 0 (suc (place rest x)) (λ n. n ≤ suc (length rest)) (λ e. omega arith) (λ e. let r = place_bound rest x in omega arith)

-- the segments before the k-th end at or before the address, and the k-th, if there is one, behind it
pub place_is : (segments : List Segment) (k x : ℕ) → k ≤ length segments → ((j : ℕ) → j < k → (segment_at segments j).end ≤ x) → (k < length segments → x < (segment_at segments k).end) → place segments x ≡ k
place_is segments k x le below here = ⊎_elim low high (cases_lt (place segments x) k)
  where
    low : place segments x < k → place segments x ≡ k
    low lt = absurd (omega (arith, below (place segments x) lt, at_place segments x (omega (arith, lt, le))))

    high : k ≤ place segments x → place segments x ≡ k
    high ge = ⊎_elim (λ lt. omega (arith, ge, place_le segments k x lt (here lt))) (λ all. omega (arith, place_bound segments x, all, le, ge)) (cases_lt k (length segments))

-- the place goes by the ends alone
pub same_place : (old new : List Segment) (x : ℕ) → length new ≡ length old → ((k : ℕ) → k < length old → (segment_at new k).end ≡ (segment_at old k).end) → place new x ≡ place old x
same_place old new x len ends = place_is new (place old x) x (omega (arith, len, place_bound old x)) (λ j lt. omega (arith, before_place old j x lt, ends j (omega (arith, lt, place_bound old x)))) (λ lt. omega (arith, at_place old x (omega (arith, len, lt)), ends (place old x) (omega (arith, len, lt))))

pub place_mono : (segments : List Segment) (x y : ℕ) → x ≤ y → place segments x ≤ place segments y
place_mono segments x y le = ⊎_elim (λ lt. absurd (omega (arith, le, before_place segments (place segments y) x lt, at_place segments y (omega (arith, lt, place_bound segments x))))) (λ h. h) (cases_lt (place segments y) (place segments x))

pub cut_cases : (segments : List Segment) (x : ℕ) → cut_in segments x ≡ true → (x ≡ 0) ⊎ ((j : ℕ) × (j < length segments) × ((segment_at segments j).end ≡ x))
unfolding cut_in
cut_cases segments x e = ⊎_elim (λ h. inl (eqb-true x 0 h)) (λ h. let a = any_at (λ (s : Segment). s.end == x) nowhere segments h in inr (a.0, a.1, eqb-true (segment_at segments a.0).end x a.2)) (or_cases (x == 0) (list_any (λ s. s.end == x) segments) e)

pub cut_zero : (segments : List Segment) (x : ℕ) → x ≡ 0 → cut_in segments x ≡ true
unfolding cut_in
cut_zero segments x e = or_left (x == 0) (list_any (λ s. s.end == x) segments) (eq-eqb x 0 e)

pub cut_end : (segments : List Segment) (j x : ℕ) → j < length segments → (segment_at segments j).end ≡ x → cut_in segments x ≡ true
unfolding cut_in
cut_end segments j x lt e = or_right (x == 0) (list_any (λ s. s.end == x) segments) (list_any_at (λ (s : Segment). s.end == x) segments j nowhere lt (eq-eqb (segment_at segments j).end x e))

-- the ends that rise, also where the two may be one
pub end_le : (segments : List Segment) → Ascending segments → (j k : ℕ) → j ≤ k → k < length segments → (segment_at segments j).end ≤ (segment_at segments k).end
end_le segments A j k le lt = ⊎_elim (λ less. let r = A.rising j k less lt in omega (arith, r)) (λ (ge : k ≤ j). let e : j ≡ k = omega (arith, le, ge) in rw e (omega arith)) (cases_lt j k)

-- an end at the address is the last one that is not behind it
pub end_before : (segments : List Segment) → Ascending segments → (j x : ℕ) → j < length segments → (segment_at segments j).end ≡ x → j < place segments x
end_before segments A j x lt e = ⊎_elim (λ h. h) (λ ge. absurd (omega (arith, at_place segments x (omega (arith, ge, lt)), end_le segments A (place segments x) j ge lt, e))) (cases_lt j (place segments x))

pub edge_first : (segments : List Segment) (x : ℕ) → Ascending segments → place segments x ≡ 0 → (x == 0) ≡ cut_in segments x
edge_first segments x A none = both_ways (x == 0) (cut_in segments x)
    (λ h. cut_zero segments x (eqb-true x 0 h))
    (λ h. ⊎_elim (λ e. eq-eqb x 0 e) (λ t. absurd (omega (arith, none, end_before segments A t.0 x t.1 t.2))) (cut_cases segments x h))

pub edge_later : (segments : List Segment) (x k : ℕ) → Ascending segments → k < place segments x → place segments x ≤ k + 1 → ((segment_at segments k).end == x) ≡ cut_in segments x
edge_later segments x k A lt le = both_ways ((segment_at segments k).end == x) (cut_in segments x)
    (λ h. cut_end segments k x inside (eqb-true (segment_at segments k).end x h))
    (λ h. eq-eqb (segment_at segments k).end x (⊎_elim
    (λ e. absurd (omega (arith, A.some k inside, before_place segments k x lt, e)))
    (λ t. let less : t.0 ≤ k = omega (arith, end_before segments A t.0 x t.1 t.2, le) in omega (arith, end_le segments A t.0 k less inside, t.2, before_place segments k x lt))
    (cut_cases segments x h)))
  where
    inside : k < length segments
    inside = omega (arith, lt, place_bound segments x)

-- the addresses before a cut are those of the segments before it
pub before_cut : (segments : List Segment) → Ascending segments → (a x : ℕ) → cut_in segments a ≡ true → x < a → place segments x < place segments a
before_cut segments A a x cut lt = ⊎_elim (λ e. absurd (omega (arith, lt, e))) (λ t. omega (arith, end_before segments A t.0 a t.1 t.2, place_le segments t.0 x t.1 (omega (arith, lt, t.2)))) (cut_cases segments a cut)

-- an address is in a range between two cuts exactly where its segment is one of the range's
pub in_cuts : (segments : List Segment) → Ascending segments → (from to x : ℕ) → cut_in segments from ≡ true → cut_in segments to ≡ true → within from to x ≡ within (place segments from) (place segments to) (place segments x)
in_cuts segments A from to x f t = both_ways (within from to x) (within (place segments from) (place segments to) (place segments x))
    (λ h. let p = and_parts (leb from x) (ltb x to) h in and_from (leb (place segments from) (place segments x)) (ltb (place segments x) (place segments to)) (le-leb (place segments from) (place segments x) (place_mono segments from x (leb-true from x p.0))) (lt-ltb (place segments x) (place segments to) (before_cut segments A to x t (ltb-true x to p.1))))
    (λ h. let p = and_parts (leb (place segments from) (place segments x)) (ltb (place segments x) (place segments to)) h in and_from (leb from x) (ltb x to)
    (le-leb from x (⊎_elim (λ less. absurd (omega (arith, before_cut segments A from x f less, leb-true (place segments from) (place segments x) p.0))) (λ h. h) (cases_lt x from)))
    (lt-ltb x to (⊎_elim (λ h. h) (λ ge. absurd (omega (arith, place_mono segments to x ge, ltb-true (place segments x) (place segments to) p.1))) (cases_lt x to))))
