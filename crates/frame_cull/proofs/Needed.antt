-- Where the stack is empty, the counts tell which passes are needed.
use Rattle.std.proofs.Common.{◌≡◌, ◌==◌, ℕ, zero, suc, ◌+◌, ◌<◌, ◌≤◌, List, [], ◌∷◌, length, get_or, Bool, true, false, refl, sym, ap, subst, arith, ◌≢◌, ◌⊎◌, inl, inr, ◌↔◌}
use Rattle.std.specs.List.{sum_by, Contains}
use Rattle.std.proofs.lemmas.Bool.Decides.{eqb_tells}
use Rattle.std.proofs.lemmas.List.Sums.{sum_by-cons}
use Rattle.frame_cull.specs.Internal.Counts.{is_root, RowLeads, RowReaches, stays, goes, IsNeeded, IsForward, times, count_of, State, kept, waits, out, root_count, Counts}
use Rattle.frame_cull.specs.Versions.{row_at}
use Rattle.frame_cull.proofs.Steps.{bit, eqb_self, times_cons, at_most_sum}

full : (refs : ℕ) (row source : List ℕ) → State refs 0 row source → 0 < refs → row ≡ source
full refs row source (kept a b c) some = c
full refs row source (waits a b c) some = absurd (omega arith)
full refs row source (out a b c) some = absurd (omega arith)

empty : (refs : ℕ) (row source : List ℕ) → State refs 0 row source → refs ≡ 0 → row ≡ []
empty refs row source (kept a b c) none = absurd (omega arith)
empty refs row source (waits a b c) none = absurd (omega arith)
empty refs row source (out a b c) none = c

times-from_Contains : (w : ℕ) (xs : List ℕ) (k : ℕ) → k < length xs → get_or xs k w ≡ w → 1 ≤ times w xs
times-from_Contains w [] k lt e = absurd (omega arith)
times-from_Contains w (x ∷ xs) zero lt e = let one : bit (x == w) ≡ 1 = ap bit (subst (λ y. (y == w) ≡ true) (sym e) (eqb_self w)) in rw (times_cons w x xs) (omega arith)
times-from_Contains w (x ∷ xs) (suc k) lt e = let rest : 1 ≤ times w xs = times-from_Contains w xs k (omega arith) e in rw (times_cons w x xs) (omega arith)

Contains-from_times : (w : ℕ) (xs : List ℕ) → 1 ≤ times w xs → Contains xs w
Contains-from_times w [] some = absurd (omega arith)
Contains-from_times w (x ∷ xs) some = go (λ more. Contains-from_times w xs more) (eqb_tells x w) where
  go : (1 ≤ times w xs → Contains xs w) → ((x == w) ≡ true) × (x ≡ w) ⊎ ((x == w) ≡ false) × (x ≢ w) → Contains (x ∷ xs) w
  go again (inl h) = (0, omega arith, h.1)
  go again (inr h) =
      let none : bit (x == w) ≡ 0 = ap bit h.0 in
      let all : times w (x ∷ xs) ≡ bit (x == w) + times w xs = times_cons w x xs in
      let rest : Contains xs w = again (omega arith) in
      (suc rest.0, omega (arith, rest.1), rest.2)

some_row : (f : List ℕ → ℕ) (rows : List (List ℕ)) → 1 ≤ sum_by f rows → (q : ℕ) × (q < length rows) × (1 ≤ f (get_or rows q []))
some_row f [] some = absurd (omega arith)
some_row f (row ∷ rows) some = go (λ more. some_row f rows more) (f row) refl where
  go : (1 ≤ sum_by f rows → (q : ℕ) × (q < length rows) × (1 ≤ f (get_or rows q []))) → (n : ℕ) → f row ≡ n → (q : ℕ) × (q < length (row ∷ rows)) × (1 ≤ f (get_or (row ∷ rows) q []))
  go again zero e =
      let all : sum_by f (row ∷ rows) ≡ f row + sum_by f rows = sum_by-cons f row rows in
      let rest : (q : ℕ) × (q < length rows) × (1 ≤ f (get_or rows q [])) = again (omega arith) in
      (suc rest.0, omega (arith, rest.1), rest.2)
  go again (suc n) e = (0, omega arith, omega arith)

module _ (sources : List (List ℕ)) (roots : List Bool) (refs : List ℕ) (C : Counts sources roots refs []) where
  root_needed : (p : ℕ) → p < length sources → is_root roots p ≡ true → 0 < count_of refs p
  root_needed p lt root =
      let one : root_count roots p ≡ 1 = ap bit root in
      let count : count_of refs p ≡ root_count roots p + sum_by (times p) C.rows = C.counted p lt in
      omega arith

  lead_needed : (p q : ℕ) → p < length sources → RowLeads sources p q → 0 < count_of refs q → 0 < count_of refs p
  lead_needed p q lt lead some =
      let in_q : q < length sources = lead.0 in
      let size : length C.rows ≡ length sources = C.size in
      let row : get_or C.rows q [] ≡ row_at sources q = full (count_of refs q) (get_or C.rows q []) (row_at sources q) (C.states q in_q) some in
      let there : 1 ≤ times p (row_at sources q) = times-from_Contains p (row_at sources q) lead.1.0 lead.1.1 lead.1.2 in
      let same : times p (get_or C.rows q []) ≡ times p (row_at sources q) = ap (times p) row in
      let all = at_most_sum (times p) C.rows q refl (omega arith) in
      let count : count_of refs p ≡ root_count roots p + sum_by (times p) C.rows = C.counted p lt in
      omega (arith, all)

  reach_needed : (p r : ℕ) → p < length sources → RowReaches sources p r → is_root roots r ≡ true → 0 < count_of refs p
  reach_needed p r lt stays root = root_needed p lt root
  reach_needed p r lt (goes {q = q} lead rest) root = lead_needed p q lt lead (reach_needed q r lead.0 rest root)

  needed_reach : IsForward sources → (fuel p : ℕ) → length sources ≤ p + fuel → p < length sources → 0 < count_of refs p → IsNeeded sources roots p
  needed_reach forward zero p le lt some = absurd (omega arith)
  needed_reach forward (suc fuel) p le lt some = go (λ q le-q lt-q some-q. needed_reach forward fuel q le-q lt-q some-q) (is_root roots p) refl where
    by_row : ((q : ℕ) → length sources ≤ q + fuel → q < length sources → 0 < count_of refs q → IsNeeded sources roots q) → (q : ℕ) → q < length sources → 1 ≤ times p (get_or C.rows q []) → (n : ℕ) → count_of refs q ≡ n → IsNeeded sources roots p
    by_row again q in_q there zero e =
        let none : times p (get_or C.rows q []) ≡ 0 = ap (times p) (empty (count_of refs q) (get_or C.rows q []) (row_at sources q) (C.states q in_q) e) in
        absurd (omega arith)
    by_row again q in_q there (suc n) e =
        let row = full (count_of refs q) (get_or C.rows q []) (row_at sources q) (C.states q in_q) (omega arith) in
        let has : Contains (row_at sources q) p = Contains-from_times p (row_at sources q) (subst (λ r. 1 ≤ times p r) row there) in
        let before : p < q = subst (λ w. w < q) has.2 (forward q [] in_q has.0 p has.1) in
        let rest = again q (omega arith) in_q (omega arith) in
        (rest.0, goes {r = rest.0} (in_q, has) rest.1, rest.2)

    go : ((q : ℕ) → length sources ≤ q + fuel → q < length sources → 0 < count_of refs q → IsNeeded sources roots q) → (b : Bool) → is_root roots p ≡ b → IsNeeded sources roots p
    go again true e = (p, stays, e)
    go again false e =
        let none : root_count roots p ≡ 0 = ap bit e in
        let count : count_of refs p ≡ root_count roots p + sum_by (times p) C.rows = C.counted p lt in
        let found = some_row (times p) C.rows (omega arith) in
        let size : length C.rows ≡ length sources = C.size in
        by_row again found.0 (omega (arith, found.1)) found.2 (count_of refs found.0) refl

  pub needed_is : IsForward sources → (p : ℕ) → p < length sources → (0 < count_of refs p) ↔ IsNeeded sources roots p
  needed_is forward p lt = (λ some. needed_reach forward (length sources) p (omega arith) lt some, λ K. reach_needed p K.0 lt K.1 K.2)
