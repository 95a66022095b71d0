-- The counts when the stack is made.
use Rattle.std.proofs.Common.{◌≡◌, ◌≢◌, ◌==◌, ℕ, zero, suc, ◌+◌, ◌<◌, ◌≤◌, List, [], ◌∷◌, length, get_or, Bool, true, false, if◌then◌else◌, refl, sym, ap, subst, ◌∙◌, set, ne_eqb, arith, ⊎_elim}
use Rattle.std.specs.List.{All, sum_by}
use Rattle.std.proofs.lemmas.Bool.Decides.{eqb_tells}
use Rattle.std.proofs.lemmas.List.Sums.{sum_by-cons}
use Rattle.std.proofs.lemmas.List.{length-map, length-set, get_or-set_same, get_or-set_other}
use Rattle.std.proofs.lemmas.List.Elements.{All-cons}
use Rattle.frame_cull.specs.Internal.Counts.{IsForward, times, count_of, State, kept, waits, root_count, root_counts, raised, counted, idle_from, Counts}
use Rattle.frame_cull.specs.Versions.{row_at}
use Rattle.frame_cull.proofs.Steps.{bit, is_zero, positive, eqb_self, times_cons, head_within, tail_within}

raised_one : (refs : List ℕ) (x w : ℕ) → x < length refs → count_of (set refs x (count_of refs x + 1)) w ≡ count_of refs w + bit (x == w)
raised_one refs x w lt = ⊎_elim same other (eqb_tells x w) where
  same : ((x == w) ≡ true) × (x ≡ w) → count_of (set refs x (count_of refs x + 1)) w ≡ count_of refs w + bit (x == w)
  same h = subst (λ v. count_of (set refs x (count_of refs x + 1)) v ≡ count_of refs v + bit (x == v)) h.1 (rw (get_or-set_same refs x (count_of refs x + 1) 0, eqb_self x) refl)

  other : ((x == w) ≡ false) × (x ≢ w) → count_of (set refs x (count_of refs x + 1)) w ≡ count_of refs w + bit (x == w)
  other h = let away : w ≢ x = λ e. h.1 (sym e) in rw (h.0, get_or-set_other refs x w (count_of refs x + 1) 0 away) (omega arith)

pub raised-length : (row refs : List ℕ) → length (raised row refs) ≡ length refs
raised-length [] refs = refl
raised-length (x ∷ row) refs = raised-length row (set refs x (count_of refs x + 1)) ∙ length-set refs x (count_of refs x + 1)

raised-count : (row refs : List ℕ) (w : ℕ) → All (λ x. x < length refs) row → count_of (raised row refs) w ≡ count_of refs w + times w row
raised-count [] refs w within = omega arith
raised-count (x ∷ row) refs w within =
    let one = raised_one refs x w (head_within (length refs) x row within) in
    let size = length-set refs x (count_of refs x + 1) in
    let rest = raised-count row (set refs x (count_of refs x + 1)) w (subst (λ n. All (λ y. y < n) row) (sym size) (tail_within (length refs) x row within)) in
    rw (times_cons w x row) (omega (arith, one, rest))

pub counted-length : (rows : List (List ℕ)) (refs : List ℕ) → length (counted rows refs) ≡ length refs
counted-length [] refs = refl
counted-length (row ∷ rows) refs = counted-length rows (raised row refs) ∙ raised-length row refs

counted-count : (rows : List (List ℕ)) (refs : List ℕ) (w : ℕ) → ((q : ℕ) (d : List ℕ) → q < length rows → All (λ x. x < length refs) (get_or rows q d)) → count_of (counted rows refs) w ≡ count_of refs w + sum_by (times w) rows
counted-count [] refs w within = omega arith
counted-count (row ∷ rows) refs w within =
    let one = raised-count row refs w (within zero row (omega arith)) in
    let size = raised-length row refs in
    let rest = counted-count rows (raised row refs) w (λ q d lt. subst (λ n. All (λ y. y < n) (get_or rows q d)) (sym size) (within (suc q) d (omega arith))) in
    rw (sum_by-cons (times w) row rows) (omega (arith, one, rest))

root-count : (roots : List Bool) (w : ℕ) → count_of (root_counts roots) w ≡ root_count roots w
root-count [] w = refl
root-count (root ∷ roots) zero = refl
root-count (root ∷ roots) (suc w) = root-count roots w

idle-before : (i : ℕ) (refs : List ℕ) (w : ℕ) → w < i → times w (idle_from i refs) ≡ 0
idle-before i [] w lt = refl
idle-before i (count ∷ refs) w lt = go (count == 0) (idle-before (suc i) refs w (omega arith)) where
  go : (b : Bool) → times w (idle_from (suc i) refs) ≡ 0 → times w (if b then i ∷ idle_from (suc i) refs else idle_from (suc i) refs) ≡ 0
  go true rest = let none : bit (i == w) ≡ 0 = ap bit (ne_eqb i w (λ e. absurd (omega arith))) in rw (times_cons w i (idle_from (suc i) refs)) (omega arith)
  go false rest = rest

idle-times : (i : ℕ) (refs : List ℕ) (q : ℕ) → q < length refs → times (i + q) (idle_from i refs) ≡ is_zero (count_of refs q)
idle-times i [] q lt = absurd (omega arith)
idle-times i (count ∷ refs) zero lt = go (count == 0) refl (idle-before (suc i) refs (i + 0) (omega arith)) where
  go : (b : Bool) → (count == 0) ≡ b → times (i + 0) (idle_from (suc i) refs) ≡ 0 → times (i + 0) (if b then i ∷ idle_from (suc i) refs else idle_from (suc i) refs) ≡ bit (count == 0)
  go true e rest =
      let zero_i : i ≡ i + 0 = omega arith in
      let one : bit (i == i + 0) ≡ 1 = ap bit (subst (λ j. (i == j) ≡ true) zero_i (eqb_self i)) in
      let here : bit (count == 0) ≡ 1 = ap bit e in
      rw (times_cons (i + 0) i (idle_from (suc i) refs)) (omega arith)
  go false e rest = let here : bit (count == 0) ≡ 0 = ap bit e in omega arith
idle-times i (count ∷ refs) (suc q) lt =
    let same : suc i + q ≡ i + suc q = omega arith in
    go (count == 0) (subst (λ v. times v (idle_from (suc i) refs) ≡ is_zero (count_of refs q)) same (idle-times (suc i) refs q (omega arith))) where
      go : (b : Bool) → times (i + suc q) (idle_from (suc i) refs) ≡ is_zero (count_of refs q) → times (i + suc q) (if b then i ∷ idle_from (suc i) refs else idle_from (suc i) refs) ≡ is_zero (count_of refs q)
      go true rest = let none : bit (i == i + suc q) ≡ 0 = ap bit (ne_eqb i (i + suc q) (λ e. absurd (omega arith))) in rw (times_cons (i + suc q) i (idle_from (suc i) refs)) (omega arith)
      go false rest = rest

idle-within : (i n : ℕ) (refs : List ℕ) → i + length refs ≤ n → All (λ p. p < n) (idle_from i refs)
idle-within i n [] le = λ k d lt. absurd (omega arith)
idle-within i n (count ∷ refs) le = go (count == 0) (idle-within (suc i) n refs (omega arith)) where
  go : (b : Bool) → All (λ p. p < n) (idle_from (suc i) refs) → All (λ p. p < n) (if b then i ∷ idle_from (suc i) refs else idle_from (suc i) refs)
  go true rest = All-cons (λ p. p < n) i (idle_from (suc i) refs) (omega arith) rest
  go false rest = rest

first_state : (count waiting : ℕ) (row : List ℕ) → waiting ≡ is_zero count → State count waiting row row
first_state zero waiting row e = waits refl e refl
first_state (suc n) waiting row e = kept (omega arith) (e ∙ positive (suc n) (omega arith)) refl

pub begins : (sources : List (List ℕ)) (roots : List Bool) → length roots ≡ length sources → IsForward sources → Counts sources roots (counted sources (root_counts roots)) (idle_from 0 (counted sources (root_counts roots)))
begins sources roots size forward =
    let refs = counted sources (root_counts roots) in
    let long : length refs ≡ length sources = counted-length sources (root_counts roots) ∙ length-map roots (λ (root : Bool). if root then 1 else 0) ∙ size in
    record {
      rows = sources;
      size = refl;
      refs_size = long;
      counted = λ w lt. counted-count sources (root_counts roots) w within ∙ ap (λ r. r + sum_by (times w) sources) (root-count roots w);
      states = λ q lt. first_state (count_of refs q) (times q (idle_from 0 refs)) (row_at sources q) (let e : 0 + q ≡ q = omega arith in subst (λ v. times v (idle_from 0 refs) ≡ is_zero (count_of refs q)) e (idle-times 0 refs q (omega arith)));
      inside = idle-within 0 (length sources) refs (omega arith);
    } where
      within : (q : ℕ) (d : List ℕ) → q < length sources → All (λ x. x < length (root_counts roots)) (get_or sources q d)
      within = λ q d lt k e at. let a : get_or (get_or sources q d) k e < q = forward q d lt k e at in let b : length (root_counts roots) ≡ length roots = length-map roots (λ (root : Bool). if root then 1 else 0) in omega arith

pub long : (sources : List (List ℕ)) (roots : List Bool) (refs slice : List ℕ) → length roots ≡ length sources → refs ≡ counted sources (root_counts roots) → slice ≡ refs → length slice ≡ length sources
long sources roots refs slice size e f = ap length f ∙ (ap length e ∙ (counted-length sources (root_counts roots) ∙ (length-map roots (λ (root : Bool). if root then 1 else 0) ∙ size)))

pub begins_at : (sources : List (List ℕ)) (roots : List Bool) (refs slice stack : List ℕ) → length roots ≡ length sources → IsForward sources → refs ≡ counted sources (root_counts roots) → slice ≡ refs → stack ≡ idle_from 0 slice → Counts sources roots refs stack
begins_at sources roots refs slice stack size forward e f g = rw (g, f, e) (begins sources roots size forward)
