-- What a step of culling does to the counts and the stack.
use Rattle.std.proofs.Common.{◌≡◌, ◌==◌, ℕ, zero, suc, ◌+◌, ◌-◌, ◌<◌, ◌≤◌, List, [], ◌∷◌, ◌++◌, length, length-append, get_or, Bool, true, false, cond, if◌then◌else◌, nat_lt, refl, sym, ap, subst, ◌∙◌, arith, ◌⊎◌, inl, inr, ⊎_elim, eq-eqb, ne_eqb, set, ◌≢◌}
use Rattle.std.specs.List.{All, sum_by}
use Rattle.std.proofs.lemmas.List.Sums.{sum_by-cons, sum_by-set, sum_by-append}
use Rattle.std.proofs.lemmas.List.{get_or_append_left, get_or-set_same, get_or-set_other, length-set}
use Rattle.std.proofs.lemmas.List.Elements.{All-push}
use Rattle.std.proofs.lemmas.Bool.Decides.{eqb_tells}
use Rattle.std.proofs.Math.Seq.{get_or-append_seam}
use Rattle.std.proofs.lemmas.Bool.{ltb-true, ltb-false}
use Rattle.frame_cull.specs.Internal.Counts.{IsForward, times, count_of, lowered, refs_after, stack_after, State, kept, waits, out, root_count, Counts}
use Rattle.frame_cull.specs.Versions.{row_at}

abbrev pub bit : Bool → ℕ
bit b = cond b 1 0

-- 1 where n is 0
abbrev pub is_zero : ℕ → ℕ
is_zero n = bit (n == 0)

pub head_within : (n x : ℕ) (row : List ℕ) → All (λ w. w < n) (x ∷ row) → x < n
head_within n x row all = all zero 0 (omega arith)

pub tail_within : (n x : ℕ) (row : List ℕ) → All (λ w. w < n) (x ∷ row) → All (λ w. w < n) row
tail_within n x row all = λ k d lt. all (suc k) d (omega arith)

pub eqb_self : (x : ℕ) → (x == x) ≡ true
eqb_self x = eq-eqb x x refl

pub positive : (n : ℕ) → 1 ≤ n → is_zero n ≡ 0
positive zero some = absurd (omega arith)
positive (suc n) some = ap bit (ne_eqb (suc n) 0 (λ e. absurd (omega arith)))

pub times_cons : (w x : ℕ) (row : List ℕ) → times w (x ∷ row) ≡ bit (x == w) + times w row
times_cons w x row = sum_by-cons (λ y. bit (y == w)) x row

times_push : (w x : ℕ) (stack : List ℕ) → times w (stack ++ x ∷ []) ≡ times w stack + bit (x == w)
times_push w x stack = sum_by-append (λ y. bit (y == w)) stack (x ∷ []) ∙ (omega arith)

-- one reader less
count_lowered : (refs : List ℕ) (x w : ℕ) → x < length refs → 1 ≤ count_of refs x → count_of (lowered refs x) w + bit (x == w) ≡ count_of refs w
count_lowered refs x w lt some = ⊎_elim same other (eqb_tells x w) where
  same : ((x == w) ≡ true) × (x ≡ w) → count_of (lowered refs x) w + bit (x == w) ≡ count_of refs w
  same h = subst (λ v. count_of (lowered refs x) v + bit (x == v) ≡ count_of refs v) h.1 (rw (get_or-set_same refs x (count_of refs x - 1) 0, eqb_self x) (omega arith))

  other : ((x == w) ≡ false) × (x ≢ w) → count_of (lowered refs x) w + bit (x == w) ≡ count_of refs w
  other h = let away : w ≢ x = λ e. h.1 (sym e) in rw (h.0, get_or-set_other refs x w (count_of refs x - 1) 0 away) (omega arith)

pub refs_after-length : (row refs : List ℕ) → length (refs_after row refs) ≡ length refs
refs_after-length [] refs = refl
refs_after-length (x ∷ row) refs = refs_after-length row (lowered refs x) ∙ length-set refs x (count_of refs x - 1)

some_first : (x : ℕ) (row refs : List ℕ) → ((w : ℕ) → times w (x ∷ row) ≤ count_of refs w) → 1 ≤ count_of refs x
some_first x row refs enough =
    let all : bit (x == x) + times x row ≤ count_of refs x = subst (λ n. n ≤ count_of refs x) (times_cons x x row) (enough x) in
    let one : bit (x == x) ≡ 1 = ap bit (eqb_self x) in
    omega arith

enough_rest : (x : ℕ) (row refs : List ℕ) → x < length refs → ((w : ℕ) → times w (x ∷ row) ≤ count_of refs w) → (w : ℕ) → times w row ≤ count_of (lowered refs x) w
enough_rest x row refs lt enough w =
    let all : bit (x == w) + times w row ≤ count_of refs w = subst (λ n. n ≤ count_of refs w) (times_cons w x row) (enough w) in
    let one : count_of (lowered refs x) w + bit (x == w) ≡ count_of refs w = count_lowered refs x w lt (some_first x row refs enough) in
    omega arith

within_rest : (x : ℕ) (row refs : List ℕ) → All (λ w. w < length refs) (x ∷ row) → All (λ w. w < length (lowered refs x)) row
within_rest x row refs all = subst (λ n. All (λ w. w < n) row) (sym (length-set refs x (count_of refs x - 1))) (tail_within (length refs) x row all)

pub refs_after-count : (row refs : List ℕ) → All (λ w. w < length refs) row → ((w : ℕ) → times w row ≤ count_of refs w) → (w : ℕ) → count_of (refs_after row refs) w + times w row ≡ count_of refs w
refs_after-count [] refs within enough w = omega arith
refs_after-count (x ∷ row) refs within enough w =
    let lt : x < length refs = head_within (length refs) x row within in
    let rest : count_of (refs_after row (lowered refs x)) w + times w row ≡ count_of (lowered refs x) w = refs_after-count row (lowered refs x) (within_rest x row refs within) (enough_rest x row refs lt enough) w in
    let one : count_of (lowered refs x) w + bit (x == w) ≡ count_of refs w = count_lowered refs x w lt (some_first x row refs enough) in
    rw (times_cons w x row) (omega arith)

-- w goes onto the stack exactly where its count falls to 0
one_pushed : (x w : ℕ) (refs stack : List ℕ) → x < length refs → 1 ≤ count_of refs x → times w (if count_of refs x - 1 == 0 then stack ++ x ∷ [] else stack) + is_zero (count_of refs w) ≡ times w stack + is_zero (count_of (lowered refs x) w)
one_pushed x w refs stack lt some =
    let one : count_of (lowered refs x) w + bit (x == w) ≡ count_of refs w = count_lowered refs x w lt some in
    ⊎_elim (λ h. here (count_of refs x - 1 == 0) refl h one) (λ h. there (count_of refs x - 1 == 0) h one) (eqb_tells x w) where
      there : (b : Bool) → ((x == w) ≡ false) × (x ≢ w) → count_of (lowered refs x) w + bit (x == w) ≡ count_of refs w → times w (if b then stack ++ x ∷ [] else stack) + is_zero (count_of refs w) ≡ times w stack + is_zero (count_of (lowered refs x) w)
      there true h one =
          let none : bit (x == w) ≡ 0 = ap bit h.0 in
          let same : count_of (lowered refs x) w ≡ count_of refs w = omega arith in
          rw (times_push w x stack, none, same) (omega arith)
      there false h one =
          let none : bit (x == w) ≡ 0 = ap bit h.0 in
          let same : count_of (lowered refs x) w ≡ count_of refs w = omega arith in
          rw same refl

      pushed : (b : Bool) → bit (x == w) ≡ 1 → times w (if b then stack ++ x ∷ [] else stack) + 0 ≡ times w stack + cond b 1 0
      pushed true hit = rw (times_push w x stack, hit) (omega arith)
      pushed false hit = refl

      here : (b : Bool) → (count_of refs x - 1 == 0) ≡ b → ((x == w) ≡ true) × (x ≡ w) → count_of (lowered refs x) w + bit (x == w) ≡ count_of refs w → times w (if b then stack ++ x ∷ [] else stack) + is_zero (count_of refs w) ≡ times w stack + is_zero (count_of (lowered refs x) w)
      here b e h one =
          let hit : bit (x == w) ≡ 1 = ap bit h.0 in
          let more : 1 ≤ count_of refs w = subst (λ v. 1 ≤ count_of refs v) h.1 some in
          let low : count_of (lowered refs x) w ≡ count_of refs w - 1 = omega arith in
          let test : (count_of refs w - 1 == 0) ≡ b = subst (λ v. (count_of refs v - 1 == 0) ≡ b) h.1 e in
          let now : is_zero (count_of (lowered refs x) w) ≡ cond b 1 0 = ap is_zero low ∙ ap bit test in
          let was : is_zero (count_of refs w) ≡ 0 = positive (count_of refs w) more in
          rw (now, was) (pushed b hit)

pub stack_after-times : (row refs stack : List ℕ) → All (λ w. w < length refs) row → ((w : ℕ) → times w row ≤ count_of refs w) → (w : ℕ) → times w (stack_after row refs stack) + is_zero (count_of refs w) ≡ times w stack + is_zero (count_of (refs_after row refs) w)
stack_after-times [] refs stack within enough w = refl
stack_after-times (x ∷ row) refs stack within enough w =
    let lt : x < length refs = head_within (length refs) x row within in
    let first = if count_of refs x - 1 == 0 then stack ++ x ∷ [] else stack in
    let rest : times w (stack_after row (lowered refs x) first) + is_zero (count_of (lowered refs x) w) ≡ times w first + is_zero (count_of (refs_after row (lowered refs x)) w) = stack_after-times row (lowered refs x) first (within_rest x row refs within) (enough_rest x row refs lt enough) w in
    let one : times w first + is_zero (count_of refs w) ≡ times w stack + is_zero (count_of (lowered refs x) w) = one_pushed x w refs stack lt (some_first x row refs enough) in
    omega arith

pub stack_after-within : (n : ℕ) (row refs stack : List ℕ) → All (λ w. w < n) row → All (λ p. p < n) stack → All (λ p. p < n) (stack_after row refs stack)
stack_after-within n [] refs stack within inside = inside
stack_after-within n (x ∷ row) refs stack within inside = stack_after-within n row (lowered refs x) (if count_of refs x - 1 == 0 then stack ++ x ∷ [] else stack) (tail_within n x row within) (go (count_of refs x - 1 == 0)) where
  go : (b : Bool) → All (λ p. p < n) (if b then stack ++ x ∷ [] else stack)
  go true = All-push (λ p. p < n) stack x inside (head_within n x row within)
  go false = inside

-- the sum of the counts and the length of the stack do not grow
total_lowered : (refs : List ℕ) (x : ℕ) → x < length refs → 1 ≤ count_of refs x → sum_by (λ r. r) (lowered refs x) + 1 ≡ sum_by (λ r. r) refs
total_lowered refs x lt some = let e : sum_by (λ r. r) (lowered refs x) + count_of refs x ≡ sum_by (λ r. r) refs + (count_of refs x - 1) = sum_by-set (λ r. r) refs x (count_of refs x - 1) 0 lt in omega arith

length_pushed : (b : Bool) (x : ℕ) (stack : List ℕ) → length (if b then stack ++ x ∷ [] else stack) ≤ length stack + 1
length_pushed true x stack = rw (length-append stack (x ∷ [])) (omega arith)
length_pushed false x stack = omega arith

pub total_after : (row refs stack : List ℕ) → All (λ w. w < length refs) row → ((w : ℕ) → times w row ≤ count_of refs w) → sum_by (λ r. r) (refs_after row refs) + length (stack_after row refs stack) ≤ sum_by (λ r. r) refs + length stack
total_after [] refs stack within enough = omega arith
total_after (x ∷ row) refs stack within enough =
    let lt : x < length refs = head_within (length refs) x row within in
    let first = if count_of refs x - 1 == 0 then stack ++ x ∷ [] else stack in
    let rest : sum_by (λ r. r) (refs_after row (lowered refs x)) + length (stack_after row (lowered refs x) first) ≤ sum_by (λ r. r) (lowered refs x) + length first = total_after row (lowered refs x) first (within_rest x row refs within) (enough_rest x row refs lt enough) in
    let one : sum_by (λ r. r) (lowered refs x) + 1 ≡ sum_by (λ r. r) refs = total_lowered refs x lt (some_first x row refs enough) in
    let longer : length first ≤ length stack + 1 = length_pushed (count_of refs x - 1 == 0) x stack in
    omega arith

-- FACTS AT A POP

waiting_at : (refs waiting : ℕ) (row source : List ℕ) → State refs waiting row source → 1 ≤ waiting → (refs ≡ 0) × (waiting ≡ 1) × (row ≡ source)
waiting_at refs waiting row source (kept a b c) some = absurd (omega arith)
waiting_at refs waiting row source (waits a b c) some = (a, b, c)
waiting_at refs waiting row source (out a b c) some = absurd (omega arith)

pub times_none : (n w : ℕ) (row : List ℕ) → n ≤ w → All (λ x. x < n) row → times w row ≡ 0
times_none n w [] le within = refl
times_none n w (x ∷ row) le within =
    let away : x ≢ w = λ e. absurd (let lt : x < n = head_within n x row within in omega arith) in
    let zero_here : bit (x == w) ≡ 0 = ap bit (ne_eqb x w away) in
    let rest : times w row ≡ 0 = times_none n w row le (tail_within n x row within) in
    rw (times_cons w x row) (omega arith)

pub at_most_sum : (f : List ℕ → ℕ) (rows : List (List ℕ)) (p : ℕ) → f [] ≡ 0 → p < length rows → sum_by f (set rows p []) + f (get_or rows p []) ≡ sum_by f rows
at_most_sum f rows p none lt = let e : sum_by f (set rows p []) + f (get_or rows p []) ≡ sum_by f rows + f [] = sum_by-set f rows p [] [] lt in omega arith

pub record Popped (sources : List (List ℕ)) (refs : List ℕ) (front : List ℕ) (p : ℕ) (rows : List (List ℕ)) : Type 0 where
  pub within : p < length sources
  pub row_within : All (λ w. w < length refs) (row_at sources p)
  pub none : count_of refs p ≡ 0
  pub once : times p front ≡ 0
  pub row : get_or rows p [] ≡ row_at sources p
  pub enough : (w : ℕ) → times w (row_at sources p) ≤ count_of refs w

pub popped : (sources : List (List ℕ)) (roots : List Bool) (refs front : List ℕ) (p : ℕ) → IsForward sources → (C : Counts sources roots refs (front ++ p ∷ [])) → Popped sources refs front p C.rows
popped sources roots refs front p forward C =
    let within : p < length sources = subst (λ x. x < length sources) (get_or-append_seam front p [] 0) (C.inside (length front) 0 (rw (length-append front (p ∷ [])) (omega arith))) in
    let twice : times p (front ++ p ∷ []) ≡ times p front + bit (p == p) = times_push p p front in
    let one : bit (p == p) ≡ 1 = ap bit (eqb_self p) in
    let some : 1 ≤ times p (front ++ p ∷ []) = omega arith in
    let state = waiting_at (count_of refs p) (times p (front ++ p ∷ [])) (get_or C.rows p []) (row_at sources p) (C.states p within) some in
    let waiting : times p (front ++ p ∷ []) ≡ 1 = state.1 in
    let row_within : All (λ w. w < length refs) (row_at sources p) = λ k d lt. let a : get_or (row_at sources p) k d < p = forward p [] within k d lt in let b : length refs ≡ length sources = C.refs_size in omega arith in
    record {
      within = within;
      row_within = row_within;
      none = state.0;
      once = omega arith;
      row = state.2;
      enough = λ w. enough_at w within state.2 row_within (nat_lt w (length sources)) refl;
    } where
      enough_at : (w : ℕ) → p < length sources → get_or C.rows p [] ≡ row_at sources p → All (λ x. x < length refs) (row_at sources p) → (b : Bool) → nat_lt w (length sources) ≡ b → times w (row_at sources p) ≤ count_of refs w
      enough_at w lt row row_within true e =
          let small : w < length sources = ltb-true w (length sources) e in
          let size : length C.rows ≡ length sources = C.size in
          let all : sum_by (times w) (set C.rows p []) + times w (get_or C.rows p []) ≡ sum_by (times w) C.rows = at_most_sum (times w) C.rows p refl (omega arith) in
          let same : times w (get_or C.rows p []) ≡ times w (row_at sources p) = ap (times w) row in
          let count : count_of refs w ≡ root_count roots w + sum_by (times w) C.rows = C.counted w small in
          omega arith
      enough_at w lt row row_within false e =
          let large : length sources ≤ w = ltb-false w (length sources) e in
          let size : length refs ≡ length sources = C.refs_size in
          let none : times w (row_at sources p) ≡ 0 = times_none (length refs) w (row_at sources p) (omega arith) row_within in
          omega arith

-- THE STEP

state_next : (refs waiting refs-2 waiting-2 : ℕ) (row source : List ℕ) → refs-2 ≤ refs → waiting-2 + is_zero refs ≡ waiting + is_zero refs-2 → State refs waiting row source → State refs-2 waiting-2 row source
state_next refs waiting zero waiting-2 row source le e (kept a b c) = let none : is_zero refs ≡ 0 = positive refs a in let one : is_zero 0 ≡ 1 = refl in waits refl (omega arith) c
state_next refs waiting (suc n) waiting-2 row source le e (kept a b c) = let none : is_zero refs ≡ 0 = positive refs a in let none-2 : is_zero (suc n) ≡ 0 = positive (suc n) (omega arith) in kept (omega arith) (omega arith) c
state_next refs waiting refs-2 waiting-2 row source le e (waits a b c) = let down : refs-2 ≡ refs = omega arith in let same : is_zero refs-2 ≡ is_zero refs = ap is_zero down in waits (omega arith) (omega arith) c
state_next refs waiting refs-2 waiting-2 row source le e (out a b c) = let down : refs-2 ≡ refs = omega arith in let same : is_zero refs-2 ≡ is_zero refs = ap is_zero down in out (omega arith) (omega arith) c

pub step : (sources : List (List ℕ)) (roots : List Bool) (refs front : List ℕ) (p : ℕ) → IsForward sources → Counts sources roots refs (front ++ p ∷ []) → Counts sources roots (refs_after (row_at sources p) refs) (stack_after (row_at sources p) refs front)
step sources roots refs front p forward C =
    let P = popped sources roots refs front p forward C in
    let size : length C.rows ≡ length sources = C.size in
    record {
      rows = set C.rows p [];
      size = length-set C.rows p [] ∙ C.size;
      refs_size = refs_after-length (row_at sources p) refs ∙ C.refs_size;
      counted = λ w lt. counted_at w lt P;
      states = λ q lt. state_at q lt P (eqb_tells q p);
      inside = stack_after-within (length sources) (row_at sources p) refs front (subst (λ n. All (λ w. w < n) (row_at sources p)) C.refs_size P.row_within) front_inside;
    } where
      front_inside : All (λ x. x < length sources) front
      front_inside = λ k d lt. subst (λ x. x < length sources) (get_or_append_left front (p ∷ []) d k lt) (C.inside k d (rw (length-append front (p ∷ [])) (omega arith)))

      counted_at : (w : ℕ) → w < length sources → Popped sources refs front p C.rows → count_of (refs_after (row_at sources p) refs) w ≡ root_count roots w + sum_by (times w) (set C.rows p [])
      counted_at w lt P =
          let size : length C.rows ≡ length sources = C.size in
          let in_p : p < length sources = P.within in
          let all : sum_by (times w) (set C.rows p []) + times w (get_or C.rows p []) ≡ sum_by (times w) C.rows = at_most_sum (times w) C.rows p refl (omega arith) in
          let same : times w (get_or C.rows p []) ≡ times w (row_at sources p) = ap (times w) P.row in
          let was : count_of refs w ≡ root_count roots w + sum_by (times w) C.rows = C.counted w lt in
          let less : count_of (refs_after (row_at sources p) refs) w + times w (row_at sources p) ≡ count_of refs w = refs_after-count (row_at sources p) refs P.row_within P.enough w in
          omega arith

      state_at : (q : ℕ) → q < length sources → Popped sources refs front p C.rows → ((q == p) ≡ true) × (q ≡ p) ⊎ ((q == p) ≡ false) × (q ≢ p) → State (count_of (refs_after (row_at sources p) refs) q) (times q (stack_after (row_at sources p) refs front)) (get_or (set C.rows p []) q []) (row_at sources q)
      state_at q lt P (inl h) =
          let size : length C.rows ≡ length sources = C.size in
          let in_p : p < length sources = P.within in
          let less : count_of (refs_after (row_at sources p) refs) p + times p (row_at sources p) ≡ count_of refs p = refs_after-count (row_at sources p) refs P.row_within P.enough p in
          let was : count_of refs p ≡ 0 = P.none in
          let now : count_of (refs_after (row_at sources p) refs) p ≡ 0 = omega arith in
          let one : times p (stack_after (row_at sources p) refs front) + is_zero (count_of refs p) ≡ times p front + is_zero (count_of (refs_after (row_at sources p) refs) p) = stack_after-times (row_at sources p) refs front P.row_within P.enough p in
          let same : is_zero (count_of (refs_after (row_at sources p) refs) p) ≡ is_zero (count_of refs p) = ap is_zero (now ∙ sym was) in
          let once : times p front ≡ 0 = P.once in
          subst (λ x. State (count_of (refs_after (row_at sources p) refs) x) (times x (stack_after (row_at sources p) refs front)) (get_or (set C.rows p []) x []) (row_at sources x)) (sym h.1) (out now (omega arith) (get_or-set_same C.rows p [] [] (omega arith)))
      state_at q lt P (inr h) =
          let less : count_of (refs_after (row_at sources p) refs) q + times q (row_at sources p) ≡ count_of refs q = refs_after-count (row_at sources p) refs P.row_within P.enough q in
          let one : times q (stack_after (row_at sources p) refs front) + is_zero (count_of refs q) ≡ times q front + is_zero (count_of (refs_after (row_at sources p) refs) q) = stack_after-times (row_at sources p) refs front P.row_within P.enough q in
          let push : times q (front ++ p ∷ []) ≡ times q front + bit (p == q) = times_push q p front in
          let none : bit (p == q) ≡ 0 = ap bit (ne_eqb p q (λ e. h.1 (sym e))) in
          rw (get_or-set_other C.rows p q [] [] h.1) (state_next (count_of refs q) (times q (front ++ p ∷ [])) (count_of (refs_after (row_at sources p) refs) q) (times q (stack_after (row_at sources p) refs front)) (get_or C.rows q []) (row_at sources q) (omega arith) (omega arith) (C.states q lt))
