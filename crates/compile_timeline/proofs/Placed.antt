-- Which part has which number.
use Rattle.std.proofs.Common.{◌≡◌, ◌⊎◌, inl, inr, ℕ, zero, suc, ◌+◌, ◌<◌, ◌≤◌, ◌==◌, ◌&&◌, ◌||◌, nat_lt, if◌then◌else◌, Bool, true, false, List, [], ◌∷◌, ◌++◌, length, Option, Some, None, refl, sym, ap, ◌∙◌, subst, eq-eqb, arith}
use Rattle.std.specs.Option.{option_map, option_map_or}
use Rattle.std.specs.Prelude.{slice_get}
use Rattle.std.proofs.lemmas.Bool.{cases_Bool, and_from, and_parts, false≢true, or_left, or_right}
use Rattle.std.proofs.lemmas.List.{length-map}
use Rattle.std.proofs.lemmas.Option.{slice_get-map, slice_get_within}
use Rattle.base.proofs.Lists.{got_front, got_back}
use Rattle.program.specs.declared.program.Item as programs
use Rattle.compile_timeline.proofs.Below.{side, InTwo, in_left, in_right, in_two, in_map, begins_before, there_below, InBelow, in_below, any_there, count_up}
use Rattle.compile_timeline.proofs.Latest.{item_there, item_within, item_queue, latest_need, latest_from, LastAt, last_cases, last_after, risen}
use Rattle.compile_timeline.specs.Below.{all_below, any_below, count_below}
use Rattle.compile_timeline.specs.Laws.{Stands, a_wait, an_item, a_signal, IsNumbered, AreNumbered, AllThere, InOrder, IsFor, AreFor, AreMet, Ends, AreRising}
use Rattle.compile_timeline.specs.Parts.{Part, Waits, Does, Signals, when, wait_for, signal_after, waits_at, step_parts, parts_at}
use Rattle.compile_timeline.specs.Places.{Place, place, step_places, queue_places, places, number, wait_number, item_number, signal_number}
use Rattle.compile_timeline.specs.Signals.{awaited_by, is_awaited, is_last, has_signal, value_at}
use Rattle.compile_timeline.specs.Steps.{queue_at, is_item, has_item, IsScript}
use Rattle.compile_timeline.specs.Waits.{latest, last_item, waits, waits_for}
use Rattle.compile_timeline.specs.declared.step.Step.{Step}
use Rattle.compile_timeline.specs.declared.step.Step.TheVariants.{Item, Need}

-- THE PARTS OF ONE STEP

abbrev wait_at : List Step → ℕ → ℕ → ℕ → ℕ → List Part
wait_at script count q i p = when (waits script q i p) (Waits (wait_for script count q i p))

abbrev after_waits : List Step → ℕ → ℕ → ℕ → programs.Item → List Part
after_waits script count q i item = Does item ∷ when (has_signal script count q i) (Signals (signal_after script count i))

pub item_parts_at : (script : List Step) (count q i : ℕ) (item : programs.Item) → slice_get script i ≡ Some (Item q item) → parts_at script count q i ≡ waits_at script count q i ++ after_waits script count q i item
item_parts_at script count q i item e = ap (λ o. option_map_or (step_parts script count q i) o []) e ∙ ap (λ z. if z then waits_at script count q i ++ after_waits script count q i item else []) (eq-eqb q q refl)

-- a step that is no item of the queue has none
pub no_parts : (script : List Step) (count q i : ℕ) → has_item script q i ≡ false → parts_at script count q i ≡ []
no_parts script count q i h = go (slice_get script i) refl
  where
    go : (o : Option Step) → slice_get script i ≡ o → parts_at script count q i ≡ []
    go None e = ap (λ o. option_map_or (step_parts script count q i) o []) e
    go (Some (Need r j)) e = ap (λ o. option_map_or (step_parts script count q i) o []) e
    go (Some (Item r item)) e = ap (λ o. option_map_or (step_parts script count q i) o []) e ∙ ap (λ z. if z then waits_at script count q i ++ after_waits script count q i item else []) (sym (ap (λ o. option_map_or (is_item q) o false) e) ∙ h)

in_when : {X : Type 0} (test : Bool) (x y : X) (k : ℕ) → slice_get (when test x) k ≡ Some y → (test ≡ true) × (k ≡ 0) × (y ≡ x)
in_when false x y k e = absurd cc
in_when true x y zero e = (refl, refl, cc)
in_when true x y (suc k) e = absurd cc

-- NUMBERS OF PARTS

-- part j of step i of queue q has its number
numbered_there : (script : List Step) (count q i j : ℕ) (part : Part) → q < count → i < length script → slice_get (parts_at script count q i) j ≡ Some part → slice_get (places script count) (number script count q i j) ≡ Some (place q i part)
numbered_there script count q i j part lq li e =
    there_below (queue_places script count) count q (length (all_below (step_places script count q) i) + j) (place q i part) lq
    (there_below (step_places script count q) (length script) i j (place q i part) li (slice_get-map (place q i) (parts_at script count q i) j ∙ ap (option_map (place q i)) e))

record IsPart (script : List Step) (count n : ℕ) (at : Place) : Type 0 where
  inside : ℕ
  queue : at.queue < count
  there : slice_get (parts_at script count at.queue at.step) inside ≡ Some at.part
  is : n ≡ number script count at.queue at.step inside

is_part : (script : List Step) (count n : ℕ) (at : Place) → slice_get (places script count) n ≡ Some at → IsPart script count n at
is_part script count n at e =
    let A = in_below (queue_places script count) count n at e in
    let B = in_below (step_places script count A.entry) (length script) A.inside at A.there in
    let C = in_map (place A.entry B.entry) (parts_at script count A.entry B.entry) B.inside at B.there in
    let known = A.known in
    let same : n ≡ number script count A.entry B.entry B.inside = A.is ∙ ap (λ z. length (all_below (queue_places script count) A.entry) + z) B.is in
    of A.entry B.entry B.inside C.from known C.there same C.is
  where
    of : (q i j : ℕ) (part : Part) → q < count → slice_get (parts_at script count q i) j ≡ Some part → n ≡ number script count q i j → at ≡ place q i part → IsPart script count n at
    of q i j part lq there is same = subst (λ z. IsPart script count n z) (sym same) (record { inside = j; queue = lq; there = there; is = is })

sorted : (script : List Step) (count n : ℕ) (at : Place) (j : ℕ) (item : programs.Item) → slice_get script at.step ≡ Some (Item at.queue item) → n ≡ number script count at.queue at.step j → InTwo (waits_at script count at.queue at.step) (after_waits script count at.queue at.step item) j at.part → Stands script count n at
sorted script count n at j item e is (in_left h) = go (in_below (wait_at script count at.queue at.step) count j at.part h)
  where
    go : InBelow (wait_at script count at.queue at.step) count j at.part → Stands script count n at
    go B =
        let W = in_when (waits script at.queue at.step B.entry) (Waits (wait_for script count at.queue at.step B.entry)) at.part B.inside B.there in
        let zero_in = W.1 in
        let b = B.is in
        let here : j ≡ length (all_below (wait_at script count at.queue at.step) B.entry) = omega (arith, b, zero_in) in
        a_wait B.entry B.known W.0 W.2 (is ∙ ap (number script count at.queue at.step) here)
sorted script count n at j item e is (in_right zero seam h) = an_item item e (cc) (is ∙ ap (number script count at.queue at.step) (let z : j ≡ length (waits_at script count at.queue at.step) = omega (arith, seam) in z))
sorted script count n at j item e is (in_right (suc k) seam h) =
    let W = in_when (has_signal script count at.queue at.step) (Signals (signal_after script count at.step)) at.part k h in
    let zero_in = W.1 in
    a_signal W.0 W.2 (let z : n ≡ signal_number script count at.queue at.step = omega (arith, seam, zero_in, is) in z)

pub are_numbered : (script : List Step) (count : ℕ) → AreNumbered script count
are_numbered script count n at e = go (cases_Bool (has_item script at.queue at.step))
  where
    P : IsPart script count n at
    P = is_part script count n at e

    go : (has_item script at.queue at.step ≡ true) ⊎ (has_item script at.queue at.step ≡ false) → IsNumbered script count n at
    go (inr h) = absurd (none (sym (ap (λ ps. slice_get ps P.inside) (no_parts script count at.queue at.step h)) ∙ P.there))
      where
        none : slice_get {X = Part} [] P.inside ≡ Some at.part → ⊥
        none z = cc
    go (inl h) =
        let T = item_there script at.queue at.step h in
        record {
          queue = P.queue;
          step = h;
          stands = sorted script count n at P.inside T.0 T.1 P.is (in_two (waits_at script count at.queue at.step) (after_waits script count at.queue at.step T.0) P.inside at.part (sym (ap (λ ps. slice_get ps P.inside) (item_parts_at script count at.queue at.step T.0 T.1)) ∙ P.there));
        }

-- WHERE PARTS ARE

plain : (n : ℕ) → n ≡ n + 0
plain n = omega arith

at_parts : (script : List Step) (count q i j : ℕ) (item : programs.Item) (part : Part) → q < count → slice_get script i ≡ Some (Item q item) → slice_get (waits_at script count q i ++ after_waits script count q i item) j ≡ Some part → slice_get (places script count) (number script count q i j) ≡ Some (place q i part)
at_parts script count q i j item part lq e h = numbered_there script count q i j part lq (slice_get_within script i (Item q item) e) (ap (λ ps. slice_get ps j) (item_parts_at script count q i item e) ∙ h)

wait_there : (script : List Step) (count q i p : ℕ) → q < count → p < count → has_item script q i ≡ true → waits script q i p ≡ true → slice_get (places script count) (wait_number script count q i p) ≡ Some (place q i (Waits (wait_for script count q i p)))
wait_there script count q i p lq lp h w =
    let T = item_there script q i h in
    let one : slice_get (wait_at script count q i p) 0 ≡ Some (Waits (wait_for script count q i p)) = ap (λ b. slice_get (when b (Waits (wait_for script count q i p))) 0) w in
    let two : slice_get (waits_at script count q i) (length (all_below (wait_at script count q i) p) + 0) ≡ Some (Waits (wait_for script count q i p)) = there_below (wait_at script count q i) count p 0 (Waits (wait_for script count q i p)) lp one in
    let three : slice_get (waits_at script count q i) (length (all_below (wait_at script count q i) p)) ≡ Some (Waits (wait_for script count q i p)) = ap (slice_get (waits_at script count q i)) (plain (length (all_below (wait_at script count q i) p))) ∙ two in
    at_parts script count q i (length (all_below (wait_at script count q i) p)) T.0 (Waits (wait_for script count q i p)) lq T.1 (got_front (waits_at script count q i) (after_waits script count q i T.0) (length (all_below (wait_at script count q i) p)) (Waits (wait_for script count q i p)) three)

item_at : (script : List Step) (count q i : ℕ) (item : programs.Item) → q < count → slice_get script i ≡ Some (Item q item) → slice_get (places script count) (item_number script count q i) ≡ Some (place q i (Does item))
item_at script count q i item lq e = at_parts script count q i (length (waits_at script count q i)) item (Does item) lq e (ap (slice_get (waits_at script count q i ++ after_waits script count q i item)) (plain (length (waits_at script count q i))) ∙ got_back (waits_at script count q i) (after_waits script count q i item) 0)

signal_there : (script : List Step) (count q i : ℕ) → q < count → has_signal script count q i ≡ true → slice_get (places script count) (signal_number script count q i) ≡ Some (place q i (Signals (signal_after script count i)))
signal_there script count q i lq s =
    let h = (and_parts (has_item script q i) (is_awaited script count i || is_last script i) s).0 in
    let T = item_there script q i h in
    let one : slice_get (after_waits script count q i T.0) 1 ≡ Some (Signals (signal_after script count i)) = ap (λ b. slice_get (Does T.0 ∷ when b (Signals (signal_after script count i))) 1) s in
    ap (slice_get (places script count)) next
    ∙ at_parts script count q i (length (waits_at script count q i) + 1) T.0 (Signals (signal_after script count i)) lq T.1 (got_back (waits_at script count q i) (after_waits script count q i T.0) 1 ∙ one)
  where
    next : signal_number script count q i ≡ number script count q i (length (waits_at script count q i) + 1)
    next = omega arith

pub all_there : (script : List Step) (count : ℕ) → AllThere script count
all_there script count = record {
  wait = λ q i p lq lp h w. wait_there script count q i p lq lp h w;
  item = λ q i item lq e. item_at script count q i item lq e;
  signal = λ q i lq s. signal_there script count q i lq s;
}

-- ORDER

steps_order : (script : List Step) (count m n : ℕ) (x y : Place) → IsPart script count m x → IsPart script count n y → x.queue ≡ y.queue → x.step < y.step → m < n
steps_order script count m n x y P Q same lt =
    let f = step_places script count y.queue in
    let b = begins_before f x.step y.step lt in
    let size : length (f x.step) ≡ length (parts_at script count y.queue x.step) = length-map (parts_at script count y.queue x.step) (place y.queue x.step) in
    let fits : P.inside < length (parts_at script count y.queue x.step) = subst (λ q. P.inside < length (parts_at script count q x.step)) same (slice_get_within (parts_at script count x.queue x.step) P.inside x.part P.there) in
    let mp : m ≡ number script count y.queue x.step P.inside = P.is ∙ ap (λ q. number script count q x.step P.inside) same in
    let nq = Q.is in
    omega (arith, b, size, fits, mp, nq)

wait_before : (script : List Step) (count q i p r : ℕ) → p < r → waits script q i p ≡ true → length (all_below (wait_at script count q i) p) < length (all_below (wait_at script count q i) r)
wait_before script count q i p r lt w =
    let b = begins_before (wait_at script count q i) p r lt in
    let one : length (wait_at script count q i p) ≡ 1 = ap (λ z. length (when z (Waits (wait_for script count q i p)))) w in
    omega (arith, b, one)

pub in_order : (script : List Step) (count : ℕ) → InOrder script count
in_order script count = record {
  steps = λ m n x y ex ey same lt. steps_order script count m n x y (is_part script count m x ex) (is_part script count n y ey) same lt;
  wait = λ q i p lp w. let b = wait_before script count q i p count lp w in omega (arith, b);
  waits = λ q i p r lt w. let b = wait_before script count q i p r lt w in omega (arith, b);
}

-- WAITS

more_of : (a b : ℕ) → nat_lt a b ≡ true → a < b
more_of a b e = grind arith

is_for : (script : List Step) (count q i p : ℕ) → IsScript script count → q < count → p < count → has_item script q i ≡ true → waits script q i p ≡ true → (s : ℕ) → latest script q p i ≡ suc s → IsFor script count q i p
is_for script count q i p K lq lp h w s e =
    let A = latest_from script q p s i e in
    let b = A.below in
    let c = K.earlier A.place q s A.need in
    let here : has_item script p s ≡ true = subst (λ z. has_item script z s ≡ true) A.queue (K.needed A.place q s A.need) in
    let one : waits_for script s q i p ≡ true = and_from (waits script q i p) (latest script q p i == suc s) w (eq-eqb (latest script q p i) (suc s) e) in
    let two : (has_item script q i && any_below (waits_for script s q i) count) ≡ true = and_from (has_item script q i) (any_below (waits_for script s q i) count) h (any_there (waits_for script s q i) count p lp one) in
    let three : awaited_by script count s q (length script) ≡ true = any_there (λ k. has_item script q k && any_below (waits_for script s q k) count) (length script) i (item_within script q i h) two in
    let four : is_awaited script count s ≡ true = any_there (λ r. awaited_by script count s r (length script)) count q lq three in
    record {
      step = s;
      latest = e;
      earlier = omega (arith, b, c);
      item = here;
      signal = and_from (has_item script p s) (is_awaited script count s || is_last script s) here (or_left (is_awaited script count s) (is_last script s) four);
      place = A.place;
      below = A.below;
      need = A.need;
    }

pub are_for : (script : List Step) (count : ℕ) → IsScript script count → AreFor script count
are_for script count K q i p lq lp h w = go (latest script q p i) refl
  where
    go : (n : ℕ) → latest script q p i ≡ n → IsFor script count q i p
    go zero e = let m = more_of (latest script q p (last_item script q i)) (latest script q p i) w in absurd (no m e)
      where
        no : latest script q p (last_item script q i) < latest script q p i → latest script q p i ≡ 0 → ⊥
        no a z = omega (arith, a, z)
    go (suc s) e = is_for script count q i p K lq lp h w s e

pub are_met : (script : List Step) → AreMet script
are_met script i q j k e lt h =
    let N = risen script q (queue_at script j) j (suc k) k (omega arith) h (latest_need script q (queue_at script j) j i k e refl lt) in
    let r = N.reaches in
    record { item = N.item; low = N.low; has = N.has; waits = N.new; reaches = omega (arith, r) }

pub ends : (script : List Step) (count : ℕ) → Ends script count
ends script count q i h last = and_from (has_item script q i) (is_awaited script count i || is_last script i) h (or_right (is_awaited script count i) (is_last script i) (go (last_cases script q (length script))))
  where
    w : i < length script
    w = item_within script q i h

    reach : suc i ≤ last_item script q (length script)
    reach = last_after script q i (length script) w h

    go : (last_item script q (length script) ≡ 0) ⊎ LastAt script q (length script) → is_last script i ≡ true
    go (inl z) = absurd (no z)
      where
        no : last_item script q (length script) ≡ 0 → ⊥
        no e = let r = reach in omega (arith, e, r)
    go (inr A) = same (side i A.item)
      where
        same : (i < A.item) ⊎ (A.item ≤ i) → is_last script i ≡ true
        same (inl lt) = absurd (false≢true (sym (last A.item lt) ∙ A.has))
        same (inr le) =
            let r = reach in
            let a = A.is in
            let e : last_item script q (length script) ≡ suc i = omega (arith, r, a, le) in
            eq-eqb (last_item script (queue_at script i) (length script)) (suc i) (ap (λ z. last_item script z (length script)) (item_queue script q i h) ∙ e)

-- VALUES

value_on : (script : List Step) (count q i : ℕ) → has_item script q i ≡ true → value_at script count i ≡ count_below (has_signal script count q) (suc i)
value_on script count q i h = ap (λ z. count_below (has_signal script count z) (suc i)) (item_queue script q i h)

counted_here : (script : List Step) (count q i : ℕ) → has_signal script count q i ≡ true → value_at script count i ≡ suc (count_below (has_signal script count q) i)
counted_here script count q i s = value_on script count q i (and_parts (has_item script q i) (is_awaited script count i || is_last script i) s).0 ∙ ap (λ z. if z then suc (count_below (has_signal script count q) i) else count_below (has_signal script count q) i) s

pub are_rising : (script : List Step) (count : ℕ) → AreRising script count
are_rising script count = record {
  positive = λ q i s. let e = counted_here script count q i s in omega (arith, e);
  rising = λ q i j h s lt. let e = counted_here script count q j s in let f = value_on script count q i h in let u = count_up (has_signal script count q) (suc i) j (omega (arith, lt)) in omega (arith, e, f, u);
}
