-- The signals of a program that is cut from steps count 1, 2, 3, and stand after nodes that are waited for, or last.
use Rattle.std.proofs.Common.{◌≡◌, ◌≢◌, ◌⊎◌, inl, inr, ⊎_elim, ℕ, zero, suc, ◌<◌, ◌≤◌, ◌==◌, ◌&&◌, ◌||◌, if◌then◌else◌, Bool, true, false, List, [], ◌∷◌, ◌++◌, length, map, Option, Some, None, refl, sym, ap, ap₂, ◌∙◌, subst, eq-eqb, eqb-true, arith}
use Rattle.std.specs.List.{flat_map, range_with_len}
use Rattle.std.specs.Option.{option_map_or}
use Rattle.std.specs.Prelude.{slice_get}
use Rattle.std.proofs.lemmas.Bool.{cases_Bool, cases_lt, and_from, and_parts, false≢true, or_right, ne_eqb}
use Rattle.std.proofs.lemmas.List.{append-nil}
use Rattle.std.proofs.lemmas.List.FromFn.{length-range_with_len}
use Rattle.base.proofs.Lists.{range_more}
use Rattle.compile_timeline.proofs.Below.{same_below}
use Rattle.compile_timeline.proofs.Latest.{item_there, item_within, item_queue, LastAt, last_cases, last_after}
use Rattle.compile_timeline.specs.Below.{all_below, any_below, count_below}
use Rattle.compile_timeline.specs.Laws.{Stands, a_wait, an_item, a_signal, AreNumbered, AllThere, InOrder, AreFor}
use Rattle.compile_timeline.specs.Parts.{Part, Waits, Does, Signals, when, wait_for, signal_after, parts_at}
use Rattle.compile_timeline.specs.Places.{Place, places, part_entry, entry_of, wait_number, item_number, signal_number}
use Rattle.compile_timeline.specs.Signals.{awaited_by, is_awaited, is_last, has_signal, value_at}
use Rattle.compile_timeline.specs.Steps.{queue_at, is_item, has_item}
use Rattle.compile_timeline.specs.Waits.{latest, last_item, waits, waits_for}
use Rattle.compile_timeline.specs.declared.step.Step.{Step}
use Rattle.compile_timeline.specs.declared.step.Step.TheVariants as steps
use Rattle.law_record.proofs.Counted.{of_queue, of_none, of_item, of_need, of_foreign, of_nothing}
use Rattle.law_record.proofs.Nodes.{SignalNode, Stood, signal_has, signal_of, node_of, wait_node, item_node, signal_node, signal_stood, stood_sooner}
use Rattle.law_record.proofs.Rising.{wait_value}
use Rattle.law_record.specs.Signalled.{value_of, values_on, IsWaitedFor, IsLast, IsDue, EndsWithSignal, SignalsCount}
use Rattle.program.specs.Entries.{Entry, OfHost, OfSignal, entries_of, queue_of}
use Rattle.program.specs.declared.program.Program.{Program}
use Rattle.program.specs.declared.program.Signal.{Signal}

-- one of the numbers below is so
any_from : (test : ℕ → Bool) (n : ℕ) → any_below test n ≡ true → (k : ℕ) × (k < n) × (test k ≡ true)
any_from test zero e = absurd (false≢true e)
any_from test (suc n) e = go (cases_Bool (test n)) (any_from test n)
  where
    go : (test n ≡ true) ⊎ (test n ≡ false) → (any_below test n ≡ true → (k : ℕ) × (k < n) × (test k ≡ true)) → (k : ℕ) × (k < suc n) × (test k ≡ true)
    go (inl t) ih = (n, omega arith, t)
    go (inr f) ih = let r = ih (sym (ap (λ b. b || any_below test n) f) ∙ e) in (r.0, (let l = r.1 in omega (arith, l)), r.2)

-- VALUES

abbrev signal_value : Part → List ℕ
signal_value (Waits wait) = []
signal_value (Does item) = []
signal_value (Signals signal) = signal.value ∷ []

module _ (q : ℕ) where
  own : (r : ℕ) (part : Part) → r ≡ q → value_of q (part_entry r part) ≡ signal_value part
  own r (Waits wait) same = refl
  own r (Does item) same = refl
  own r (Signals signal) same = ap (λ b. if b then signal.value ∷ [] else []) (eq-eqb r q same)

  other : (r : ℕ) (part : Part) → r ≢ q → value_of q (part_entry r part) ≡ []
  other r (Waits wait) differ = refl
  other r (Does item) differ = refl
  other r (Signals signal) differ = ap (λ b. if b then signal.value ∷ [] else []) (ne_eqb r q differ)

  host : (piece : ℕ) → value_of q (OfHost piece) ≡ []
  host piece = refl

module _ (script : List Step) (count q : ℕ) where
  when_signal : (b : Bool) (i : ℕ) → flat_map signal_value (when b (Signals (signal_after script count i))) ≡ when b (value_at script count i)
  when_signal true i = refl
  when_signal false i = refl

  no_signal : (i : ℕ) → has_item script q i ≡ false → when (has_signal script count q i) (value_at script count i) ≡ []
  no_signal i e = ap (λ b. when (b && (is_awaited script count i || is_last script i)) (value_at script count i)) e

  step_values : (i : ℕ) → flat_map signal_value (parts_at script count q i) ≡ when (has_signal script count q i) (value_at script count i)
  step_values i = go (slice_get script i) refl
    where
      go : (o : Option Step) → slice_get script i ≡ o → flat_map signal_value (parts_at script count q i) ≡ when (has_signal script count q i) (value_at script count i)
      go None e = of_nothing signal_value script count q i (λ p. refl) e ∙ sym (no_signal i (ap (λ o. option_map_or (is_item q) o false) e))
      go (Some (steps.Need r j)) e = of_need signal_value script count q i (λ p. refl) r j e ∙ sym (no_signal i (ap (λ o. option_map_or (is_item q) o false) e))
      go (Some (steps.Item r item)) e = by (cases_Bool (r == q))
        where
          by : ((r == q) ≡ true) ⊎ ((r == q) ≡ false) → flat_map signal_value (parts_at script count q i) ≡ when (has_signal script count q i) (value_at script count i)
          by (inl t) = of_item signal_value script count q i (λ p. refl) item (e ∙ ap (λ z. Some (steps.Item z item)) (eqb-true r q t)) ∙ when_signal (has_signal script count q i) i
          by (inr f) = of_foreign signal_value script count q i (λ p. refl) r item f e ∙ sym (no_signal i (ap (λ o. option_map_or (is_item q) o false) e ∙ f))

  -- the values up to a step
  counting : (n : ℕ) → all_below (λ i. when (has_signal script count q i) (value_at script count i)) n ≡ range_with_len 1 (count_below (has_signal script count q) n)
  counting zero = refl
  counting (suc n) = go (cases_Bool (has_signal script count q n)) (counting n)
    where
      before : List ℕ
      before = all_below (λ i. when (has_signal script count q i) (value_at script count i)) n

      m : ℕ
      m = count_below (has_signal script count q) n

      go : (has_signal script count q n ≡ true) ⊎ (has_signal script count q n ≡ false) → before ≡ range_with_len 1 (count_below (has_signal script count q) n) → before ++ when (has_signal script count q n) (value_at script count n) ≡ range_with_len 1 (count_below (has_signal script count q) (suc n))
      go (inl t) ih =
          let one : count_below (has_signal script count q) (suc n) ≡ suc (count_below (has_signal script count q) n) = ap (λ b. if b then suc (count_below (has_signal script count q) n) else count_below (has_signal script count q) n) t in
          let queue : queue_at script n ≡ q = item_queue script q n (signal_has script count q n t) in
          let value : value_at script count n ≡ suc (count_below (has_signal script count q) n) = ap (λ r. count_below (has_signal script count r) (suc n)) queue ∙ one in
          ap (λ b. before ++ when b (value_at script count n)) t
          ∙ ap₂ (λ xs v. xs ++ v ∷ []) ih value
          ∙ sym (range_more 1 (count_below (has_signal script count q) n) (suc (count_below (has_signal script count q) n)) (omega arith))
          ∙ sym (ap (range_with_len 1) one)
      go (inr f) ih =
          ap (λ b. before ++ when b (value_at script count n)) f ∙ append-nil before ∙ ih
          ∙ sym (ap (λ b. range_with_len 1 (if b then suc (count_below (has_signal script count q) n) else count_below (has_signal script count q) n)) f)

-- ALL OF A PROGRAM

counts : (xs : List ℕ) (m : ℕ) → xs ≡ range_with_len 1 m → xs ≡ range_with_len 1 (length xs)
counts xs m e = e ∙ sym (ap (range_with_len 1) (ap length e ∙ length-range_with_len 1 m))

module _ (program : Program) (script : List Step) (count : ℕ) (E : entries_of program ≡ map entry_of (places script count) ++ map OfHost program.readbacks) (numbered : AreNumbered script count) (there : AllThere script count) (order : InOrder script count) (for : AreFor script count) where
  counted : (q : ℕ) → values_on program q ≡ range_with_len 1 (length (values_on program q))
  counted q = ⊎_elim
      (λ lt. counts (values_on program q) (count_below (has_signal script count q) (length script))
      (of_queue q (value_of q) signal_value (own q) (other q) (host q) script count program E lt
      ∙ same_below (λ i. flat_map signal_value (parts_at script count q i)) (λ i. when (has_signal script count q i) (value_at script count i)) (length script) (λ i low. step_values script count q i)
      ∙ counting script count q (length script)))
      (λ ge. counts (values_on program q) 0 (of_none q (value_of q) signal_value (own q) (other q) (host q) script count program E ge))
      (cases_lt q count)

  -- THE LAST

  -- what stands round an item stands up to its signal
  up_to : (m n q j : ℕ) → Stood program script count m q j → has_signal script count q j ≡ true → n ≡ signal_number script count q j → m ≤ n
  up_to m n q j S has is = go S.at S.queue S.step (numbered m S.at S.there).stands
    where
      go : (at : Place) → at.queue ≡ q → at.step ≡ j → Stands script count m at → m ≤ n
      go at queue step (a_wait p low w part number) =
          let own-number : m ≡ wait_number script count q j p = number ∙ ap (λ z. wait_number script count z at.step p) queue ∙ ap (λ z. wait_number script count q z p) step in
          let wants : waits script q j p ≡ true = subst (λ z. waits script q z p ≡ true) step (subst (λ z. waits script z at.step p ≡ true) queue w) in
          let less = order.wait q j p low wants in
          omega (arith, own-number, less, is)
      go at queue step (an_item item e part number) =
          let own-number : m ≡ item_number script count q j = number ∙ ap (λ z. item_number script count z at.step) queue ∙ ap (λ z. item_number script count q z) step in
          omega (arith, own-number, is)
      go at queue step (a_signal s part number) =
          let own-number : m ≡ signal_number script count q j = number ∙ ap (λ z. signal_number script count z at.step) queue ∙ ap (λ z. signal_number script count q z) step in
          omega (arith, own-number, is)

  last_is : (n q j : ℕ) → q < count → has_signal script count q j ≡ true → last_item script q (length script) ≡ suc j → n ≡ signal_number script count q j → IsLast program q n
  last_is n q j lq has end is m entry e of_queue = go (node_of program script count E numbered m q entry e of_queue)
    where
      go : (i : ℕ) × Stood program script count m q i × (q < count) × (has_item script q i ≡ true) → m ≤ n
      go (i, S, known, item) =
          let late = last_after script q i (length script) (item_within script q i item) item in
          ⊎_elim
          (λ lt. let less = stood_sooner program script count order m (signal_number script count q j) q i j S (signal_stood program script count there q j lq has) lt in omega (arith, less, is))
          (λ ge. let same : i ≡ j = omega (arith, ge, late, end) in up_to m n q j (subst (λ z. Stood program script count m q z) same S) has is)
          (cases_lt i j)

  -- EACH SIGNAL

  waited : (q j : ℕ) (signal : Signal) → has_item script q j ≡ true → signal.value ≡ value_at script count j → is_awaited script count j ≡ true → IsWaitedFor program q signal.value
  waited q j signal item value e = go (any_from (λ r. awaited_by script count j r (length script)) count e)
    where
      go : (r : ℕ) × (r < count) × (awaited_by script count j r (length script) ≡ true) → IsWaitedFor program q signal.value
      go (r, lr, h) = at (any_from (λ k. has_item script r k && any_below (waits_for script j r k) count) (length script) h)
        where
          at : (k : ℕ) × (k < length script) × ((has_item script r k && any_below (waits_for script j r k) count) ≡ true) → IsWaitedFor program q signal.value
          at (k, low, g) = by (any_from (waits_for script j r k) count both.1)
            where
              both : (has_item script r k ≡ true) × (any_below (waits_for script j r k) count ≡ true)
              both = and_parts (has_item script r k) (any_below (waits_for script j r k) count) g

              by : (p : ℕ) × (p < count) × (waits_for script j r k p ≡ true) → IsWaitedFor program q signal.value
              by (p, lp, w) =
                  let parts = and_parts (waits script r k p) (latest script r p k == suc j) w in
                  let is : latest script r p k ≡ suc j = eqb-true (latest script r p k) (suc j) parts.1 in
                  let F = for r k p lr lp both.0 parts.0 in
                  let step : F.step ≡ j = let l = F.latest in omega (arith, l, is) in
                  let queue : p ≡ q = sym (item_queue script p F.step F.item) ∙ ap (queue_at script) step ∙ item_queue script q j item in
                  record {
                    place = wait_number script count r k p;
                    queue = r;
                    wait = wait_for script count r k p;
                    there = wait_node program script count E there r k p lr lp both.0 parts.0;
                    for = queue;
                    is = wait_value script count r k p j is ∙ sym value;
                  }

  due : (n q : ℕ) (signal : Signal) → slice_get (entries_of program) n ≡ Some (OfSignal q signal) → IsDue program n q signal
  due n q signal e = go (signal_of program script count E numbered n q signal e)
    where
      go : SignalNode program script count n q signal → IsDue program n q signal
      go S =
          let item = signal_has script count q S.step S.has in
          let T = item_there script q S.step item in
          let number = S.number in
          let value : signal.value ≡ value_at script count S.step = ap (λ (s : Signal). s.value) S.is in
          record {
            before = item_number script count q S.step;
            right = omega (arith, number);
            item = T.0;
            there = item_node program script count E there q S.step T.0 S.known T.1;
            due = choose item value (cases_Bool (is_awaited script count S.step));
            stages = ap (λ (s : Signal). s.stages.0) S.is;
          }
        where
          end : is_last script S.step ≡ true → last_item script q (length script) ≡ suc S.step
          end t = ap (λ r. last_item script r (length script)) (sym (item_queue script q S.step (signal_has script count q S.step S.has))) ∙ eqb-true (last_item script (queue_at script S.step) (length script)) (suc S.step) t

          choose : has_item script q S.step ≡ true → signal.value ≡ value_at script count S.step → (is_awaited script count S.step ≡ true) ⊎ (is_awaited script count S.step ≡ false) → IsWaitedFor program q signal.value ⊎ IsLast program q n
          choose item value (inl t) = inl (waited q S.step signal item value t)
          choose item value (inr f) = inr (last_is n q S.step S.known S.has (end (sym (ap (λ b. b || is_last script S.step) f) ∙ (and_parts (has_item script q S.step) (is_awaited script count S.step || is_last script S.step) S.has).1)) S.number)

  ends : (n q : ℕ) (entry : Entry) → slice_get (entries_of program) n ≡ Some entry → queue_of entry ≡ Some q → EndsWithSignal program q
  ends n q entry e of_queue = go (node_of program script count E numbered n q entry e of_queue)
    where
      go : (i : ℕ) × Stood program script count n q i × (q < count) × (has_item script q i ≡ true) → EndsWithSignal program q
      go (i, S, known, item) = at (last_cases script q (length script))
        where
          at : (last_item script q (length script) ≡ 0) ⊎ LastAt script q (length script) → EndsWithSignal program q
          at (inl z) = absurd (let l = last_after script q i (length script) (item_within script q i item) item in omega (arith, l, z))
          at (inr A) =
              let is : is_last script A.item ≡ true = ap (λ r. last_item script r (length script) == suc A.item) (item_queue script q A.item A.has) ∙ eq-eqb (last_item script q (length script)) (suc A.item) A.is in
              let has : has_signal script count q A.item ≡ true = and_from (has_item script q A.item) (is_awaited script count A.item || is_last script A.item) A.has (or_right (is_awaited script count A.item) (is_last script A.item) is) in
              record {
                place = signal_number script count q A.item;
                signal = signal_after script count A.item;
                there = signal_node program script count E there q A.item known has;
                last = last_is (signal_number script count q A.item) q A.item known has A.is refl;
              }

  pub signals_count : SignalsCount program
  signals_count = record { counted = counted; due = due; ends = ends }
