-- The nodes of a program that is cut from steps: waits, items and signals with their steps.
use Rattle.std.proofs.Common.{◌≡◌, ⊎_elim, ℕ, ◌-◌, ◌<◌, List, ◌++◌, length, map, true, Some, refl, sym, ap, ◌∙◌, subst, arith}
use Rattle.std.specs.Option.{option_map}
use Rattle.std.specs.Prelude.{slice_get}
use Rattle.std.proofs.lemmas.Bool.{and_parts}
use Rattle.std.proofs.lemmas.Option.{slice_get-map}
use Rattle.compile_record.proofs.Entries.{entry_append, entry_left, entry_map}
use Rattle.compile_timeline.proofs.Latest.{item_there}
use Rattle.compile_timeline.specs.Laws.{Stands, a_wait, an_item, a_signal, AreNumbered, AllThere, InOrder}
use Rattle.compile_timeline.specs.Parts.{Part, Waits, Does, Signals, wait_for, signal_after}
use Rattle.compile_timeline.specs.Places.{Place, place, places, part_entry, entry_of, wait_number, item_number, signal_number}
use Rattle.compile_timeline.specs.Signals.{has_signal}
use Rattle.compile_timeline.specs.Steps.{has_item}
use Rattle.compile_timeline.specs.Waits.{waits}
use Rattle.compile_timeline.specs.declared.step.Step.{Step}
use Rattle.compile_timeline.specs.declared.step.Step.TheVariants as steps
use Rattle.program.specs.Entries.{Entry, OfWait, OfItem, OfSignal, OfHost, entries_of, queue_of}
use Rattle.program.specs.declared.program.Item.{Item}
use Rattle.program.specs.declared.program.Program.{Program}
use Rattle.program.specs.declared.program.Signal.{Signal}
use Rattle.program.specs.declared.program.WaitFor.{WaitFor}

-- a signal stands after an item
pub signal_has : (script : List Step) (count q i : ℕ) → has_signal script count q i ≡ true → has_item script q i ≡ true
signal_has script count q i h = (and_parts (has_item script q i) _ h).0

module _ (program : Program) (script : List Step) (count : ℕ) where
  pub record WaitNode (n q : ℕ) (wait : WaitFor) : Type 0 where
    pub step : ℕ
    pub other : ℕ
    pub known : q < count
    pub other_known : other < count
    pub item : has_item script q step ≡ true
    pub waits : waits script q step other ≡ true
    pub is : wait ≡ wait_for script count q step other
    pub number : n ≡ wait_number script count q step other

  pub record ItemNode (n q : ℕ) (item : Item) : Type 0 where
    pub step : ℕ
    pub known : q < count
    pub there : slice_get script step ≡ Some (steps.Item q item)
    pub number : n ≡ item_number script count q step

  pub record SignalNode (n q : ℕ) (signal : Signal) : Type 0 where
    pub step : ℕ
    pub known : q < count
    pub has : has_signal script count q step ≡ true
    pub is : signal ≡ signal_after script count step
    pub number : n ≡ signal_number script count q step

  -- node n is of an item of queue q, or stands round it
  pub record Stood (n q i : ℕ) : Type 0 where
    pub at : Place
    pub there : slice_get (places script count) n ≡ Some at
    pub queue : at.queue ≡ q
    pub step : at.step ≡ i

  module _ (E : entries_of program ≡ map entry_of (places script count) ++ map OfHost program.readbacks) where
    pub node_at : (n : ℕ) (at : Place) → slice_get (places script count) n ≡ Some at → slice_get (entries_of program) n ≡ Some (entry_of at)
    node_at n at e = ap (λ l. slice_get l n) E ∙ entry_left (map entry_of (places script count)) (map OfHost program.readbacks) n (entry_of at) (slice_get-map entry_of (places script count) n ∙ ap (option_map entry_of) e)

    module _ (numbered : AreNumbered script count) where
      -- what no host read is, is a part
      part_at : (n : ℕ) (entry : Entry) → slice_get (entries_of program) n ≡ Some entry → ((piece : ℕ) → OfHost piece ≡ entry → ⊥) → (at : Place) × (slice_get (places script count) n ≡ Some at) × (entry_of at ≡ entry)
      part_at n entry e other = ⊎_elim
          (λ h. entry_map entry_of (places script count) n entry h.1)
          (λ h. absurd (none h.1))
          (entry_append (map entry_of (places script count)) (map OfHost program.readbacks) n entry (sym (ap (λ l. slice_get l n) E) ∙ e))
        where
          none : slice_get (map OfHost program.readbacks) (n - length (map entry_of (places script count))) ≡ Some entry → ⊥
          none h = let m = entry_map OfHost program.readbacks (n - length (map entry_of (places script count))) entry h in other m.0 m.2

      pub wait_of : (n q : ℕ) (wait : WaitFor) → slice_get (entries_of program) n ≡ Some (OfWait q wait) → WaitNode n q wait
      wait_of n q wait e = go (part_at n (OfWait q wait) e (λ piece h. absurd cc))
        where
          from : (p i : ℕ) (part : Part) → part_entry p part ≡ OfWait q wait → p < count → has_item script p i ≡ true → (at : Place) → at.queue ≡ p → at.step ≡ i → at.part ≡ part → Stands script count n at → WaitNode n q wait
          from p i part same known has at of_queue of_step of_part (a_wait r low w is number) =
              let queue : at.queue ≡ q = cc in
              let it : wait ≡ wait_for script count at.queue at.step r = cc in
              record {
                step = at.step;
                other = r;
                known = subst (λ z. z < count) (sym of_queue ∙ queue) known;
                other_known = low;
                item = subst (λ z. has_item script z at.step ≡ true) queue (subst (λ z. has_item script z at.step ≡ true) (sym of_queue) (subst (λ z. has_item script p z ≡ true) (sym of_step) has));
                waits = subst (λ z. waits script z at.step r ≡ true) queue w;
                is = it ∙ ap (λ z. wait_for script count z at.step r) queue;
                number = number ∙ ap (λ z. wait_number script count z at.step r) queue;
              }
          from p i part same known has at of_queue of_step of_part (an_item item there is number) = absurd cc
          from p i part same known has at of_queue of_step of_part (a_signal s is number) = absurd cc

          go : (at : Place) × (slice_get (places script count) n ≡ Some at) × (entry_of at ≡ OfWait q wait) → WaitNode n q wait
          go (at, there, same) = let N = numbered n at there in from at.queue at.step at.part same N.queue N.step at refl refl refl N.stands

      pub item_of : (n q : ℕ) (item : Item) → slice_get (entries_of program) n ≡ Some (OfItem q item) → ItemNode n q item
      item_of n q item e = go (part_at n (OfItem q item) e (λ piece h. absurd cc))
        where
          from : (at : Place) → part_entry at.queue at.part ≡ OfItem q item → at.queue < count → Stands script count n at → ItemNode n q item
          from at same known (a_wait r low w is number) = absurd cc
          from at same known (an_item it there is number) =
              let queue : at.queue ≡ q = cc in
              let own : it ≡ item = cc in
              record {
                step = at.step;
                known = subst (λ z. z < count) queue known;
                there = there ∙ ap (λ z. Some (steps.Item z it)) queue ∙ ap (λ z. Some (steps.Item q z)) own;
                number = number ∙ ap (λ z. item_number script count z at.step) queue;
              }
          from at same known (a_signal s is number) = absurd cc

          go : (at : Place) × (slice_get (places script count) n ≡ Some at) × (entry_of at ≡ OfItem q item) → ItemNode n q item
          go (at, there, same) = let N = numbered n at there in from at same N.queue N.stands

      pub signal_of : (n q : ℕ) (signal : Signal) → slice_get (entries_of program) n ≡ Some (OfSignal q signal) → SignalNode n q signal
      signal_of n q signal e = go (part_at n (OfSignal q signal) e (λ piece h. absurd cc))
        where
          from : (at : Place) → part_entry at.queue at.part ≡ OfSignal q signal → at.queue < count → Stands script count n at → SignalNode n q signal
          from at same known (a_wait r low w is number) = absurd cc
          from at same known (an_item it there is number) = absurd cc
          from at same known (a_signal s is number) =
              let queue : at.queue ≡ q = cc in
              record {
                step = at.step;
                known = subst (λ z. z < count) queue known;
                has = subst (λ z. has_signal script count z at.step ≡ true) queue s;
                is = cc;
                number = number ∙ ap (λ z. signal_number script count z at.step) queue;
              }

          go : (at : Place) × (slice_get (places script count) n ≡ Some at) × (entry_of at ≡ OfSignal q signal) → SignalNode n q signal
          go (at, there, same) = let N = numbered n at there in from at same N.queue N.stands

      -- each node of a queue is of an item, or stands round it
      pub node_of : (n q : ℕ) (entry : Entry) → slice_get (entries_of program) n ≡ Some entry → queue_of entry ≡ Some q → (i : ℕ) × Stood n q i × (q < count) × (has_item script q i ≡ true)
      node_of n q entry e of_queue = go (part_at n entry e (λ piece h. absurd cc))
        where
          queue_is : (p : ℕ) (part : Part) → part_entry p part ≡ entry → p ≡ q
          queue_is p (Waits w) same = cc
          queue_is p (Does item) same = cc
          queue_is p (Signals s) same = cc

          go : (at : Place) × (slice_get (places script count) n ≡ Some at) × (entry_of at ≡ entry) → (i : ℕ) × Stood n q i × (q < count) × (has_item script q i ≡ true)
          go (at, there, same) =
              let N = numbered n at there in
              let queue = queue_is at.queue at.part same in
              (at.step, (record { at = at; there = there; queue = queue; step = refl }), subst (λ z. z < count) queue N.queue, subst (λ z. has_item script z at.step ≡ true) queue N.step)

    module _ (there : AllThere script count) where
      pub wait_node : (q i p : ℕ) → q < count → p < count → has_item script q i ≡ true → waits script q i p ≡ true → slice_get (entries_of program) (wait_number script count q i p) ≡ Some (OfWait q (wait_for script count q i p))
      wait_node q i p lq lp h w = node_at (wait_number script count q i p) (place q i (Waits (wait_for script count q i p))) (there.wait q i p lq lp h w)

      pub item_node : (q i : ℕ) (item : Item) → q < count → slice_get script i ≡ Some (steps.Item q item) → slice_get (entries_of program) (item_number script count q i) ≡ Some (OfItem q item)
      item_node q i item lq e = node_at (item_number script count q i) (place q i (Does item)) (there.item q i item lq e)

      pub signal_node : (q i : ℕ) → q < count → has_signal script count q i ≡ true → slice_get (entries_of program) (signal_number script count q i) ≡ Some (OfSignal q (signal_after script count i))
      signal_node q i lq s = node_at (signal_number script count q i) (place q i (Signals (signal_after script count i))) (there.signal q i lq s)

  -- ORDER

  module _ (there : AllThere script count) where
    pub wait_stood : (q i p : ℕ) → q < count → p < count → has_item script q i ≡ true → waits script q i p ≡ true → Stood (wait_number script count q i p) q i
    wait_stood q i p lq lp h w = record { at = place q i (Waits (wait_for script count q i p)); there = there.wait q i p lq lp h w; queue = refl; step = refl }

    pub item_stood : (q i : ℕ) → q < count → has_item script q i ≡ true → Stood (item_number script count q i) q i
    item_stood q i lq h = let T = item_there script q i h in record { at = place q i (Does T.0); there = there.item q i T.0 lq T.1; queue = refl; step = refl }

    pub signal_stood : (q i : ℕ) → q < count → has_signal script count q i ≡ true → Stood (signal_number script count q i) q i
    signal_stood q i lq s = record { at = place q i (Signals (signal_after script count i)); there = there.signal q i lq s; queue = refl; step = refl }

  -- what is of an earlier step stands earlier
  pub stood_sooner : InOrder script count → (m n q i k : ℕ) → Stood m q i → Stood n q k → i < k → m < n
  stood_sooner order m n q i k A B lt =
      let a = A.step in
      let b = B.step in
      order.steps m n A.at B.at A.there B.there (A.queue ∙ sym B.queue) (omega (arith, a, b, lt))
