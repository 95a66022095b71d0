-- Each wait of a compiled program is wanted, and each that is wanted is there or made by an earlier one.
use Rattle.std.proofs.Common.{◌≡◌, ⊎_elim, ℕ, suc, ◌<◌, ◌≤◌, true, List, ◌++◌, map, Some, sym, ap, ap₂, ◌∙◌, subst, arith}
use Rattle.std.specs.Option.{option_map}
use Rattle.std.specs.Prelude.{slice_get}
use Rattle.std.proofs.lemmas.Bool.{cases_lt}
use Rattle.std.proofs.lemmas.Option.{slice_get-map}
use Rattle.compile_barriers.specs.Under.{Heap}
use Rattle.compile_groups.specs.Laws.{IsGrouped}
use Rattle.compile_groups.specs.declared.grouping.Grouping.{Grouping}
use Rattle.compile_record.proofs.Entries.{entry_map}
use Rattle.compile_record.specs.Marks.{unmarked, steps_of}
use Rattle.compile_record.specs.Script.{script}
use Rattle.compile_record.specs.Standing.{step, IsStanding}
use Rattle.compile_record.specs.declared.mark.Mark.{Mark}
use Rattle.compile_record.specs.declared.mark.Marked.{Marked}
use Rattle.compile_record.specs.declared.mark.Marked.TheVariants.{Does, Needs}
use Rattle.compile_timeline.proofs.Latest.{item_there, item_queue, latest_need, last_after}
use Rattle.compile_timeline.specs.Laws.{AreNumbered, AllThere, InOrder, IsFor, AreFor, IsMet, AreMet}
use Rattle.compile_timeline.specs.Parts.{wait_for, signal_after}
use Rattle.compile_timeline.specs.Places.{places, entry_of, wait_number, item_number, signal_number}
use Rattle.compile_timeline.specs.Signals.{has_signal}
use Rattle.compile_timeline.specs.Steps.{queue_at, has_item, IsScript}
use Rattle.compile_timeline.specs.Waits.{latest, last_item}
use Rattle.compile_timeline.specs.declared.step.Step.{Step}
use Rattle.compile_timeline.specs.declared.step.Step.TheVariants as steps
use Rattle.law_record.proofs.Befores.{step_for}
use Rattle.law_record.proofs.Needing.{node_for, has_for, stood_for}
use Rattle.law_record.proofs.Needs.{IsNeed, need_at, IsRecordedNeed, need_for}
use Rattle.law_record.proofs.Nodes.{WaitNode, Stood, wait_of, wait_node, signal_node, wait_stood, signal_stood, stood_sooner}
use Rattle.law_record.proofs.Rising.{more_of, wait_value}
use Rattle.law_record.proofs.Spotted.{item_at, rises}
use Rattle.law_record.specs.Needed.{IsForItem, IsAwaited, AreWaits}
use Rattle.law_record.specs.Reasons.{Reason, IsWanted, queue_for}
use Rattle.law_record.specs.Spots.{Spot, Sooner, spot_for}
use Rattle.law_record.specs.WantedWaits.{IsWaitWanted, for_turn, for_release, for_acquire, for_member}
use Rattle.program.specs.Entries.{OfWait, OfSignal, OfHost, entries_of}
use Rattle.program.specs.declared.program.Item.{Item}
use Rattle.program.specs.declared.program.Program.{Program}
use Rattle.program.specs.declared.program.WaitFor.{WaitFor}

no_item : (list : List Step) (i q j r : ℕ) (item : Item) → slice_get list i ≡ Some (steps.Need q j) → slice_get list i ≡ Some (steps.Item r item) → ⊥
no_item list i q j r item e f = apart (sym e ∙ f)
  where
    apart : Some (steps.Need q j) ≡ Some (steps.Item r item) → ⊥
    apart h = cc

module _ (G : Grouping) (heap : Heap) (L : IsGrouped G) (S : IsStanding G heap) (program : Program) (count : ℕ) (E : entries_of program ≡ map entry_of (places (steps_of (script G heap)) count) ++ map OfHost program.readbacks) (numbered : AreNumbered (steps_of (script G heap)) count) (there : AllThere (steps_of (script G heap)) count) (order : InOrder (steps_of (script G heap)) count) (K : IsScript (steps_of (script G heap)) count) (for : AreFor (steps_of (script G heap)) count) (met : AreMet (steps_of (script G heap))) where
  abbrev list : List Step
  list = steps_of (script G heap)

  abbrev node : Reason → ℕ
  node x = node_for G heap L S program count E numbered there order K x

  abbrev stood : (x : Reason) → IsWanted G heap x → Stood program (steps_of (script G heap)) count (item_number (steps_of (script G heap)) count (queue_for G x) (step_for G heap L x)) (queue_for G x) (step_for G heap L x)
  stood x w = stood_for G heap L S program count E numbered there order K x w

  has : (x : Reason) → IsWanted G heap x → has_item (steps_of (script G heap)) (queue_for G x) (step_for G heap L x) ≡ true
  has x w = has_for G heap L S program count E numbered there order K x w

  -- a need of the list is one of marks
  marked_need : (w q j : ℕ) → slice_get (steps_of (script G heap)) w ≡ Some (steps.Need q j) → (mark : Mark) × (slice_get (script G heap) w ≡ Some (Needs q mark)) × (step G heap mark ≡ j)
  marked_need w q j e = go (entry_map (unmarked (script G heap)) (script G heap) w (steps.Need q j) e)
    where
      queue_of : (r : ℕ) (mark : Mark) → steps.Need r (step G heap mark) ≡ steps.Need q j → (r ≡ q) × (step G heap mark ≡ j)
      queue_of r mark same = pair_of r (step G heap mark) same
        where
          pair_of : (a b : ℕ) → steps.Need a b ≡ steps.Need q j → (a ≡ q) × (b ≡ j)
          pair_of a b h = (cc, cc)

      no_does : (r : ℕ) (it : Item) → steps.Item r it ≡ steps.Need q j → ⊥
      no_does r it h = cc

      go : (m : Marked) × (slice_get (script G heap) w ≡ Some m) × (unmarked (script G heap) m ≡ steps.Need q j) → (mark : Mark) × (slice_get (script G heap) w ≡ Some (Needs q mark)) × (step G heap mark ≡ j)
      go (Does r of it, at, same) = absurd (no_does r it same)
      go (Needs r mark, at, same) = let h = queue_of r mark same in (mark, at ∙ ap (λ z. Some (Needs z mark)) h.0, h.1)

  -- EACH WAIT

  module _ (n q : ℕ) (wait : WaitFor) (A : WaitNode program (steps_of (script G heap)) count n q wait) where
    F : IsFor (steps_of (script G heap)) count q A.step A.other
    F = for q A.step A.other A.known A.other_known A.item A.waits

    -- no item of the queue stands between the need and the item
    none_between : (k : ℕ) → F.place < k → k < A.step → has_item (steps_of (script G heap)) q k ≡ true → ⊥
    none_between k low high item =
        let l = last_after list q k A.step high item in
        let a = latest_need list q A.other F.step F.place (last_item list q A.step) F.need (item_queue list A.other F.step F.item) (omega (arith, low, l)) in
        let b = more_of (latest list q A.other (last_item list q A.step)) (latest list q A.other A.step) A.waits in
        let c = F.latest in
        omega (arith, a, b, c)

    not_there : (x : Reason) → IsWanted G heap x → step_for G heap L x ≡ F.place → ⊥
    not_there x w e = let T = item_there list (queue_for G x) (step_for G heap L x) (has x w) in no_item list F.place q F.step (queue_for G x) T.0 F.need (ap (slice_get list) (sym e) ∙ T.1)

    sooner_node : (x : Reason) → IsWanted G heap x → queue_for G x ≡ q → step_for G heap L x < A.step → node x < n
    sooner_node x w queue lt =
        let a = A.number in
        let less = stood_sooner program list count order (node x) (wait_number list count q A.step A.other) q (step_for G heap L x) A.step (subst (λ p. Stood program (steps_of (script G heap)) count (node x) p (step_for G heap L x)) queue (stood x w)) (wait_stood program list count there q A.step A.other A.known A.other_known A.item A.waits) lt in
        omega (arith, a, less)

    later_node : (x : Reason) → IsWanted G heap x → queue_for G x ≡ q → A.step ≤ step_for G heap L x → n < node x
    later_node x w queue le = ⊎_elim
        (λ lt.
        let a = A.number in
        let less = stood_sooner program list count order (wait_number list count q A.step A.other) (node x) q A.step (step_for G heap L x) (wait_stood program list count there q A.step A.other A.known A.other_known A.item A.waits) (subst (λ p. Stood program (steps_of (script G heap)) count (node x) p (step_for G heap L x)) queue (stood x w)) lt in
        omega (arith, a, less))
        (λ ge.
        let same : A.step ≡ step_for G heap L x = omega (arith, le, ge) in
        let a = A.number in
        let own = order.wait q A.step A.other A.other_known A.waits in
        let z : item_number list count q A.step ≡ node x = ap₂ (λ p i. item_number (steps_of (script G heap)) count p i) (sym queue) same in
        omega (arith, a, own, z))
        (cases_lt A.step (step_for G heap L x))

    for_need : (mark : Mark) → slice_get (script G heap) F.place ≡ Some (Needs q mark) → step G heap mark ≡ F.step → IsNeed G heap L F.place q mark → IsForItem G heap program node n q wait
    for_need mark at step-is N =
        let T = N.target in
        let item-step : step_for G heap L T.item ≡ F.step = T.at ∙ step-is in
        let there-item : has_item list (queue_for G T.item) F.step ≡ true = subst (λ i. has_item (steps_of (script G heap)) (queue_for G T.item) i ≡ true) item-step (has T.item T.is) in
        let queue : A.other ≡ queue_for G T.item = sym (item_queue list A.other F.step F.item) ∙ item_queue list (queue_for G T.item) F.step there-item in
        let wait-queue : wait.queue ≡ A.other = ap (λ (w : WaitFor). w.queue) A.is in
        let same-item : item_number list count A.other F.step ≡ node T.item = ap₂ (λ p i. item_number (steps_of (script G heap)) count p i) queue (sym item-step) in
        let number : signal_number list count A.other F.step ≡ suc (node T.item) = omega (arith, same-item) in
        record {
          at = N.spot;
          item = T.item;
          wanted = T.wanted;
          is = T.is;
          queue = wait-queue ∙ queue;
          signal = signal_after list count F.step;
          signalled = ap (slice_get (entries_of program)) (sym number) ∙ signal_node program list count E there A.other F.step A.other_known F.signal ∙ ap (λ p. Some (OfSignal p (signal_after (steps_of (script G heap)) count F.step))) (sym wait-queue);
          value = ap (λ (w : WaitFor). w.value) A.is ∙ wait_value list count q A.step A.other F.step F.latest;
          stages = ap (λ (w : WaitFor). w.stages.0) A.is;
          after = λ x w own before.
              let low = rises G heap L (step_for G heap L x) F.place (spot_for G x) N.spot (item_at G heap L S x w) N.at before in
              let high = F.below in
              sooner_node x w own (omega (arith, low, high));
          before = λ x w own after.
              let low = rises G heap L F.place (step_for G heap L x) N.spot (spot_for G x) N.at (item_at G heap L S x w) after in
              later_node x w own (⊎_elim (λ lt. absurd (none_between (step_for G heap L x) low lt (subst (λ p. has_item (steps_of (script G heap)) p (step_for G heap L x) ≡ true) own (has x w)))) (λ ge. ge) (cases_lt (step_for G heap L x) A.step));
        }

    is_for : IsForItem G heap program node n q wait
    is_for = let M = marked_need F.place q F.step F.need in for_need M.0 M.1 M.2 (need_at G heap L F.place q M.0 M.1)

  each : (n q : ℕ) (wait : WaitFor) → slice_get (entries_of program) n ≡ Some (OfWait q wait) → IsForItem G heap program node n q wait
  each n q wait e = is_for n q wait (wait_of program list count E numbered n q wait e)

  -- EACH THAT IS WANTED

  module _ (q : ℕ) (at : Spot) (item x : Reason) (R : IsRecordedNeed G heap L q at item) (w : IsWanted G heap x) (own : queue_for G x ≡ q) (before : Sooner at (spot_for G x)) where
    need : slice_get (steps_of (script G heap)) R.place ≡ Some (steps.Need q (step_for G heap L item))
    need = slice_get-map (unmarked (script G heap)) (script G heap) R.place ∙ ap (option_map (unmarked (script G heap))) R.there ∙ ap (λ j. Some (steps.Need q j)) R.step_is

    low : R.place < step_for G heap L x
    low = rises G heap L R.place (step_for G heap L x) at (spot_for G x) R.at (item_at G heap L S x w) before

    here : has_item (steps_of (script G heap)) q (step_for G heap L x) ≡ true
    here = subst (λ p. has_item (steps_of (script G heap)) p (step_for G heap L x) ≡ true) own (has x w)

    M : IsMet (steps_of (script G heap)) q (step_for G heap L item) (step_for G heap L x)
    M = met R.place q (step_for G heap L item) (step_for G heap L x) need low here

    abbrev other : ℕ
    other = queue_at (steps_of (script G heap)) (step_for G heap L item)

    -- the item that is needed
    needed-item : has_item (steps_of (script G heap)) other (step_for G heap L item) ≡ true
    needed-item = K.needed R.place q (step_for G heap L item) need

    is_awaited : IsWanted G heap item → IsAwaited G program node q (node x) item
    is_awaited v =
        let known : q < count = K.items (step_for G heap L x) q here in
        let other-known : other < count = K.items (step_for G heap L item) other needed-item in
        let queue : queue_for G item ≡ other = sym (item_queue list (queue_for G item) (step_for G heap L item) (has item v)) in
        let F = for q M.item other known other-known M.has M.waits in
        let reaches = M.reaches in
        let latest-is = F.latest in
        record {
          place = wait_number list count q M.item other;
          wait = wait_for list count q M.item other;
          there = wait_node program list count E there q M.item other known other-known M.has M.waits;
          earlier = earlier known other-known;
          queue = sym queue;
          signalled = signal_number list count other F.step;
          signal = signal_after list count F.step;
          value = wait_value list count q M.item other F.step F.latest;
          stands = signal_node program list count E there other F.step other-known F.signal;
          later = later v other-known queue F.step F.signal (omega (arith, reaches, latest-is));
        }
      where
        earlier : q < count → other < count → wait_number list count q M.item other < node x
        earlier known other-known = ⊎_elim
            (λ lt. stood_sooner program list count order (wait_number list count q M.item other) (node x) q M.item (step_for G heap L x) (wait_stood program list count there q M.item other known other-known M.has M.waits) (subst (λ p. Stood program (steps_of (script G heap)) count (node x) p (step_for G heap L x)) own (stood x w)) lt)
            (λ ge.
            let high = M.low in
            let same : M.item ≡ step_for G heap L x = omega (arith, ge, high) in
            let less = order.wait q M.item other other-known M.waits in
            let z : item_number list count q M.item ≡ node x = ap₂ (λ p i. item_number (steps_of (script G heap)) count p i) (sym own) same in
            omega (arith, less, z))
            (cases_lt M.item (step_for G heap L x))

        later : IsWanted G heap item → other < count → queue_for G item ≡ other → (j : ℕ) → has_signal (steps_of (script G heap)) count other j ≡ true → step_for G heap L item ≤ j → node item < signal_number (steps_of (script G heap)) count other j
        later v2 other-known queue j signal le = ⊎_elim
            (λ lt. stood_sooner program list count order (node item) (signal_number list count other j) other (step_for G heap L item) j (subst (λ p. Stood program (steps_of (script G heap)) count (node item) p (step_for G heap L item)) queue (stood item v2)) (signal_stood program list count there other j other-known signal) lt)
            (λ ge.
            let same : step_for G heap L item ≡ j = omega (arith, ge, le) in
            let z : node item ≡ item_number list count other j = ap₂ (λ p i. item_number (steps_of (script G heap)) count p i) queue same in
            omega (arith, z))
            (cases_lt (step_for G heap L item) j)

  -- an item that is waited for is wanted
  wanted_item : (q : ℕ) (at : Spot) (item : Reason) → IsWaitWanted G heap q at item → IsWanted G heap item
  wanted_item q at item (for_turn g w queue spot F) = subst (IsWanted G heap) (sym F.is) F.there
  wanted_item q at item (for_release g w queue spot F) = subst (IsWanted G heap) (sym F.is) F.there
  wanted_item q at item (for_acquire g w queue spot is) = subst (IsWanted G heap) (sym is) w
  wanted_item q at item (for_member g enters w differ some spot) = w

  pub are_waits : AreWaits G heap program node
  are_waits = record {
    each = each;
    met = λ q at item x W w own before. is_awaited q at item x (need_for G heap L q at item W) w own before (wanted_item q at item W);
  }
