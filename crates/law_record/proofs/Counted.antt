-- What the nodes of one queue give, one after another, by steps.
use Rattle.std.proofs.Common.{◌≡◌, ◌≢◌, ◌⊎◌, inl, inr, ℕ, zero, suc, ◌<◌, ◌≤◌, ◌==◌, if◌then◌else◌, Bool, true, false, List, [], ◌∷◌, ◌++◌, length, map, Some, None, refl, sym, ap, ap₂, ◌∙◌, eq-eqb, append_assoc, arith}
use Rattle.std.specs.List.{flat_map}
use Rattle.std.specs.Option.{option_map_or}
use Rattle.std.specs.Prelude.{slice_get}
use Rattle.std.proofs.lemmas.List.{append-nil}
use Rattle.std.proofs.lemmas.List.Concat.{flat_map-append}
use Rattle.compile_timeline.proofs.Below.{side, map_below, same_below}
use Rattle.compile_timeline.specs.Below.{all_below}
use Rattle.compile_timeline.specs.Parts.{Part, Waits, Does, Signals, when, wait_for, signal_after, waits_at, step_parts, parts_at}
use Rattle.compile_timeline.specs.Places.{place, step_places, queue_places, places, part_entry, entry_of}
use Rattle.compile_timeline.specs.Signals.{has_signal}
use Rattle.compile_timeline.specs.Waits.{waits}
use Rattle.compile_timeline.specs.declared.step.Step.{Step}
use Rattle.compile_timeline.specs.declared.step.Step.TheVariants as steps
use Rattle.program.specs.Entries.{Entry, OfHost, entries_of}
use Rattle.program.specs.declared.program.Item.{Item}
use Rattle.program.specs.declared.program.Program.{Program}

-- LISTS BY NUMBERS

flat_below : {X Y : Type 0} (g : X → List Y) (f : ℕ → List X) (n : ℕ) → flat_map g (all_below f n) ≡ all_below (λ k. flat_map g (f k)) n
flat_below g f zero = refl
flat_below g f (suc n) = flat_map-append g (all_below f n) (f n) ∙ ap (λ xs. xs ++ flat_map g (f n)) (flat_below g f n)

none_below : {X : Type 0} (f : ℕ → List X) (n : ℕ) → ((k : ℕ) → k < n → f k ≡ []) → all_below f n ≡ []
none_below f zero h = refl
none_below f (suc n) h = ap (λ xs. xs ++ f n) (none_below f n (λ k lt. h k (omega (arith, lt)))) ∙ h n (omega arith)

-- only that of number q gives something
one_below : {X : Type 0} (f : ℕ → List X) (n q : ℕ) → q < n → ((k : ℕ) → k < n → k ≢ q → f k ≡ []) → all_below f n ≡ f q
one_below f zero q lt h = absurd (omega (arith, lt))
one_below f (suc n) q lt h = go (side q n) (λ l. one_below f n q l (λ k low differ. h k (omega (arith, low)) differ))
  where
    go : (q < n) ⊎ (n ≤ q) → (q < n → all_below f n ≡ f q) → all_below f n ++ f n ≡ f q
    go (inl l) ih = ap (λ xs. xs ++ f n) (ih l) ∙ ap (λ ys. f q ++ ys) (h n (omega arith) (λ e. omega (arith, e, l))) ∙ append-nil (f q)
    go (inr ge) ih = let same : n ≡ q = omega (arith, lt, ge) in ap (λ xs. xs ++ f n) (none_below f n (λ k low. h k (omega (arith, low)) (λ e. omega (arith, e, low, same)))) ∙ ap f same

front : {X : Type 0} (g : ℕ → List X) (n : ℕ) → all_below g (suc n) ≡ g 0 ++ all_below (λ i. g (suc i)) n
front g zero = sym (append-nil (g 0))
front g (suc n) = ap (λ xs. xs ++ g (suc n)) (front g n) ∙ append_assoc (g 0) (all_below (λ i. g (suc i)) n) (g (suc n))

-- entry by entry
pub listed : {X Y : Type 0} (f : X → List Y) (xs : List X) → all_below (λ i. option_map_or f (slice_get xs i) []) (length xs) ≡ flat_map f xs
listed f [] = refl
listed f (x ∷ xs) = front (λ i. option_map_or f (slice_get (x ∷ xs) i) []) (length xs) ∙ ap (λ ys. f x ++ ys) (listed f xs)

-- ONE QUEUE

module _ {Y : Type 0} (q : ℕ) (F : Entry → List Y) (h : Part → List Y) (own : (r : ℕ) (part : Part) → r ≡ q → F (part_entry r part) ≡ h part) (other : (r : ℕ) (part : Part) → r ≢ q → F (part_entry r part) ≡ []) (host : (piece : ℕ) → F (OfHost piece) ≡ []) where
  of_hosts : (pieces : List ℕ) → flat_map F (map OfHost pieces) ≡ []
  of_hosts [] = refl
  of_hosts (piece ∷ pieces) = ap₂ (λ a b. a ++ b) (host piece) (of_hosts pieces)

  own_parts : (i : ℕ) (ps : List Part) → flat_map F (map entry_of (map (place q i) ps)) ≡ flat_map h ps
  own_parts i [] = refl
  own_parts i (part ∷ ps) = ap₂ (λ a b. a ++ b) (own q part refl) (own_parts i ps)

  other_parts : (r i : ℕ) → r ≢ q → (ps : List Part) → flat_map F (map entry_of (map (place r i) ps)) ≡ []
  other_parts r i differ [] = refl
  other_parts r i differ (part ∷ ps) = ap₂ (λ a b. a ++ b) (other r part differ) (other_parts r i differ ps)

  module _ (script : List Step) (count : ℕ) where
    by_steps : (r : ℕ) → flat_map F (map entry_of (queue_places script count r)) ≡ all_below (λ i. flat_map F (map entry_of (step_places script count r i))) (length script)
    by_steps r = ap (flat_map F) (map_below entry_of (step_places script count r) (length script)) ∙ flat_below F (λ i. map entry_of (step_places script count r i)) (length script)

    by_queues : flat_map F (map entry_of (places script count)) ≡ all_below (λ r. flat_map F (map entry_of (queue_places script count r))) count
    by_queues = ap (flat_map F) (map_below entry_of (queue_places script count) count) ∙ flat_below F (λ r. map entry_of (queue_places script count r)) count

    of_other : (r : ℕ) → r ≢ q → flat_map F (map entry_of (queue_places script count r)) ≡ []
    of_other r differ = by_steps r ∙ none_below (λ i. flat_map F (map entry_of (step_places script count r i))) (length script) (λ i low. other_parts r i differ (parts_at script count r i))

    of_own : flat_map F (map entry_of (queue_places script count q)) ≡ all_below (λ i. flat_map h (parts_at script count q i)) (length script)
    of_own = by_steps q ∙ same_below (λ i. flat_map F (map entry_of (step_places script count q i))) (λ i. flat_map h (parts_at script count q i)) (length script) (λ i low. own_parts i (parts_at script count q i))

    module _ (program : Program) (E : entries_of program ≡ map entry_of (places script count) ++ map OfHost program.readbacks) where
      of_places : flat_map F (entries_of program) ≡ flat_map F (map entry_of (places script count))
      of_places = ap (flat_map F) E ∙ flat_map-append F (map entry_of (places script count)) (map OfHost program.readbacks) ∙ ap (λ ys. flat_map F (map entry_of (places script count)) ++ ys) (of_hosts program.readbacks) ∙ append-nil (flat_map F (map entry_of (places script count)))

      -- those of the queue, step by step
      pub of_queue : q < count → flat_map F (entries_of program) ≡ all_below (λ i. flat_map h (parts_at script count q i)) (length script)
      of_queue lt = of_places ∙ by_queues ∙ one_below (λ r. flat_map F (map entry_of (queue_places script count r))) count q lt (λ r low differ. of_other r differ) ∙ of_own

      pub of_none : count ≤ q → flat_map F (entries_of program) ≡ []
      of_none ge = of_places ∙ by_queues ∙ none_below (λ r. flat_map F (map entry_of (queue_places script count r))) count (λ r low. of_other r (λ e. omega (arith, e, low, ge)))

-- ONE STEP

module _ {Y : Type 0} (h : Part → List Y) (script : List Step) (count q i : ℕ) (silent : (p : ℕ) → h (Waits (wait_for script count q i p)) ≡ []) where
  when_wait : (b : Bool) (p : ℕ) → flat_map h (when b (Waits (wait_for script count q i p))) ≡ []
  when_wait true p = ap (λ ys. ys ++ []) (silent p)
  when_wait false p = refl

  no_waits : flat_map h (waits_at script count q i) ≡ []
  no_waits = flat_below h (λ p. when (waits script q i p) (Waits (wait_for script count q i p))) count ∙ none_below (λ p. flat_map h (when (waits script q i p) (Waits (wait_for script count q i p)))) count (λ p low. when_wait (waits script q i p) p)

  abbrev tail : List Part
  tail = when (has_signal script count q i) (Signals (signal_after script count i))

  -- an item of the queue and the signal after it
  pub of_item : (item : Item) → slice_get script i ≡ Some (steps.Item q item) → flat_map h (parts_at script count q i) ≡ h (Does item) ++ flat_map h (when (has_signal script count q i) (Signals (signal_after script count i)))
  of_item item e =
      ap (λ o. flat_map h (option_map_or (step_parts script count q i) o [])) e
      ∙ ap (λ b. flat_map h (if b then waits_at script count q i ++ Does item ∷ tail else [])) (eq-eqb q q refl)
      ∙ flat_map-append h (waits_at script count q i) (Does item ∷ tail)
      ∙ ap (λ ys. ys ++ flat_map h (Does item ∷ tail)) no_waits

  pub of_need : (r j : ℕ) → slice_get script i ≡ Some (steps.Need r j) → flat_map h (parts_at script count q i) ≡ []
  of_need r j e = ap (λ o. flat_map h (option_map_or (step_parts script count q i) o [])) e

  pub of_foreign : (r : ℕ) (item : Item) → (r == q) ≡ false → slice_get script i ≡ Some (steps.Item r item) → flat_map h (parts_at script count q i) ≡ []
  of_foreign r item differ e =
      ap (λ o. flat_map h (option_map_or (step_parts script count q i) o [])) e
      ∙ ap (λ b. flat_map h (if b then waits_at script count q i ++ Does item ∷ tail else [])) differ

  pub of_nothing : slice_get script i ≡ None → flat_map h (parts_at script count q i) ≡ []
  of_nothing e = ap (λ o. flat_map h (option_map_or (step_parts script count q i) o [])) e
