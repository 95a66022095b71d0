-- A program with another wait at a place: its entries but for one are the same.
use Rattle.std.proofs.Common.{◌≡◌, ◌⊎◌, inl, inr, ◌+◌, ℕ, zero, suc, List, [], ◌∷◌, ◌++◌, length, map, slice_get, slice_set, Some, option_to_list, refl, subst, sym, ap, arith}
use Rattle.std.specs.List.{flat_map}
use Rattle.base.proofs.Absence.{some_same, none_some}
use Rattle.program.specs.Entries.{Entry, OfWait, OfItem, OfSignal, OfHost, batch_entries, queue_entries, entries_of}
use Rattle.program.specs.Places.{all_in}
use Rattle.program.specs.declared.program.Batch.{Batch}
use Rattle.program.specs.declared.program.Program.{Program}
use Rattle.program.specs.declared.program.Queue.{Queue}
use Rattle.program.specs.declared.program.WaitFor.{WaitFor}
use Rattle.check_tighten.specs.Edits.{changed_at, batch_with, queue_with, program_with}
use Rattle.check_tighten.specs.Standing.{Pairwise}
use Rattle.check_tighten.specs.Tight.{WaitAt}

-- the same, or another wait for the one of queue q
abbrev pub OneOther : ℕ → WaitFor → WaitFor → Entry → Entry → Type 0
OneOther q wait other a b = (b ≡ a) ⊎ ((a ≡ OfWait q wait) × (b ≡ OfWait q other))

module _ (q : ℕ) (wait other : WaitFor) where
  abbrev Same : List Entry → List Entry → Type 0
  Same xs ys = Pairwise (OneOther q wait other) xs ys

  itself : (xs : List Entry) → Same xs xs
  itself [] = tt
  itself (x ∷ xs) = (inl refl, itself xs)

  joined : (xs ys more others : List Entry) → Same xs ys → Same more others → Same (xs ++ more) (ys ++ others)
  joined [] [] more others h g = g
  joined [] (y ∷ ys) more others h g = absurd h
  joined (x ∷ xs) [] more others h g = absurd h
  joined (x ∷ xs) (y ∷ ys) more others h g = (h.0, joined xs ys more others h.1 g)

  waits_same : (waits : List WaitFor) (k : ℕ) → slice_get waits k ≡ Some wait → Same (map (OfWait q) waits) (map (OfWait q) (slice_set waits k other))
  waits_same [] k at = absurd (none_some at)
  waits_same (w ∷ waits) zero at = (inr (ap (OfWait q) (some_same at), refl), itself (map (OfWait q) waits))
  waits_same (w ∷ waits) (suc k) at = (inl refl, waits_same waits k at)

  batch_same : (batch : Batch) (k : ℕ) → slice_get batch.waits k ≡ Some wait → Same (batch_entries q batch) (batch_entries q (batch_with (slice_set batch.waits k other) batch))
  batch_same batch k at =
      joined (map (OfWait q) batch.waits ++ map (OfItem q) batch.items) (map (OfWait q) (slice_set batch.waits k other) ++ map (OfItem q) batch.items) (map (OfSignal q) (option_to_list batch.signal)) (map (OfSignal q) (option_to_list batch.signal))
      (joined (map (OfWait q) batch.waits) (map (OfWait q) (slice_set batch.waits k other)) (map (OfItem q) batch.items) (map (OfItem q) batch.items) (waits_same batch.waits k at) (itself (map (OfItem q) batch.items)))
      (itself (map (OfSignal q) (option_to_list batch.signal)))

  module _ (batch : Batch) (k : ℕ) (wait_is : slice_get batch.waits k ≡ Some wait) where
    abbrev waits : List WaitFor
    waits = slice_set batch.waits k other

    batches_same : (batches : List Batch) (b : ℕ) → slice_get batches b ≡ Some batch → Same (flat_map (batch_entries q) batches) (flat_map (batch_entries q) (changed_at (batch_with waits) b batches))
    batches_same [] b at = absurd (none_some at)
    batches_same (x ∷ batches) zero at =
        joined (batch_entries q x) (batch_entries q (batch_with waits x)) (flat_map (batch_entries q) batches) (flat_map (batch_entries q) batches)
        (subst (λ z. Same (batch_entries q z) (batch_entries q (batch_with waits z))) (sym (some_same at)) (batch_same batch k wait_is))
        (itself (flat_map (batch_entries q) batches))
    batches_same (x ∷ batches) (suc b) at =
        joined (batch_entries q x) (batch_entries q x) (flat_map (batch_entries q) batches) (flat_map (batch_entries q) (changed_at (batch_with waits) b batches)) (itself (batch_entries q x)) (batches_same batches b at)

    module _ (queue : Queue) (b : ℕ) (batch_is : slice_get queue.batches b ≡ Some batch) where
      -- queue j of those from i on
      queues_same : (queues : List Queue) (i j : ℕ) → i + j ≡ q → slice_get queues j ≡ Some queue → Same (all_in queue_entries i queues) (all_in queue_entries i (changed_at (queue_with b waits) j queues))
      queues_same [] i j is at = absurd (none_some at)
      queues_same (x ∷ queues) i zero is at =
          let here : i ≡ q = omega (arith, is) in
          joined (queue_entries i x) (queue_entries i (queue_with b waits x)) (all_in queue_entries (suc i) queues) (all_in queue_entries (suc i) queues)
          (subst (λ n. Same (queue_entries n x) (queue_entries n (queue_with b waits x))) (sym here)
          (subst (λ z. Same (queue_entries q z) (queue_entries q (queue_with b waits z))) (sym (some_same at)) (batches_same queue.batches b batch_is)))
          (itself (all_in queue_entries (suc i) queues))
      queues_same (x ∷ queues) i (suc j) is at =
          joined (queue_entries i x) (queue_entries i x) (all_in queue_entries (suc i) queues) (all_in queue_entries (suc i) (changed_at (queue_with b waits) j queues))
          (itself (queue_entries i x))
          (queues_same queues (suc i) j (omega (arith, is)) at)

pub entries_same : (program : Program) (q b k : ℕ) (queue : Queue) (batch : Batch) (wait other : WaitFor) → WaitAt program q b k queue batch wait → Pairwise (OneOther q wait other) (entries_of program) (entries_of (program_with q b (slice_set batch.waits k other) program))
entries_same program q b k queue batch wait other at =
    joined q wait other (all_in queue_entries 0 program.queues) (all_in queue_entries 0 (changed_at (queue_with b (slice_set batch.waits k other)) q program.queues)) (map OfHost program.readbacks) (map OfHost program.readbacks)
    (queues_same q wait other batch k at.wait_is queue b at.batch_at.batch_is program.queues 0 q (omega arith) at.batch_at.queue_is)
    (itself q wait other (map OfHost program.readbacks))

-- AS MANY

pub as_many : {X : Type 0} (Stands : X → X → Type 0) (xs ys : List X) → Pairwise Stands xs ys → length ys ≡ length xs
as_many Stands [] [] h = refl
as_many Stands [] (y ∷ ys) h = absurd h
as_many Stands (x ∷ xs) [] h = absurd h
as_many Stands (x ∷ xs) (y ∷ ys) h = ap suc (as_many Stands xs ys h.1)

pub changed_many : {X : Type 0} (change : X → X) (k : ℕ) (xs : List X) → length (changed_at change k xs) ≡ length xs
changed_many change k [] = refl
changed_many change zero (x ∷ xs) = refl
changed_many change (suc k) (x ∷ xs) = ap suc (changed_many change k xs)

-- what the change leaves alone
pub changed_kept : {X Y : Type 0} (of : X → Y) (change : X → X) → ((x : X) → of (change x) ≡ of x) → (k : ℕ) (xs : List X) → map of (changed_at change k xs) ≡ map of xs
changed_kept of change kept k [] = refl
changed_kept of change kept zero (x ∷ xs) = ap (λ y. y ∷ map of xs) (kept x)
changed_kept of change kept (suc k) (x ∷ xs) = ap (λ l. of x ∷ l) (changed_kept of change kept k xs)
