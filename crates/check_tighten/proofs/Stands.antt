-- A program that stands to a given one does so after a change of its waits.
use Rattle.std.proofs.Common.{◌≡◌, inl, inr, ℕ, zero, suc, List, [], ◌∷◌, true, Result, Ok, Err, IfOk, slice_get, slice_set, Some, refl, subst, sym}
use Rattle.vk.specs.Sets.{has}
use Rattle.vk.specs.Stages.{expand}
use Rattle.program.specs.Obeys.{BatchAt}
use Rattle.program.specs.declared.program.Batch.{Batch}
use Rattle.program.specs.declared.program.Program.{Program}
use Rattle.program.specs.declared.program.Queue.{Queue}
use Rattle.program.specs.declared.program.WaitFor.{WaitFor}
use Rattle.check_tighten.specs.Edits.{changed_at, batch_with, queue_with, program_with, without_at}
use Rattle.check_tighten.specs.Own.{with_stages}
use Rattle.check_tighten.specs.Standing.{Narrows, WaitsStand, Pairwise, BatchStands, QueueStands, StandsTo}
use Rattle.check_tighten.proofs.Masks.{has_itself, has_then}

-- WAITS

-- with stages among those that it stands for
pub narrower : (given wait : WaitFor) (set : ℕ) → has (expand wait.stages.0) set ≡ true → has (expand wait.stages.0) (expand set) ≡ true → Narrows given wait → Narrows given (with_stages set wait)
narrower given wait set has_set has_expanded n = record {
  queue = n.queue;
  value = n.value;
  some = has_then (expand given.stages.0) (expand wait.stages.0) (expand set) n.some has_expanded;
  stages = inr (has_then (expand given.stages.0) (expand wait.stages.0) set n.some has_set);
}

same_wait : (wait : WaitFor) → Narrows wait wait
same_wait wait = record { queue = refl; value = refl; some = has_itself (expand wait.stages.0); stages = inl refl }

-- beside one given wait more
one_more : (first : WaitFor) (given waits : List WaitFor) → WaitsStand given waits → WaitsStand (first ∷ given) waits
one_more first given [] s = tt
one_more first given (wait ∷ waits) s = inr s

pub same_waits : (waits : List WaitFor) → WaitsStand waits waits
same_waits [] = tt
same_waits (wait ∷ waits) = inl (same_wait wait, same_waits waits)

stand_rest : (given : List WaitFor) (wait : WaitFor) (waits : List WaitFor) → WaitsStand given (wait ∷ waits) → WaitsStand given waits
stand_rest [] wait waits s = absurd s
stand_rest (first ∷ given) wait waits (inl s) = one_more first given waits s.1
stand_rest (first ∷ given) wait waits (inr s) = one_more first given waits (stand_rest given wait waits s)

pub stand_without : (given : List WaitFor) (k : ℕ) (waits : List WaitFor) → WaitsStand given waits → WaitsStand given (without_at k waits)
stand_without given zero [] s = tt
stand_without given (suc k) [] s = tt
stand_without given zero (wait ∷ waits) s = stand_rest given wait waits s
stand_without [] (suc k) (wait ∷ waits) s = absurd s
stand_without (first ∷ given) (suc k) (wait ∷ waits) (inl s) = inl (s.0, stand_without given k waits s.1)
stand_without (first ∷ given) (suc k) (wait ∷ waits) (inr s) = inr (stand_without given (suc k) (wait ∷ waits) s)

pub stand_set : (given : List WaitFor) (k : ℕ) (waits : List WaitFor) (old new : WaitFor) → slice_get waits k ≡ Some old → ((g : WaitFor) → Narrows g old → Narrows g new) → WaitsStand given waits → WaitsStand given (slice_set waits k new)
stand_set given k [] old new at keeps s = tt
stand_set [] k (wait ∷ waits) old new at keeps s = absurd s
stand_set (first ∷ given) zero (wait ∷ waits) old new at keeps (inl s) = let e : wait ≡ old = cc in inl (keeps first (subst (Narrows first) e s.0), s.1)
stand_set (first ∷ given) (suc k) (wait ∷ waits) old new at keeps (inl s) = inl (s.0, stand_set given k waits old new at keeps s.1)
stand_set (first ∷ given) zero (wait ∷ waits) old new at keeps (inr s) = inr (stand_set given zero (wait ∷ waits) old new at keeps s)
stand_set (first ∷ given) (suc k) (wait ∷ waits) old new at keeps (inr s) = inr (stand_set given (suc k) (wait ∷ waits) old new at keeps s)

-- PROGRAMS

pair_same : {X : Type 0} (Stands : X → X → Type 0) (xs : List X) → ((x : X) → Stands x x) → Pairwise Stands xs xs
pair_same Stands [] same = tt
pair_same Stands (x ∷ xs) same = (same x, pair_same Stands xs same)

pair_changed : {X : Type 0} (Stands : X → X → Type 0) (change : X → X) (xs : List X) (k : ℕ) (ys : List X) (y : X) → slice_get ys k ≡ Some y → ((x : X) → Stands x y → Stands x (change y)) → Pairwise Stands xs ys → Pairwise Stands xs (changed_at change k ys)
pair_changed Stands change [] k [] y at keeps s = s
pair_changed Stands change [] zero (z ∷ ys) y at keeps s = absurd s
pair_changed Stands change [] (suc k) (z ∷ ys) y at keeps s = absurd s
pair_changed Stands change (x ∷ xs) k [] y at keeps s = s
pair_changed Stands change (x ∷ xs) zero (z ∷ ys) y at keeps s = let e : y ≡ z = cc in (subst (λ v. Stands x v → Stands x (change v)) e (keeps x) s.0, s.1)
pair_changed Stands change (x ∷ xs) (suc k) (z ∷ ys) y at keeps s = (s.0, pair_changed Stands change xs k ys y at keeps s.1)

same_batch : (batch : Batch) → BatchStands batch batch
same_batch batch = record { waits = same_waits batch.waits; items = refl; signal = refl }

same_queue : (queue : Queue) → QueueStands queue queue
same_queue queue = record { family = refl; batches = pair_same BatchStands queue.batches same_batch }

-- a program stands to itself
pub same_program : (program : Program) → StandsTo program program
same_program program = record { memories = refl; pieces = refl; queues = pair_same QueueStands program.queues same_queue; readbacks = refl }

-- with waits that stand wherever the old ones did
pub stands_with : (given program : Program) (q b : ℕ) (queue : Queue) (batch : Batch) (waits : List WaitFor) → BatchAt program q b queue batch → ((old : List WaitFor) → WaitsStand old batch.waits → WaitsStand old waits) → StandsTo given program → StandsTo given (program_with q b waits program)
stands_with given program q b queue batch waits at keeps s = record {
  memories = s.memories;
  pieces = s.pieces;
  queues =
      pair_changed QueueStands (queue_with b waits) given.queues q program.queues queue at.queue_is
      (λ old stands. record {
        family = stands.family;
        batches = pair_changed BatchStands (batch_with waits) old.batches b queue.batches batch at.batch_is (λ first also. record { waits = keeps first.waits also.waits; items = also.items; signal = also.signal }) stands.batches;
      })
      s.queues;
  readbacks = s.readbacks;
}

-- what is proved_sound stands as the program that it is proved_sound from
pub stands_taken : {X E : Type 0} (program_of : X → Program) (given tight : Program) (r : Result X E) → StandsTo given tight → IfOk r (λ x. program_of x ≡ tight) → IfOk r (λ x. StandsTo given (program_of x))
stands_taken program_of given tight (Ok x) s is = subst (StandsTo given) (sym is) s
stands_taken program_of given tight (Err e) s is = tt
