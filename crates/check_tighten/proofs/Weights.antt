-- What is left out makes a program lighter.
use Rattle.std.proofs.Common.{◌≡◌, ℕ, zero, suc, ◌+◌, ◌<◌, List, [], ◌∷◌, slice_get, slice_set, Some, subst, arith}
use Rattle.program.specs.Obeys.{BatchAt}
use Rattle.program.specs.declared.program.Batch.{Batch}
use Rattle.program.specs.declared.program.Program.{Program}
use Rattle.program.specs.declared.program.Queue.{Queue}
use Rattle.program.specs.declared.program.WaitFor.{WaitFor}
use Rattle.check_tighten.specs.Internal.Weights.{total, wait_weight, batch_weight, queue_weight, weight}
use Rattle.check_tighten.specs.Edits.{changed_at, batch_with, queue_with, program_with, without_at}

less_first : (a b c : ℕ) → a < b → a + c < b + c
less_first a b c lt = omega arith

less_rest : (a b c : ℕ) → b < c → a + b < a + c
less_rest a b c lt = omega arith

more_first : (a b : ℕ) → 0 < a → b < a + b
more_first a b lt = omega arith

pub total_changed : {X : Type 0} (weigh : X → ℕ) (change : X → X) (xs : List X) (k : ℕ) (x : X) → slice_get xs k ≡ Some x → weigh (change x) < weigh x → total weigh (changed_at change k xs) < total weigh xs
total_changed weigh change [] k x at lt = absurd cc
total_changed weigh change (y ∷ xs) zero x at lt =
    let e : x ≡ y = cc in
    less_first (weigh (change y)) (weigh y) (total weigh xs) (subst (λ z. weigh (change z) < weigh z) e lt)
total_changed weigh change (y ∷ xs) (suc k) x at lt = less_rest (weigh y) (total weigh (changed_at change k xs)) (total weigh xs) (total_changed weigh change xs k x at lt)

pub total_set : {X : Type 0} (weigh : X → ℕ) (z : X) (xs : List X) (k : ℕ) (x : X) → slice_get xs k ≡ Some x → weigh z < weigh x → total weigh (slice_set xs k z) < total weigh xs
total_set weigh z [] k x at lt = absurd cc
total_set weigh z (y ∷ xs) zero x at lt =
    let e : x ≡ y = cc in
    less_first (weigh z) (weigh y) (total weigh xs) (subst (λ v. weigh z < weigh v) e lt)
total_set weigh z (y ∷ xs) (suc k) x at lt = less_rest (weigh y) (total weigh (slice_set xs k z)) (total weigh xs) (total_set weigh z xs k x at lt)

pub total_without : {X : Type 0} (weigh : X → ℕ) (xs : List X) (k : ℕ) (x : X) → slice_get xs k ≡ Some x → ((y : X) → 0 < weigh y) → total weigh (without_at k xs) < total weigh xs
total_without weigh [] k x at some = absurd cc
total_without weigh (y ∷ xs) zero x at some = more_first (weigh y) (total weigh xs) (some y)
total_without weigh (y ∷ xs) (suc k) x at some = less_rest (weigh y) (total weigh (without_at k xs)) (total weigh xs) (total_without weigh xs k x at some)

-- with waits at a batch that weigh less
pub lighter : (program : Program) (q b : ℕ) (queue : Queue) (batch : Batch) (waits : List WaitFor) → BatchAt program q b queue batch → total (wait_weight queue.family) waits < batch_weight queue.family batch → weight (program_with q b waits program) < weight program
lighter program q b queue batch waits at lt =
    total_changed queue_weight (queue_with b waits) program.queues q queue at.queue_is
    (total_changed (batch_weight queue.family) (batch_with waits) queue.batches b batch at.batch_is lt)
