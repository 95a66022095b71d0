-- Programs with other waits at a batch.
use Rattle.std.proofs.Common.{◌≡◌, ◌∙◌, ℕ, List, slice_get, Some, sym, ap}
use Rattle.program.specs.Obeys.{BatchAt}
use Rattle.program.specs.declared.program.Batch.{Batch}
use Rattle.program.specs.declared.program.Program.{Program}
use Rattle.program.specs.declared.program.Queue.{Queue}
use Rattle.program.specs.declared.program.WaitFor.{WaitFor}
use Rattle.check_tighten.specs.Edits.{batch_with, queue_with, program_with}
use Rattle.check_tighten.specs.Tight.{WaitAt}
use Rattle.check_tighten.proofs.Lists.{changed_back}

-- with the old waits again it is as it was
pub undone : (program : Program) (q b : ℕ) (queue : Queue) (batch : Batch) (waits old : List WaitFor) → BatchAt program q b queue batch → old ≡ batch.waits → program_with q b old (program_with q b waits program) ≡ program
undone program q b queue batch waits old at is =
    let one : batch_with old (batch_with waits batch) ≡ batch = ap (λ w. batch_with w batch) is in
    let all : queue_with b old (queue_with b waits queue) ≡ queue = ap (λ l. record queue { batches = l }) (changed_back (batch_with waits) (batch_with old) b queue.batches batch at.batch_is one) in
    ap (λ l. record program { queues = l }) (changed_back (queue_with b waits) (queue_with b old) q program.queues queue at.queue_is all)

-- there is one batch at a place
pub one_queue : (program : Program) (q b : ℕ) (queue other : Queue) (batch found : Batch) → BatchAt program q b queue batch → BatchAt program q b other found → other ≡ queue
one_queue program q b queue other batch found at also =
    let e : Some other ≡ Some queue = sym also.queue_is ∙ at.queue_is in
    cc

pub one_batch : (program : Program) (q b : ℕ) (queue other : Queue) (batch found : Batch) → BatchAt program q b queue batch → BatchAt program q b other found → found ≡ batch
one_batch program q b queue other batch found at also =
    let e : Some found ≡ Some batch = sym also.batch_is ∙ (ap (λ z. slice_get z.batches b) (one_queue program q b queue other batch found at also) ∙ at.batch_is) in
    cc

pub one_wait : (program : Program) (q b k : ℕ) (queue other : Queue) (batch found : Batch) (wait same : WaitFor) → WaitAt program q b k queue batch wait → WaitAt program q b k other found same → same ≡ wait
one_wait program q b k queue other batch found wait same at also =
    let e : Some same ≡ Some wait = sym also.wait_is ∙ (ap (λ z. slice_get z.waits k) (one_batch program q b queue other batch found at.batch_at also.batch_at) ∙ at.wait_is) in
    cc
