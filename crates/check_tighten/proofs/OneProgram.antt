-- The rounds come to one program.
use Rattle.std.proofs.Common.{◌≡◌, ◌∙◌, inl, inr, ℕ, zero, suc, length, slice_set, Some, subst, sym, ap}
use Rattle.program.specs.declared.program.Batch.{Batch}
use Rattle.program.specs.declared.program.Program.{Program}
use Rattle.program.specs.declared.program.Queue.{Queue}
use Rattle.program.specs.declared.program.WaitFor.{WaitFor}
use Rattle.check_tighten.specs.Edits.{program_with, without_at}
use Rattle.check_tighten.specs.Own.{fitted, without_stage}
use Rattle.check_tighten.specs.Tightened.{LessWait, LessStage, OwnAlone, Tries, InTurn, StageTurn, StagesTurn, WaitTurn, WaitsTurn, BatchTurn, QueueTurn, Round, Rounds, IsTightened, batches_at, waits_at}
use Rattle.check_tighten.proofs.Programs.{one_queue, one_batch, one_wait}

-- WHAT IS TRIED

module _ (program : Program) (q b k : ℕ) (c d : Program) where
  one_less_wait : LessWait q b k program c → LessWait q b k program d → c ≡ d
  one_less_wait l m =
      l.is
      ∙ ap (λ (batch : Batch). program_with q b (without_at k batch.waits) program) (one_batch program q b m.queue l.queue m.batch l.batch m.at.batch_at l.at.batch_at)
      ∙ sym m.is

  one_less_stage : (stage : ℕ) → LessStage q b k stage program c → LessStage q b k stage program d → c ≡ d
  one_less_stage stage l m =
      l.is
      ∙ ap (λ (batch : Batch). program_with q b (slice_set batch.waits k (without_stage l.queue.family stage l.wait)) program) (one_batch program q b m.queue l.queue m.batch l.batch m.at.batch_at l.at.batch_at)
      ∙ ap (λ (queue : Queue). program_with q b (slice_set m.batch.waits k (without_stage queue.family stage l.wait)) program) (one_queue program q b m.queue l.queue m.batch l.batch m.at.batch_at l.at.batch_at)
      ∙ ap (λ (wait : WaitFor). program_with q b (slice_set m.batch.waits k (without_stage m.queue.family stage wait)) program) (one_wait program q b k m.queue l.queue m.batch l.batch m.wait l.wait m.at l.at)
      ∙ sym m.is

  one_own_alone : OwnAlone q b k program c → OwnAlone q b k program d → c ≡ d
  one_own_alone l m =
      l.is
      ∙ ap (λ (batch : Batch). program_with q b (slice_set batch.waits k (fitted l.queue.family l.wait)) program) (one_batch program q b m.queue l.queue m.batch l.batch m.at.batch_at l.at.batch_at)
      ∙ ap (λ (queue : Queue). program_with q b (slice_set m.batch.waits k (fitted queue.family l.wait)) program) (one_queue program q b m.queue l.queue m.batch l.batch m.at.batch_at l.at.batch_at)
      ∙ ap (λ (wait : WaitFor). program_with q b (slice_set m.batch.waits k (fitted m.queue.family wait)) program) (one_wait program q b k m.queue l.queue m.batch l.batch m.wait l.wait m.at l.at)
      ∙ sym m.is

-- TRIALS

abbrev IsOne : (Program → Program → Type 0) → Type 0
IsOne Part = (program a b : Program) → Part program a → Part program b → a ≡ b

one_trial : (Candidate : Program → Program → Type 0) → IsOne Candidate → IsOne (Tries Candidate)
one_trial Candidate one program x y (inl s) (inl t) = one program x y s.candidate t.candidate
one_trial Candidate one program x y (inl s) (inr t) = absurd (t.0 x s.candidate s.passes)
one_trial Candidate one program x y (inr s) (inl t) = absurd (s.0 y t.candidate t.passes)
one_trial Candidate one program x y (inr s) (inr t) = s.1 ∙ sym t.1

-- PARTS

-- from the same program on
from_same : (Part : Program → Program → Type 0) (p q a b : Program) → IsOne Part → p ≡ q → Part p a → Part q b → a ≡ b
from_same Part p q a b one same first second = one q a b (subst (λ (z : Program). Part z a) same first) second

one_turn : (Part : ℕ → Program → Program → Type 0) → ((i : ℕ) → IsOne (Part i)) → (count : ℕ) → IsOne (InTurn Part count)
one_turn Part one zero program a b s t = s ∙ sym t
one_turn Part one (suc count) program a b s t = from_same (Part count) s.0 t.0 a b (one count) (one_turn Part one count program s.0 t.0 s.1 t.1) s.2 t.2

module _ (q b k : ℕ) where
  one_stage : (i : ℕ) → IsOne (StageTurn q b k i)
  one_stage i program x y s t =
      let e : Some s.0 ≡ Some t.0 = sym s.1 ∙ t.1 in
      let same : s.0 ≡ t.0 = cc in
      one_trial (LessStage q b k t.0) (λ p c d. one_less_stage p q b k c d t.0) program x y (subst (λ stage. Tries (LessStage q b k stage) program x) same s.2) t.2

  one_stages : IsOne (StagesTurn q b k)
  one_stages program x y s t =
      from_same (Tries (OwnAlone q b k)) s.0 t.0 x y (one_trial (OwnAlone q b k) (λ p c d. one_own_alone p q b k c d))
      (one_turn (StageTurn q b k) one_stage 5 program s.0 t.0 s.1 t.1) s.2 t.2

  one_wait_turn : (program x y : Program) (m n : ℕ) → WaitTurn q b k program x m → WaitTurn q b k program y n → (x ≡ y) × (m ≡ n)
  one_wait_turn program x y m n (inl s) (inl t) = (one_less_wait program q b k x y s.0.candidate t.0.candidate, s.1 ∙ sym t.1)
  one_wait_turn program x y m n (inl s) (inr t) = absurd (t.0 x s.0.candidate s.0.passes)
  one_wait_turn program x y m n (inr s) (inl t) = absurd (s.0 y t.0.candidate t.0.passes)
  one_wait_turn program x y m n (inr s) (inr t) = (one_stages program x y s.1 t.1, s.2 ∙ sym t.2)

module _ (q b : ℕ) where
  wait_from_same : (p r x y : Program) (j k m n : ℕ) → p ≡ r → j ≡ k → WaitTurn q b j p x m → WaitTurn q b k r y n → (x ≡ y) × (m ≡ n)
  wait_from_same p r x y j k m n same also s t =
      one_wait_turn q b k r x y m n (subst (λ (z : Program). WaitTurn q b k z x m) same (subst (λ i. WaitTurn q b i p x m) also s)) t

  one_waits : (count : ℕ) (program x y : Program) (m n : ℕ) → WaitsTurn q b count program x m → WaitsTurn q b count program y n → (x ≡ y) × (m ≡ n)
  one_waits zero program x y m n s t = (s.0 ∙ sym t.0, s.1 ∙ sym t.1)
  one_waits (suc count) program x y m n s t =
      let first = one_waits count program s.0 t.0 s.1 t.1 s.2 t.2 in
      wait_from_same s.0 t.0 x y s.1 t.1 m n first.0 first.1 s.3 t.3

  one_batch_turn : IsOne (BatchTurn q b)
  one_batch_turn program x y s t = (one_waits (length (waits_at program q b)) program x y s.0 t.0 s.1 t.1).0

one_queue_turn : (q : ℕ) → IsOne (QueueTurn q)
one_queue_turn q program = one_turn (BatchTurn q) (λ b. one_batch_turn q b) (length (batches_at program q)) program

one_round : IsOne Round
one_round program = one_turn QueueTurn one_queue_turn (length program.queues) program

-- ROUNDS

one_rounds : (m n : ℕ) (program x y : Program) → Rounds m program x → Rounds n program y → x ≡ y
one_rounds zero zero program x y s t = s.1 ∙ sym t.1
one_rounds zero (suc n) program x y s t = absurd (t.2 (one_round program t.0 program t.1 s.0))
one_rounds (suc m) zero program x y s t = absurd (s.2 (one_round program s.0 program s.1 t.0))
one_rounds (suc m) (suc n) program x y s t =
    one_rounds m n t.0 x y (subst (λ (z : Program). Rounds m z x) (one_round program s.0 t.0 s.1 t.1) s.3) t.3

pub one_tightened : (given x y : Program) → IsTightened given x → IsTightened given y → x ≡ y
one_tightened given x y s t = one_rounds s.0 t.0 given x y s.1 t.1
