-- What trials and the parts of a round come to.
use Rattle.std.proofs.Common.{◌≡◌, ◌∙◌, ◌<◌, ◌+◌, inl, inr, ℕ, suc, Bool, true, false, [], length, slice_get, Some, Result, Ok, Err, IfOk, refl, subst, sym, ap, add-one, arith}
use Rattle.std.specs.Option.{option_map_or}
use Rattle.program.specs.Obeys.{BatchAt}
use Rattle.program.specs.declared.program.Batch.{Batch}
use Rattle.program.specs.declared.program.Program.{Program}
use Rattle.program.specs.declared.program.Queue.{Queue}
use Rattle.check_tighten.specs.Internal.Rounds.{Tried, WaitTried, StageTried, FitTried}
use Rattle.check_tighten.specs.Internal.Weights.{weight}
use Rattle.check_tighten.specs.Tight.{Passes}
use Rattle.check_tighten.specs.Tightened.{LessWait, LessStage, OwnAlone, Fails, Tries, InTurn, StageTurn, StagesTurn, WaitTurn, WaitsTurn, BatchTurn, QueueTurn, Round, IsTightened, batches_at, waits_at}

-- TRIALS

-- there is something to try
pub tries_some : (Candidate : Program → Program → Type 0) (program candidate now : Program) (changed : Bool) → Candidate program candidate → ((c : Program) → Candidate program c → Tried program c now changed) → Tries Candidate program now
tries_some Candidate program candidate now true is all =
    let t = (all candidate is).proved_sound refl in
    inl (record { candidate = subst (Candidate program) (sym t.0) is; passes = subst Passes (sym t.0) t.1 })
tries_some Candidate program candidate now false is all = inr ((λ c of. ((all c of).refused refl).1), ((all candidate is).refused refl).0)

module _ (program : Program) (q b k : ℕ) where
  pub fails_wait : WaitTried program q b k → Fails (LessWait q b k) program
  fails_wait tried candidate l p = tried l.queue l.batch l.wait l.at (subst Passes l.is p)

  pub fails_stage : (stage : ℕ) → StageTried program q b k stage → Fails (LessStage q b k stage) program
  fails_stage stage tried candidate l p = tried l.queue l.batch l.wait l.at l.own (subst Passes l.is p)

  pub fails_own : FitTried program q b k → Fails (OwnAlone q b k) program
  fails_own tried candidate l p = tried l.queue l.batch l.wait l.at l.others (subst Passes l.is p)

-- where there is nothing to try, or in vain
pub tries_none : (Candidate : Program → Program → Type 0) (program to : Program) → Fails Candidate program → to ≡ program → Tries Candidate program to
tries_none Candidate program to fails same = inr (fails, same)

-- ONE PART MORE

pub turn_on : (Part : ℕ → Program → Program → Type 0) (start now next to : Program) (i : ℕ) → InTurn Part i start now → Part i now next → to ≡ next → InTurn Part (i + 1) start to
turn_on Part start now next to i before part same = subst (λ n. InTurn Part n start to) (sym (add-one i)) (now, before, subst (Part i now) (sym same) part)

pub waits_on : (q b : ℕ) (start now next to : Program) (step k at : ℕ) → WaitsTurn q b step start now k → WaitTurn q b k now next at → to ≡ next → WaitsTurn q b (step + 1) start to at
waits_on q b start now next to step k at before turn same = subst (λ n. WaitsTurn q b n start to at) (sym (add-one step)) (now, k, before, subst (λ p. WaitTurn q b k now p at) (sym same) turn)

-- the stages, and then all that are not its own
pub stages_turn : (q b k : ℕ) (program left next to : Program) → InTurn (StageTurn q b k) 5 program left → Tries (OwnAlone q b k) left next → to ≡ next → StagesTurn q b k program to
stages_turn q b k program left next to turns last same = (left, turns, subst (Tries (OwnAlone q b k) left) (sym same) last)

-- the wait was needed
pub wait_kept : (q b k : ℕ) (program same to : Program) → same ≡ program → WaitTried program q b k → StagesTurn q b k same to → WaitTurn q b k program to (k + 1)
wait_kept q b k program same to is tried turn = inr (fails_wait program q b k tried, subst (λ p. StagesTurn q b k p to) is turn, refl)

-- COUNTS

pub batches_of : (program : Program) (q : ℕ) (queue : Queue) → slice_get program.queues q ≡ Some queue → batches_at program q ≡ queue.batches
batches_of program q queue is = ap (λ o. option_map_or (λ (z : Queue). z.batches) o []) is

pub waits_of : (program : Program) (q b : ℕ) (queue : Queue) (batch : Batch) → BatchAt program q b queue batch → waits_at program q b ≡ batch.waits
waits_of program q b queue batch at =
    ap (λ l. option_map_or (λ (z : Batch). z.waits) (slice_get l b) []) (batches_of program q queue at.queue_is)
    ∙ ap (λ o. option_map_or (λ (z : Batch). z.waits) o []) at.batch_is

-- ALL PARTS

pub batch_turn : (q b : ℕ) (program now : Program) (step k : ℕ) → step ≡ length (waits_at program q b) → WaitsTurn q b step program now k → BatchTurn q b program now
batch_turn q b program now step k is turn = (k, subst (λ n. WaitsTurn q b n program now k) is turn)

pub queue_turn : (q : ℕ) (program now : Program) (step : ℕ) → step ≡ length (batches_at program q) → InTurn (BatchTurn q) step program now → QueueTurn q program now
queue_turn q program now step is turn = subst (λ n. InTurn (BatchTurn q) n program now) is turn

pub round_turn : (program now : Program) (step : ℕ) → step ≡ length program.queues → InTurn QueueTurn step program now → Round program now
round_turn program now step is turn = subst (λ n. InTurn QueueTurn n program now) is turn

-- ROUNDS

-- a round that changes something comes first
pub round_more : (program next now : Program) → Round program next → weight next < weight program → IsTightened next now → IsTightened program now
round_more program next now round lighter rounds = (suc rounds.0, (next, round, (λ same. let lt : weight program < weight program = subst (λ p. weight p < weight program) same lighter in omega (arith, lt)), rounds.1))

-- one that changes nothing is the last
pub round_last : (program next : Program) → Round program next → next ≡ program → IsTightened program next
round_last program next round same = (0, (subst (Round program) same round, same))

-- what is proved to be sound is what the rounds came to
pub tightened_taken : {X E : Type 0} (program_of : X → Program) (given start tight : Program) (r : Result X E) → start ≡ given → IsTightened start tight → IfOk r (λ x. program_of x ≡ tight) → IfOk r (λ x. IsTightened given (program_of x))
tightened_taken program_of given start tight (Ok x) same t is = subst (λ p. IsTightened p (program_of x)) same (subst (IsTightened start) (sym is) t)
tightened_taken program_of given start tight (Err e) same t is = tt
