-- What several parts of a round come to, one after another.
use Rattle.std.proofs.Common.{◌≡◌, ◌∙◌, ◌<◌, ◌≤◌, ◌+◌, ◌||◌, ◌==◌, ℕ, Bool, true, false, not, length, slice_get, Some, refl, subst, sym, eqb-true, eq-eqb, below_more, arith}
use Rattle.std.proofs.lemmas.Option.{slice_get_within}
use Rattle.std.proofs.lemmas.Bool.{or_parts}
use Rattle.base.proofs.Booleans.{clash}
use Rattle.program.specs.Obeys.{BatchAt}
use Rattle.program.specs.declared.program.Batch.{Batch}
use Rattle.program.specs.declared.program.Program.{Program}
use Rattle.program.specs.declared.program.Queue.{Queue}
use Rattle.program.specs.declared.program.WaitFor.{WaitFor}
use Rattle.check_tighten.specs.Internal.Rounds.{Came, Walked, WaitTried, StageNumberTried, FitTried, TriedAt, WaitDone, BatchDone, QueueDone}
use Rattle.check_tighten.specs.Internal.Weights.{weight}
use Rattle.check_tighten.specs.Own.{single_stages, own_stages}
use Rattle.check_tighten.specs.Tight.{Passes, WaitAt, NeededAt, Tight}
use Rattle.check_tighten.proofs.OwnStages.{own_stages_do}
use Rattle.check_tighten.proofs.Trials.{came_same}

not_heavier : (x : Bool) (a b : Program) → Came a b x → weight b ≤ weight a
not_heavier true a b came = omega (arith, came.lighter refl)
not_heavier false a b came = subst (λ n. weight n ≤ weight a) (sym (came.same refl)) (omega arith)

falls : (x y : Bool) (a b c : Program) → Came a b x → Came b c y → (x || y) ≡ true → weight c < weight a
falls true y a b c first second e = omega (arith, first.lighter refl, not_heavier y b c second)
falls false true a b c first second e = omega (arith, second.lighter refl, not_heavier false a b first)
falls false false a b c first second e = absurd (clash e)

pub came_on : (x y : Bool) (a b c : Program) → Came a b x → Came b c y → Came a c (x || y)
came_on x y a b c first second = record {
  passes = λ p. second.passes (first.passes p);
  same = λ e. second.same (or_parts x y e).1 ∙ first.same (or_parts x y e).0;
  lighter = falls x y a b c first second;
  stands = λ given s. second.stands given (first.stands given s);
}

module _ (Done : Program → ℕ → Type 0) (start : Program) where
  pub walked_none : Walked Done start start false 0
  walked_none = record { came = came_same start; done = λ e i lt. absurd (omega (arith, lt)) }

  pub walked_on : (now next : Program) (x y : Bool) (count : ℕ) → Walked Done start now x count → Came now next y → (x ≡ false → y ≡ false → Done now count) → Walked Done start next (x || y) (count + 1)
  walked_on now next x y count walked came done = record {
    came = came_on x y start now next walked.came came;
    done = λ e. below_more _ _ (walked.done (or_parts x y e).0) (subst (λ p. Done p count) (walked.came.same (or_parts x y e).0) (done (or_parts x y e).0 (or_parts x y e).1));
  }

  -- where the last part's program and flag are handed on
  pub walked_after : (now next to : Program) (x y changed : Bool) (count : ℕ) → Walked Done start now x count → Came now next y → (x ≡ false → y ≡ false → Done now count) → to ≡ next → changed ≡ (x || y) → Walked Done start to changed (count + 1)
  walked_after now next to x y changed count walked came done same also =
      subst (λ p. Walked Done start p changed (count + 1)) (sym same)
      (subst (λ b. Walked Done start next b (count + 1)) (sym also) (walked_on now next x y count walked came done))

  -- before the first part
  pub walked_none_as : (to : Program) (changed : Bool) → to ≡ start → changed ≡ false → Walked Done start to changed 0
  walked_none_as to changed same not =
      subst (λ p. Walked Done start p changed 0) (sym same) (subst (λ b. Walked Done start start b 0) (sym not) walked_none)

-- where the last part's program and flag are handed on
pub came_after : (a b c to : Program) (x y changed : Bool) → Came a b x → Came b c y → to ≡ c → changed ≡ (x || y) → Came a to changed
came_after a b c to x y changed first second same also =
    subst (λ p. Came a p changed) (sym same) (subst (Came a c) (sym also) (came_on x y a b c first second))

-- ALL PARTS

-- if nothing was changed in two parts, nothing was in the first, and the program was the same for the second
pub first_same : (x y changed : Bool) → changed ≡ (x || y) → changed ≡ false → x ≡ false
first_same x y changed also not = (or_parts x y (sym also ∙ not)).0

pub second_same : (x y changed : Bool) → changed ≡ (x || y) → changed ≡ false → y ≡ false
second_same x y changed also not = (or_parts x y (sym also ∙ not)).1

pub wait_done : (program : Program) (q b k : ℕ) → WaitTried program q b k → ((i : ℕ) → i < 5 → StageNumberTried q b k program i) → FitTried program q b k → WaitDone q b program k
wait_done program q b k whole stages fit queue batch wait at = record {
  whole = whole queue batch wait at;
  stages = λ i stage is. stages i (slice_get_within single_stages i stage is) stage is queue batch wait at;
  others = fit queue batch wait at;
}

pub batch_done : (program : Program) (q b count : ℕ) → ((queue : Queue) (batch : Batch) → BatchAt program q b queue batch → count ≡ length batch.waits) → ((k : ℕ) → k < count → WaitDone q b program k) → BatchDone q program b
batch_done program q b count is all k queue batch wait at =
    all k (subst (λ n. k < n) (sym (is queue batch at.batch_at)) (slice_get_within batch.waits k wait at.wait_is)) queue batch wait at

pub queue_done : (program : Program) (q count : ℕ) → ((queue : Queue) → slice_get program.queues q ≡ Some queue → count ≡ length queue.batches) → ((b : ℕ) → b < count → BatchDone q program b) → QueueDone program q
queue_done program q count is all b k queue batch wait at =
    all b (subst (λ n. b < n) (sym (is queue at.batch_at.queue_is)) (slice_get_within queue.batches b batch at.batch_at.batch_is)) k queue batch wait at

pub all_done : (program : Program) (count : ℕ) → count ≡ length program.queues → ((q : ℕ) → q < count → QueueDone program q) → (q : ℕ) → QueueDone program q
all_done program count is all q b k queue batch wait at =
    all q (subst (λ n. q < n) (sym is) (slice_get_within program.queues q queue at.batch_at.queue_is)) b k queue batch wait at

-- what was tried in vain at a wait of a program that passes is needed: its own stages alone always do
module _ (program : Program) (passes : Passes program) (q b k : ℕ) (queue : Queue) (batch : Batch) (wait : WaitFor) (at : WaitAt program q b k queue batch wait) (tried : TriedAt program q b k queue batch wait) where
  abbrev own : ℕ
  own = own_stages queue.family wait.stages.0

  fitted_already : (same : Bool) → (wait.stages.0 == own) ≡ same → wait.stages.0 ≡ own
  fitted_already true e = eqb-true wait.stages.0 own e
  fitted_already false e = absurd (tried.others (λ is. clash (sym e ∙ eq-eqb wait.stages.0 own is)) (own_stages_do program q b k queue batch wait passes at))

  needed_at : NeededAt program q b k queue batch wait
  needed_at = record { whole = tried.whole; stages = tried.stages; others = fitted_already (wait.stages.0 == own) refl }

-- a program that passes, and in which all waits were tried in vain
pub tight_as : (program to : Program) → to ≡ program → Passes program → ((q : ℕ) → QueueDone program q) → Tight to
tight_as program to same passes done =
    subst Tight (sym same) (record { passes = passes; needed = λ q b k queue batch wait at. needed_at program passes q b k queue batch wait at (done q b k queue batch wait at) })
