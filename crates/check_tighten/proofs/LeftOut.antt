-- What is left out of a wait that stands at a place.
use Rattle.std.proofs.Common.{◌≡◌, ◌∙◌, ◌==◌, ℕ, true, false, Result, Ok, Err, Some, IfOk, slice_get, slice_set, refl, subst, sym, ap, eq-eqb, eqb-true}
use Rattle.base.proofs.Booleans.{clash}
use Rattle.base.specs.declared.shape.Family.{Family}
use Rattle.vk.specs.Sets.{has}
use Rattle.program.specs.Obeys.{BatchAt}
use Rattle.program.specs.declared.program.Batch.{Batch}
use Rattle.program.specs.declared.program.Program.{Program}
use Rattle.program.specs.declared.program.Queue.{Queue}
use Rattle.program.specs.declared.program.WaitFor.{WaitFor}
use Rattle.check_tighten.specs.Internal.Rounds.{Tried, Came, WaitTried, StageTried, FitTried, StandsAt, HasWait}
use Rattle.check_tighten.specs.Edits.{program_with, without_at}
use Rattle.check_tighten.specs.Own.{single_stages, own_stages, fitted, without_stage}
use Rattle.check_tighten.specs.Tight.{Passes, WaitAt}
use Rattle.check_tighten.specs.Tightened.{LessWait, LessStage, OwnAlone, Succeeds, Tries}
use Rattle.check_tighten.specs.declared.trial.Trial.{Trial}
use Rattle.check_tighten.proofs.Programs.{one_queue, one_wait}
use Rattle.check_tighten.proofs.Trials.{came_without, came_stage, came_fitted}
use Rattle.check_tighten.proofs.Turning.{tries_some}

-- NO WAIT

module _ (program : Program) (q b k : ℕ) (none : HasWait program q b k → ⊥) where
  nowhere : (queue : Queue) (batch : Batch) (wait : WaitFor) → WaitAt program q b k queue batch wait → ⊥
  nowhere queue batch wait at = none (record { queue = queue; batch = batch; wait = wait; at = at })

  pub no_wait : WaitTried program q b k
  no_wait queue batch wait at = absurd (nowhere queue batch wait at)

  pub no_stage : (stage : ℕ) → StageTried program q b k stage
  no_stage stage queue batch wait at = absurd (nowhere queue batch wait at)

  pub no_fit : FitTried program q b k
  no_fit queue batch wait at = absurd (nowhere queue batch wait at)

-- A WAIT

module _ (program : Program) (q b k : ℕ) (family : Family) (found : WaitFor) (s : StandsAt program q b k family found) where
  pub there : HasWait program q b k
  there = record { queue = s.queue; batch = s.batch; wait = found; at = s.at }

  family_at : (queue : Queue) (batch : Batch) (wait : WaitFor) → WaitAt program q b k queue batch wait → family ≡ queue.family
  family_at queue batch wait at = sym (ap (λ z. z.family) (one_queue program q b s.queue queue s.batch batch s.at.batch_at at.batch_at) ∙ s.family_is)

  found_at : (queue : Queue) (batch : Batch) (wait : WaitFor) → WaitAt program q b k queue batch wait → found ≡ wait
  found_at queue batch wait at = sym (one_wait program q b k s.queue queue s.batch batch found wait s.at at)

  -- the own stages of the wait
  own_at : (queue : Queue) (batch : Batch) (wait : WaitFor) → WaitAt program q b k queue batch wait → own_stages family found.stages.0 ≡ own_stages queue.family wait.stages.0
  own_at queue batch wait at =
      ap (λ f. own_stages f found.stages.0) (family_at queue batch wait at)
      ∙ ap (λ w. own_stages queue.family w.stages.0) (found_at queue batch wait at)

  -- an edit of the wait, by the family of its queue
  module _ (new : WaitFor) (edit : Family → WaitFor → WaitFor) (is : new ≡ edit family found) where
    new_at : (queue : Queue) (batch : Batch) (wait : WaitFor) → WaitAt program q b k queue batch wait → new ≡ edit queue.family wait
    new_at queue batch wait at = is ∙ (ap (λ f. edit f found) (family_at queue batch wait at) ∙ ap (edit queue.family) (found_at queue batch wait at))

    as_edited : (trial : Trial) → ((queue : Queue) (batch : Batch) → BatchAt program q b queue batch → Tried program (program_with q b (slice_set batch.waits k new) program) trial.program trial.changed) → (queue : Queue) (batch : Batch) (wait : WaitFor) → WaitAt program q b k queue batch wait → Tried program (program_with q b (slice_set batch.waits k (edit queue.family wait)) program) trial.program trial.changed
    as_edited trial h queue batch wait at = subst (λ w. Tried program (program_with q b (slice_set batch.waits k w) program) trial.program trial.changed) (new_at queue batch wait at) (h queue batch at.batch_at)

  module _ {E : Type 0} (r : Result Trial E) where
    abbrev WithoutTried : Type 0
    WithoutTried = IfOk r (λ trial. (queue : Queue) (batch : Batch) → BatchAt program q b queue batch → Tried program (program_with q b (without_at k batch.waits) program) trial.program trial.changed)

    abbrev NewTried : WaitFor → Type 0
    NewTried new = IfOk r (λ trial. (queue : Queue) (batch : Batch) → BatchAt program q b queue batch → Tried program (program_with q b (slice_set batch.waits k new) program) trial.program trial.changed)

    abbrev HasCome : Type 0
    HasCome = IfOk r (λ trial. Came program trial.program trial.changed)

  pub left_came : {E : Type 0} (r : Result Trial E) → WithoutTried r → HasCome r
  left_came (Ok trial) h = came_without program q b k s.queue s.batch found s.at trial.program trial.changed (h s.queue s.batch s.at.batch_at)
  left_came (Err e) h = tt

  pub left_tried : {E : Type 0} (r : Result Trial E) → WithoutTried r → IfOk r (λ trial. trial.changed ≡ false → WaitTried program q b k)
  left_tried (Ok trial) h = λ same queue batch wait at. ((h queue batch at.batch_at).refused same).1
  left_tried (Err e) h = tt

  pub left_succeeds : {E : Type 0} (r : Result Trial E) → WithoutTried r → IfOk r (λ trial. trial.changed ≡ true → Succeeds (LessWait q b k) program trial.program)
  left_succeeds (Ok trial) h = λ changed.
      let kept = (h s.queue s.batch s.at.batch_at).proved_sound changed in
      record {
        candidate = record { queue = s.queue; batch = s.batch; wait = found; at = s.at; is = kept.0 };
        passes = subst Passes (sym kept.0) kept.1;
      }
  left_succeeds (Err e) h = tt

  module _ (stage : ℕ) (new : WaitFor) (is : new ≡ without_stage family stage found) where
    pub stage_came : {E : Type 0} (r : Result Trial E) → (i : ℕ) × (slice_get single_stages i ≡ Some stage) → has (own_stages family found.stages.0) stage ≡ true → NewTried r new → HasCome r
    stage_came (Ok trial) one has_it h =
        came_stage program q b k s.queue s.batch found s.at trial.program trial.changed one.0 stage one.1
        (subst (λ o. has o stage ≡ true) (own_at s.queue s.batch found s.at) has_it)
        (as_edited new (λ f. without_stage f stage) is trial h s.queue s.batch found s.at)
    stage_came (Err e) one has_it h = tt

    pub stage_tried : {E : Type 0} (r : Result Trial E) → NewTried r new → IfOk r (λ trial. trial.changed ≡ false → StageTried program q b k stage)
    stage_tried (Ok trial) h = λ same queue batch wait at has_it. ((as_edited new (λ f. without_stage f stage) is trial h queue batch wait at).refused same).1
    stage_tried (Err e) h = tt

    pub stage_turn : {E : Type 0} (r : Result Trial E) → has (own_stages family found.stages.0) stage ≡ true → NewTried r new → IfOk r (λ trial. Tries (LessStage q b k stage) program trial.program)
    stage_turn (Ok trial) has_it h =
        tries_some (LessStage q b k stage) program (program_with q b (slice_set s.batch.waits k (without_stage s.queue.family stage found)) program) trial.program trial.changed
        (record { queue = s.queue; batch = s.batch; wait = found; at = s.at; own = subst (λ o. has o stage ≡ true) (own_at s.queue s.batch found s.at) has_it; is = refl })
        (λ c l. subst (λ p. Tried program p trial.program trial.changed) (sym l.is) (as_edited new (λ f. without_stage f stage) is trial h l.queue l.batch l.wait l.at))
    stage_turn (Err e) has_it h = tt

  -- where the stage is none of its own
  pub stage_absent : (stage : ℕ) → has (own_stages family found.stages.0) stage ≡ false → StageTried program q b k stage
  stage_absent stage none queue batch wait at has_it = absurd (clash (sym none ∙ (ap (λ o. has o stage) (own_at queue batch wait at) ∙ has_it)))

  module _ (new : WaitFor) (is : new ≡ fitted family found) where
    pub fit_came : {E : Type 0} (r : Result Trial E) → (found.stages.0 == own_stages family found.stages.0) ≡ false → NewTried r new → HasCome r
    fit_came (Ok trial) other h =
        came_fitted program q b k s.queue s.batch found s.at trial.program trial.changed
        (λ same. clash (sym other ∙ eq-eqb found.stages.0 (own_stages family found.stages.0) (same ∙ sym (own_at s.queue s.batch found s.at))))
        (as_edited new fitted is trial h s.queue s.batch found s.at)
    fit_came (Err e) other h = tt

    pub fit_tried : {E : Type 0} (r : Result Trial E) → NewTried r new → IfOk r (λ trial. trial.changed ≡ false → FitTried program q b k)
    fit_tried (Ok trial) h = λ same queue batch wait at other. ((as_edited new fitted is trial h queue batch wait at).refused same).1
    fit_tried (Err e) h = tt

    pub fit_turn : {E : Type 0} (r : Result Trial E) → (found.stages.0 == own_stages family found.stages.0) ≡ false → NewTried r new → IfOk r (λ trial. Tries (OwnAlone q b k) program trial.program)
    fit_turn (Ok trial) other h =
        tries_some (OwnAlone q b k) program (program_with q b (slice_set s.batch.waits k (fitted s.queue.family found)) program) trial.program trial.changed
        (record {
          queue = s.queue;
          batch = s.batch;
          wait = found;
          at = s.at;
          others = λ same. clash (sym other ∙ eq-eqb found.stages.0 (own_stages family found.stages.0) (same ∙ sym (own_at s.queue s.batch found s.at)));
          is = refl;
        })
        (λ c l. subst (λ p. Tried program p trial.program trial.changed) (sym l.is) (as_edited new fitted is trial h l.queue l.batch l.wait l.at))
    fit_turn (Err e) other h = tt

  -- where it has its own stages alone
  pub fit_done : (found.stages.0 == own_stages family found.stages.0) ≡ true → FitTried program q b k
  fit_done same queue batch wait at other =
      absurd (other (ap (λ w. w.stages.0) (sym (found_at queue batch wait at)) ∙ (eqb-true found.stages.0 (own_stages family found.stages.0) same ∙ own_at queue batch wait at)))
