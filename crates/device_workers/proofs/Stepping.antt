-- What a hold of a worker did.
use Rattle.std.proofs.Common.{◌≡◌, ℕ, Bool, true, if◌then◌else◌, refl, sym, ap, ◌∙◌, subst, ⊎_elim}
use Rattle.std.specs.Prelude.{Result, Ok, Err, IfOk}
use Rattle.base.specs.declared.event.Event.TheVariants.{Begin, End}
use Rattle.device.specs.declared.job.Command.{Command}
use Rattle.device.specs.Carried.{Carries}
use Rattle.device_model.specs.Devices.{Device, state_of, did, is_ready, NoneBegun}
use Rattle.device_model.specs.Ready.{is_command}
use Rattle.device_model.specs.Rounds.{IsRound, MayGo}
use Rattle.device_model.specs.Runs.{GoesOnBy}
use Rattle.device_model.specs.declared.phase.Phase.TheVariants.{Begun}
use Rattle.device_model.proofs.Control.{put_at}
use Rattle.device_model.specs.States.{is_begun}
use Rattle.device_workers.specs.Holds.{Lands}
use Rattle.device_workers.specs.WorkerSteps.{IsChosen, Begins, Goes, WorkerSteps}
use Rattle.device_workers.specs.declared.step.WorkerStep.{WorkerStep}
use Rattle.device_workers.specs.declared.step.WorkerStep.TheVariants.{Compute, Stepped, Complete, Wait}

-- a ready command begins
pub begins : (old new : Device) (n : ℕ) (job : Command) → GoesOnBy old n → MayGo is_command old n → new ≡ did old (Begin n) → Carries new n job → Begins old new n job
begins old new n job goes may event carries = record {
  command = may.kind;
  event = event;
  carries = carries;
  begun = ap (λ d. is_begun ((state_of d).phase n)) event ∙ ap (λ s. is_begun (s.phase n)) (goes.begins may.kind may.ready) ∙ ap is_begun (put_at (state_of old).phase n n Begun refl);
}

-- the event of the chosen node is a step
stepped : (old new : Device) (own n : ℕ) → IsChosen old own n → (step : WorkerStep) → Goes old new n step → WorkerSteps old new own step
stepped old new own n chosen (Compute job) goes = (subst (IsChosen old own) (sym goes.carries.node) chosen, subst (λ (k : ℕ). Begins old new k job) (sym goes.carries.node) goes)
stepped old new own n chosen Stepped goes = (n, (chosen, goes))
stepped old new own n chosen Complete goes = absurd goes
stepped old new own n chosen Wait goes = absurd goes

pub all_stepped : {E : Type 0} (old new : Device) (own n : ℕ) → IsChosen old own n → (r : Result WorkerStep E) → IfOk r (Goes old new n) → IfOk r (WorkerSteps old new own)
all_stepped old new own n chosen (Ok step) goes = stepped old new own n chosen step goes
all_stepped old new own n chosen (Err e) goes = goes

pub ready : (d : Device) (own n : ℕ) → IsChosen d own n → is_ready d n ≡ true
ready d own n = ⊎_elim (λ next. next.may) (λ other. other.1.next.may)

-- a command begins and ends, and nothing else is begun
pub round : (e f g : Device) (own : ℕ) (job done : Command) → done ≡ job → NoneBegun e → ((n : ℕ) → IsRound e n) → WorkerSteps e f own (Compute job) → Lands f g done.node → NoneBegun g
round e f g own job done same idle rounds step lands =
    let n = job.node in
    let begins = step.1 in
    let ends : g ≡ did f (End n) = lands ∙ ap (λ (x : Command). if is_begun ((state_of f).phase x.node) then did f (End x.node) else f) same ∙ ap (λ (b : Bool). if b then did f (End n) else f) begins.begun in
    let is : g ≡ did (did e (Begin n)) (End n) = ends ∙ ap (λ (x : Device). did x (End n)) begins.event in
    subst NoneBegun (sym is) ((rounds n).command (record { kind = begins.command; ready = ready e own n step.0 })).idle

-- a node that is no command is done
pub finish_step : (e f : Device) (own : ℕ) → NoneBegun e → ((n : ℕ) → IsRound e n) → WorkerSteps e f own Stepped → NoneBegun f
finish_step e f own idle rounds step =
    let n = step.0 in
    let may = ready e own n step.1.0 in
    ⊎_elim
    (λ sync. subst NoneBegun (sym sync.1) ((rounds n).sync (record { kind = sync.0; ready = may })).idle)
    (λ host. subst NoneBegun (sym host.1) ((rounds n).host (record { kind = host.0; ready = may })).idle)
    step.1.1
