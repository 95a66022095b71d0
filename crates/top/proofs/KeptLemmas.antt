-- Devices that a keeper was handed.
use Rattle.std.proofs.Common.{◌≡◌, ℕ, List, [], ◌∷◌, Bool, Result, Ok, Err, refl, sym, subst, inr}
use Rattle.std.specs.Prelude.{◌⊎◌, IfOk}
use Rattle.std.specs.declared.option.Option.{Option}
use Rattle.answer.specs.Plain.{Rejects, program_refusal, refusal}
use Rattle.answer.specs.declared.answer.Answer.{Answer}
use Rattle.base.specs.declared.run_options.RunOptions.{RunOptions}
use Rattle.cli.specs.declared.form.Form.TheVariants.{Line}
use Rattle.device_model.specs.Devices.{Device}
use Rattle.device_run.proofs.Keeping.{kept_none, none_kept}
use Rattle.device_run.specs.Keepers.{Kept, KeptDevices}
use Rattle.frame.specs.declared.fault.FrameFault.{FrameFault}
use Rattle.frame.specs.declared.frame.Frame.{Frame}
use Rattle.program.specs.declared.fault.ProgramFault.{ProgramFault}
use Rattle.program.specs.declared.program.Program.{Program}
use Rattle.top.specs.Answers.{ExecutesFile, RunsFile}
use Rattle.top.specs.Headline.{Executes}
use Rattle.top.specs.Replies.{IsStill, ran, still}
use Rattle.top.specs.declared.reply.Reply.{Reply}

-- the reply of a device that was handed over
pub handed : {E : Type 0} (r : Result Reply E) (old new : Option (List Device)) (d : Device) (text : List ℕ) (P : List Device → Reply → Type 0) → IfOk r (λ reply. reply ≡ ran d text) → IfOk r (λ _. KeptDevices old new (d ∷ [])) → P (d ∷ []) (ran d text) → IfOk r (λ reply. Kept old new (λ devices. P devices reply))
handed (Ok reply) old new d text P is kept holds = record { devices = d ∷ []; kept = kept; meets = subst (P (d ∷ [])) (sym is) holds }
handed (Err e) old new d text P is kept holds = tt

-- WHERE NO DEVICE RAN

-- a keeper that tells the same as before
pub unkept : (old new : Option (List Device)) → new ≡ old → KeptDevices old new []
unkept old new same = subst (λ (o : Option (List Device)). KeptDevices old o []) (sym same) (kept_none old)

-- taps are told nothing of an answer
pub is_still : (Holds : Answer → Type 0) (answer : Answer) → Holds answer → IsStill Holds [] (still answer)
is_still Holds answer is = record { answer = is; untold = refl; none = refl }

-- a frame file with a fault
pub runs_refused : (options : RunOptions) (trace tight : Bool) (file : Result Frame FrameFault) (fault : FrameFault) (o : Option (List Device)) (answer : Answer) → file ≡ Err fault → answer ≡ refusal Line fault → Kept o o (λ devices. RunsFile options trace tight file devices (still answer))
runs_refused options trace tight file fault o answer is told =
    none_kept o (λ devices. RunsFile options trace tight file devices (still answer)) (subst (λ (f : Result Frame FrameFault). RunsFile options trace tight f [] (still answer)) (sym is) (is_still (λ a. a ≡ refusal Line fault) answer told))

-- a submission with a fault, and one that is not sound
pub executes_refused : (options : RunOptions) (trace : Bool) (file : Result Program ProgramFault) (fault : ProgramFault) (o : Option (List Device)) (answer : Answer) → file ≡ Err fault → answer ≡ program_refusal Line fault → Kept o o (λ devices. ExecutesFile options trace file devices (still answer))
executes_refused options trace file fault o answer is told =
    none_kept o (λ devices. ExecutesFile options trace file devices (still answer)) (subst (λ (f : Result Program ProgramFault). ExecutesFile options trace f [] (still answer)) (sym is) (is_still (λ a. a ≡ program_refusal Line fault) answer told))

pub executes_rejected : (options : RunOptions) (trace : Bool) (program : Program) (o : Option (List Device)) (answer : Answer) → Rejects Line program answer → Kept o o (λ devices. Executes options trace program devices (still answer) ⊎ IsStill (Rejects Line program) devices (still answer))
executes_rejected options trace program o answer is = none_kept o (λ devices. Executes options trace program devices (still answer) ⊎ IsStill (Rejects Line program) devices (still answer)) (inr (is_still (Rejects Line program) answer is))
