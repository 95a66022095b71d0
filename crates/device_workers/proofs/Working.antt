-- A worker on its way, hold by hold.
use Rattle.std.proofs.Common.{◌≡◌, ◌+◌, ℕ, Option, refl, sym, ap, ◌∙◌, subst, arith}
use Rattle.device.specs.declared.job.Command.{Command}
use Rattle.device_model.specs.Devices.{Device, NoneBegun}
use Rattle.device_model.specs.Rounds.{IsRound}
use Rattle.device.specs.declared.job.Landed.{Landed}
use Rattle.device_workers.proofs.Holding.{both, both_so, both_then}
use Rattle.device_workers.proofs.Stepping.{round, finish_step}
use Rattle.device_workers.specs.Internal.Loops.{StillWorks}
use Rattle.device_workers.specs.Parts.{WorkerPart, ends_of, CountsStep, CountsEnd, KeepsParts, FindsEnd}
use Rattle.device_workers.specs.Holds.{Both, Lands, Works, here, by_step, by_end, StepsTo, LandsTo, WorksTo, LeavesNone}
use Rattle.device_workers.specs.WorkerSteps.{WorkerSteps}
use Rattle.device_workers.specs.declared.step.WorkerStep.{WorkerStep}
use Rattle.device_workers.specs.declared.step.WorkerStep.TheVariants.{Compute, Stepped, Complete, Wait}

-- WHICH HOLDS IT MAKES

pub no_holds : (a : Option Device) (own : ℕ) → WorksTo a a own
no_holds a own = both a (λ d e. Works own d e) (λ d. here)

pub one_step : (a b c : Option Device) (own : ℕ) (step : WorkerStep) → WorksTo a b own → StepsTo b c own step → WorksTo a c own
one_step a b c own step = both_then a b c (λ d e. Works own d e) (λ d e. WorkerSteps d e own step) (λ d e. Works own d e) (λ d e f so_far hold. by_step step so_far hold)

pub one_end : (a b c : Option Device) (own n : ℕ) → WorksTo a b own → LandsTo b c n → WorksTo a c own
one_end a b c own n = both_then a b c (λ d e. Works own d e) (λ d e. Lands d e n) (λ d e. Works own d e) (λ d e f so_far hold. by_end n so_far hold)

-- WHAT IS BEGUN MEANWHILE

abbrev Leaves : Device → Device → Type 0
Leaves old new = NoneBegun old → NoneBegun new

abbrev Rounds : Type 0
Rounds = (d : Device) → NoneBegun d → (n : ℕ) → IsRound d n

pub leaves_none : (a : Option Device) → LeavesNone a a
leaves_none a = both a Leaves (λ d idle. idle)

-- a hold in which it waits
pub leaves_wait : (a b c : Option Device) (own : ℕ) → LeavesNone a b → StepsTo b c own Wait → LeavesNone a c
leaves_wait a b c own = both_then a b c Leaves (λ d e. WorkerSteps d e own Wait) Leaves (λ d e f so_far hold idle. subst NoneBegun (sym hold.same) (so_far idle))

-- a command is begun, of a device on which none was begun
abbrev Between : ℕ → Command → Device → Device → Type 0
Between own job old new = (e : Device) × (Leaves old e × WorkerSteps e new own (Compute job))

pub leaves_step : (a b c : Option Device) (own : ℕ) → Rounds → LeavesNone a b → StepsTo b c own Stepped → LeavesNone a c
leaves_step a b c own rounds = both_then a b c Leaves (λ d e. WorkerSteps d e own Stepped) Leaves (λ d e f so_far hold idle. finish_step e f own (so_far idle) (rounds e (so_far idle)) hold)

pub leaves_round : (a b c f : Option Device) (own : ℕ) (job done : Command) → done ≡ job → Rounds → LeavesNone a b → StepsTo b c own (Compute job) → LandsTo c f done.node → LeavesNone a f
leaves_round a b c f own job done same rounds before step =
    both_then a c f (Between own job) (λ d e. Lands d e done.node) Leaves
    (λ d e f between lands idle. round between.0 e f own job done same (between.1.0 idle) (rounds between.0 (between.1.0 idle)) between.1.1 lands)
    (both_then a b c Leaves (λ d e. WorkerSteps d e own (Compute job)) (Between own job) (λ d e f so_far hold. (e, (so_far, hold))) before step)

-- WHAT IT COUNTS

plus_none : (n : ℕ) → n + 0 ≡ n
plus_none n = omega arith

pub still_works : (a : Option WorkerPart) → Both a a StillWorks
still_works a = both a StillWorks (λ p. record { parts = refl; ends = refl })

pub works_on : (a b c : Option WorkerPart) (step : WorkerStep) → ends_of step ≡ 0 → Both a b StillWorks → Both b c (CountsStep step) → Both a c StillWorks
works_on a b c step none = both_then a b c StillWorks (CountsStep step) StillWorks
    (λ p q r still counts. record { parts = counts.parts ∙ still.parts; ends = counts.ends ∙ ap (λ n. q.ends + n) none ∙ plus_none q.ends ∙ still.ends })

pub ends_on : (a b c : Option WorkerPart) (landed : Landed) → Both a b StillWorks → Both b c (CountsEnd landed) → Both a c StillWorks
ends_on a b c landed = both_then a b c StillWorks (CountsEnd landed) StillWorks
    (λ p q r still counts. record { parts = counts.parts ∙ still.parts; ends = counts.ends ∙ still.ends })

pub finds : (a b c : Option WorkerPart) → Both a b StillWorks → Both b c (CountsStep Complete) → Both a c FindsEnd
finds a b c = both_then a b c StillWorks (CountsStep Complete) FindsEnd
    (λ p q r still counts. counts.ends ∙ ap (λ n. n + 1) still.ends)

pub finds_parts : (a b c : Option WorkerPart) (step : WorkerStep) → Both a b StillWorks → Both b c (CountsStep step) → Both a c KeepsParts
finds_parts a b c step = both_then a b c StillWorks (CountsStep step) KeepsParts
    (λ p q r still counts. counts.parts ∙ still.parts)

pub keeps_parts : (a b c : Option WorkerPart) → c ≡ b → Both a b StillWorks → Both a c KeepsParts
keeps_parts a b c same still = subst (λ x. Both a x KeepsParts) (sym same) (both_so a b StillWorks KeepsParts (λ p q s. s.parts) still)
