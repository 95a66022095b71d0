use Rattle.std.proofs.Common.{◌≡◌, ℕ, true, [], ◌∷◌, sym, ap, ◌∙◌, subst}
use Rattle.std.proofs.lemmas.Bool.{false≢true}
use Rattle.base.specs.declared.event.Event.TheVariants.{Begin, End}
use Rattle.device.specs.declared.job.Command.{Command}
use Rattle.device_drive.proofs.Advancing.{with_command}
use Rattle.device_drive.proofs.Calming.{still_may, still_begun, begins, round_command}
use Rattle.device_drive.proofs.Driving.{does_two}
use Rattle.device_drive.proofs.round.run_command.Goals as goal
use Rattle.device_drive.specs.Internal.Keepers.{Advanced, Calm, Does, Tends}
use Rattle.device_model.specs.Devices.{Device, state_of, did}
use Rattle.device_model.specs.Ready.{is_command}
use Rattle.device_model.specs.Rounds.{Round}
use Rattle.device_model.specs.States.{is_begun}

pub begin-requires-clause-ready : goal.begin-requires-clause-ready
begin-requires-clause-ready g c = (still_may c.args.device.now c.tend.new.device c.tend.ensures.calm is_command c.args.node c.requires.may).ready

pub unreachable-requires : goal.unreachable-requires
unreachable-requires g c =
    let a = c.args.device.now in
    let b = c.tend.new.device in
    let d = c.tend-2.new.device in
    let n = c.args.node in
    let between : Calm (did b (Begin n)) d = subst (λ (x : Device). Calm x d) c.in_ok-job.ensures.event c.tend-2.ensures.calm in
    let begun : is_begun ((state_of d).phase n) ≡ true = still_begun (did b (Begin n)) d between n (begins a b n c.requires.idle c.tend.ensures.calm c.requires.may) in
    let node : c.compute-done.result.node ≡ n = ap (λ (x : Command). x.node) c.compute-done.ensures ∙ c.in_ok-job.ensures.job.node in
    false≢true (sym c.in-NotBegun.ensures.landed ∙ ap (λ (k : ℕ). is_begun ((state_of d).phase k)) node ∙ begun)

pub returns-clause-advanced : goal.returns-clause-advanced
returns-clause-advanced g c =
    let a = c.args.device.now in
    let b = c.tend.new.device in
    let d = c.tend-2.new.device in
    let n = c.args.node in
    let l = c.tend.new.self in
    let m = c.tend-2.new.self in
    let node : c.compute-done.result.node ≡ n = ap (λ (x : Command). x.node) c.compute-done.ensures ∙ c.in_ok-job.ensures.job.node in
    let between : Advanced (did b (Begin n)) d l m = subst (λ (x : Device). Advanced x d l m) c.in_ok-job.ensures.event c.tend-2.ensures.advanced in
    subst (λ (x : Device). Advanced a x c.args.keeper.now m) (sym (c.in-Done.ensures.event ∙ ap (λ (k : ℕ). did d (End k)) node)) (with_command a b d c.args.keeper.now l m n c.tend.ensures.advanced between)

pub returns-clause-round : goal.returns-clause-round
returns-clause-round g c =
    let a = c.args.device.now in
    let b = c.tend.new.device in
    let d = c.tend-2.new.device in
    let n = c.args.node in
    let node : c.compute-done.result.node ≡ n = ap (λ (x : Command). x.node) c.compute-done.ensures ∙ c.in_ok-job.ensures.job.node in
    let between : Calm (did b (Begin n)) d = subst (λ (x : Device). Calm x d) c.in_ok-job.ensures.event c.tend-2.ensures.calm in
    subst (λ (x : Device). Round a x) (sym (c.in-Done.ensures.event ∙ ap (λ (k : ℕ). did d (End k)) node)) (round_command a b n c.requires.idle c.tend.ensures.calm d c.requires.may between)

pub returns-clause-does : goal.returns-clause-does
returns-clause-does g c =
    let a = c.args.device.now in
    let b = c.tend.new.device in
    let d = c.tend-2.new.device in
    let n = c.args.node in
    let l = c.tend.new.self in
    let m = c.tend-2.new.self in
    let node : c.compute-done.result.node ≡ n = ap (λ (x : Command). x.node) c.compute-done.ensures ∙ c.in_ok-job.ensures.job.node in
    let between : Tends (did b (Begin n)) d l m = subst (λ (x : Device). Tends x d l m) c.in_ok-job.ensures.event c.tend-2.ensures.tends in
    subst (λ (x : Device). Does (Begin n ∷ End n ∷ []) a x c.args.keeper.now m) (sym (c.in-Done.ensures.event ∙ ap (λ (k : ℕ). did d (End k)) node)) (does_two a b d c.args.keeper.now l m (Begin n) (End n) c.tend.ensures.tends between)
