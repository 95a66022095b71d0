use Rattle.std.proofs.Common.{◌≡◌, ◌/◌, ℕ, refl, subst, sym}
use Rattle.device_model.specs.Devices.{Device}
use Rattle.flight_file.proofs.Flown.{gave_up, ran_flown, ran_prints, ran_reads}
use Rattle.flight_file.proofs.flying.fly_window.Goals as goal
use Rattle.flight_file.specs.Internal.Flying.{CanRead, IsGathered, Prints}

pub run_window-requires-clause-there : goal.run_window-requires-clause-there
run_window-requires-clause-there g c κs within = c.requires.there

pub run_window-requires-clause-persisted : goal.run_window-requires-clause-persisted
run_window-requires-clause-persisted g c κs within = c.requires.persisted.sized

pub returns-in_err-ran : goal.returns-in_err-ran
returns-in_err-ran g c = gave_up c.from_residual.result _ _ c.from_residual.ensures.1

pub returns-in_err-gather : goal.returns-in_err-gather
returns-in_err-gather g c = gave_up c.from_residual-in_err-gather.result _ _ c.from_residual-in_err-gather.ensures.1

pub gather-requires-clause-windows : goal.gather-requires-clause-windows
gather-requires-clause-windows g c = c.requires.windows

pub gather-requires-clause-there : goal.gather-requires-clause-there
gather-requires-clause-there g c = c.requires.there

pub gather-requires-clause-read : goal.gather-requires-clause-read
gather-requires-clause-read g c =
    subst (λ (device : Device). CanRead c.args.windows.now c.args.w c.args.flying.now.persisted device) (sym c.device.ensures.device)
    (ran_reads c.args.plan.now.options.tend c.args.windows.now c.args.w c.in_ok-ran.ran c.args.flying.now c.requires.persisted c.in_ok-ran.ensures)

pub gather-requires-clause-prints : goal.gather-requires-clause-prints
gather-requires-clause-prints g c =
    let F = c.args.windows.now in
    let exports = c.flight_laws.ensures.exports F.frames F.persist F.depth c.count-count.ensures.fly in
    subst (λ (device : Device). (i : ℕ) → i / F.depth ≡ c.args.w → Prints F i device) (sym c.device.ensures.device)
    (ran_prints c.args.plan.now.options.tend F c.args.w c.in_ok-ran.ran c.args.flying.now c.requires.persisted c.in_ok-ran.ensures exports)

pub gather-requires-clause-text : goal.gather-requires-clause-text
gather-requires-clause-text g c = c.requires.text

pub same-ran : goal.same-ran
same-ran g c = refl

pub returns : goal.returns
returns g c =
    let F = c.args.windows.now in
    let fly = c.count-count.ensures.fly in
    let exports = c.flight_laws.ensures.exports F.frames F.persist F.depth fly in
    let holds = c.flight_laws.ensures.next F.frames F.persist F.depth fly in
    ran_flown c.args.plan.now.options.tend F c.args.w c.in_ok-ran.ran c.args.flying.now c.requires.persisted c.in_ok-ran.ensures exports holds c.requires.there c.gather.new.flying
    (subst (λ (device : Device). IsGathered F c.args.w device c.args.flying.now c.gather.new.flying) c.device.ensures.device c.in_ok-gather.ensures)
