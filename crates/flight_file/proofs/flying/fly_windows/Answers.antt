use Rattle.std.proofs.Common.{◌<◌, ℕ, subst}
use Rattle.flight_file.proofs.Flown.{all_flown, gave_up, kept_flown}
use Rattle.flight_file.proofs.flying.fly_windows.Goals as goal
use Rattle.flight_file.specs.Internal.Flying.{IsFlown}
use Rattle.device_run.proofs.Keeping.{kept_so, none_kept}

pub loop-w-init : goal.loop-w-init
loop-w-init g c =
    none_kept (g.K.Keep.kept c.args.keeper.now) (λ devices. IsFlown c.args.plan.now.options.tend c.args.windows.now 0 devices c.in_ok-flying.flying) (c.in_ok-flying.ensures c.args.plan.now.options.tend)

pub fly_window-requires-clause-there : goal.fly_window-requires-clause-there
fly_window-requires-clause-there g c κs within = subst (λ (n : ℕ). c.loop-w.w < n) c.count-w-end.ensures.count c.loop-w-test.true

pub fly_window-requires-clause-persisted : goal.fly_window-requires-clause-persisted
fly_window-requires-clause-persisted g c κs within = c.loop-w.invariant.meets.persisted

pub fly_window-requires-clause-text : goal.fly_window-requires-clause-text
fly_window-requires-clause-text g c κs within = c.loop-w.invariant.meets.text

pub loop-w-preserved : goal.loop-w-preserved
loop-w-preserved g c =
    kept_flown c.args.plan.now.options.tend c.args.windows.now c.loop-w.w c.in_ok-ran.ran c.loop-w.flying c.fly_window.new.flying (g.K.Keep.kept c.args.keeper.now) (g.K.Keep.kept c.loop-w.keeper) (g.K.Keep.kept c.keep.new.self) c.loop-w.invariant c.in_ok-ran.ensures c.in_ok-keep.ensures

pub returns : goal.returns
returns g c =
    kept_so _ _ _ _ c.loop-w.invariant (all_flown c.args.plan.now.options.tend c.args.windows.now c.count-w-end.result c.loop-w.w c.loop-w.flying c.count-w-end.ensures.fly.deep c.count-w-end.ensures.count c.loop-w-test.false c.loop-w.auto.w-end)

pub returns-in_err-flying : goal.returns-in_err-flying
returns-in_err-flying g c = gave_up c.from_residual.result _ _ c.from_residual.ensures.1

pub returns-in_err-ran : goal.returns-in_err-ran
returns-in_err-ran g c = gave_up c.from_residual-in_err-ran.result _ _ c.from_residual-in_err-ran.ensures.1

pub returns-in_err-keep : goal.returns-in_err-keep
returns-in_err-keep g c = gave_up c.from_residual-in_err-keep.result _ _ c.from_residual-in_err-keep.ensures.1

pub fly_window-requires-clause-windows : goal.fly_window-requires-clause-windows
fly_window-requires-clause-windows g c κs within = c.requires.windows
