use Rattle.std.proofs.Common.{◌∙◌, ℕ, List, Option, IfOk, false, sym, ap, subst}
use Rattle.flight.specs.Flights.{ArePersisted, window_at}
use Rattle.flight_file.proofs.Flown.{gave_up}
use Rattle.flight_file.proofs.flying.run_window.Goals as goal
use Rattle.frame.specs.Numbered.{numbered}
use Rattle.frame.specs.declared.frame.Frame.{Frame}
use Rattle.device_run.specs.FrameRuns.{RunsOn}

pub frame-requires-clause-there : goal.frame-requires-clause-there
frame-requires-clause-there g c = c.requires.there

pub frame-requires-clause-persisted : goal.frame-requires-clause-persisted
frame-requires-clause-persisted g c =
    subst (λ (h : List (Option (List ℕ))). ArePersisted c.args.windows.now.frames c.args.windows.now.persist h) (sym c.deref.ensures) c.requires.persisted

pub returns-in_err-good : goal.returns-in_err-good
returns-in_err-good g c = gave_up c.from_residual.result _ _ c.from_residual.ensures.1

pub returns : goal.returns
returns g c =
    let F = c.args.windows.now in
    let made = c.in_ok-good.ensures ∙ ap (λ (h : List (Option (List ℕ))). window_at F.frames F.persist F.depth h c.args.w) c.deref.ensures in
    subst (λ (f : Frame). IfOk c.run_good.result (RunsOn c.args.options.tend false (numbered f))) made c.run_good.ensures
