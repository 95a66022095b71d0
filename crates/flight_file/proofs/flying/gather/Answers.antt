use Rattle.std.proofs.Common.{◌∙◌, ◌++◌, List, ap}
use Rattle.base.specs.declared.event.Event.{Event}
use Rattle.flight_file.proofs.Flown.{gave_up, on_ok}
use Rattle.flight_file.proofs.flying.gather.Goals as goal

pub add_window-requires-clause-windows : goal.add_window-requires-clause-windows
add_window-requires-clause-windows c = c.requires.windows

pub add_window-requires-clause-there : goal.add_window-requires-clause-there
add_window-requires-clause-there c = c.requires.there

pub add_window-requires-clause-prints : goal.add_window-requires-clause-prints
add_window-requires-clause-prints c = c.requires.prints

pub add_window-requires-clause-text : goal.add_window-requires-clause-text
add_window-requires-clause-text c = c.requires.text

pub returns-in_err-add_window : goal.returns-in_err-add_window
returns-in_err-add_window c = gave_up c.from_residual.result _ _ c.from_residual.ensures.1

pub returns-in_err-extend_from_slice : goal.returns-in_err-extend_from_slice
returns-in_err-extend_from_slice c = gave_up c.from_residual-in_err-extend_from_slice.result _ _ c.from_residual-in_err-extend_from_slice.ensures.1

pub hold-requires-clause-there : goal.hold-requires-clause-there
hold-requires-clause-there c = c.requires.there

pub hold-requires-clause-read : goal.hold-requires-clause-read
hold-requires-clause-read c = c.requires.read

pub returns : goal.returns
returns c =
    on_ok c.hold.result _ _ c.hold.ensures (λ persisted. record {
      text = c.in_ok-add_window.ensures;
      history = c.in_ok-extend_from_slice.ensures.ok ∙ ap (λ (es : List Event). c.args.flying.now.history ++ es) c.history.ensures.history;
      persisted = persisted;
    })
