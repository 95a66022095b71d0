use Rattle.std.proofs.Common.{sym, ap, ◌∙◌}
use Rattle.device_model.specs.Ready.{is_command}
use Rattle.device_workers.proofs.Stepping.{begins}
use Rattle.device_workers.proofs.step.go.Goals as goal

pub returns-in-Command-clause-ok : goal.returns-in-Command-clause-ok
returns-in-Command-clause-ok c =
    let d = c.args.device.now in
    let n = c.args.node in
    begins d c.begin.new.self n c.in_ok-begin-in-Command.field-0 (c.event_laws.ensures.nodes d n)
    (record { kind = ap is_command (sym c.kind.ensures ∙ c.in-Command.is); ready = c.requires.ready })
    c.in_ok-begin-in-Command.ensures.event
    c.in_ok-begin-in-Command.ensures.job
