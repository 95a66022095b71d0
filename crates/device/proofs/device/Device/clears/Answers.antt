use Rattle.std.proofs.Common.{◌≡◌, ◌∙◌, true, sym, ap, subst}
use Rattle.device.proofs.device.Device.clears.Goals as goal
use Rattle.device_model.specs.Devices.{Device}
use Rattle.device_model.specs.Ready.{is_command, kind_at}
use Rattle.program.specs.declared.program.Program.{Program}
use Rattle.check_access.specs.Views.{view_of}

pub op_of-op-requires-clause-command : goal.op_of-op-requires-clause-command
op_of-op-requires-clause-command c = subst (λ (p : Program). is_command (kind_at (view_of p) c.args.node) ≡ true) (sym (c.deref.ensures ∙ ap (λ (d : Device). d.program) c.self.view_is)) c.requires.command
