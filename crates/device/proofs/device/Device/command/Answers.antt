use Rattle.std.proofs.Common.{◌≡◌, ◌∙◌, true, Some, refl, sym, ap, subst}
use Rattle.check_program.specs.Apart.{op_at}
use Rattle.device.proofs.Reaches.{room_on}
use Rattle.device.proofs.device.Device.command.Goals as goal
use Rattle.device_model.specs.Devices.{Device}
use Rattle.device_model.specs.Ready.{is_command, kind_at}
use Rattle.program.specs.Rules.{shapes_of}
use Rattle.program.specs.declared.program.Program.{Program}
use Rattle.check_access.specs.Views.{view_of}

pub op_of-requires-clause-command : goal.op_of-requires-clause-command
op_of-requires-clause-command c = subst (λ (p : Program). is_command (kind_at (view_of p) c.args.node) ≡ true) (sym (c.deref.ensures ∙ ap (λ (d : Device). d.program) c.self.view_is)) c.requires.command

pub returns-clause-command : goal.returns-clause-command
returns-clause-command c = record {
  node = refl;
  op = ap (λ (p : Program). op_at p c.args.node) (sym (c.deref.ensures ∙ ap (λ (d : Device). d.program) c.self.view_is)) ∙ c.op_of.ensures ∙ ap Some (sym c.in_ok-op.ensures);
  shapes = c.in_ok-shapes.ensures ∙ c.self.invariant.shapes ∙ ap (λ (d : Device). shapes_of d.program) c.self.view_is;
  loaded = c.in_ok-loaded.ensures;
}

pub returns-clause-room : goal.returns-clause-room
returns-clause-room c =
    let e = returns-clause-command c in
    room_on c.self.inside c.self.invariant c.args.self.now c.self.view_is c.args.node c.requires.command c.requires.node c.in_ok-op.op e.op c.in_ok-shapes.shapes e.shapes _ refl
