use Rattle.std.proofs.Common.{◌≡◌, ◌∙◌, true, sym, ap, subst}
use Rattle.check_program.specs.Apart.{op_at}
use Rattle.device.proofs.Reaches.{runs_on, works_on}
use Rattle.device.proofs.device.Device.work.Goals as goal
use Rattle.device_model.specs.Devices.{Device}
use Rattle.device_model.specs.Ready.{is_command, kind_at}
use Rattle.program.specs.Rules.{shapes_of}
use Rattle.program.specs.declared.program.Program.{Program}
use Rattle.check_access.specs.Views.{view_of}

pub op_of-op-requires-clause-command : goal.op_of-op-requires-clause-command
op_of-op-requires-clause-command c = subst (λ (p : Program). is_command (kind_at (view_of p) c.args.node) ≡ true) (sym (c.deref.ensures ∙ ap (λ (d : Device). d.program) c.self.view_is)) c.requires.command

pub new-requires : goal.new-requires
new-requires c =
    let at = ap (λ (p : Program). op_at p c.args.node) (sym (c.deref.ensures ∙ ap (λ (d : Device). d.program) c.self.view_is)) ∙ c.op_of-op.ensures in
    let shapes = c.deref-2.ensures ∙ c.self.invariant.shapes ∙ ap (λ (d : Device). shapes_of d.program) c.self.view_is in
    runs_on c.self.inside c.self.invariant c.args.self.now c.self.view_is c.args.node c.requires.command c.requires.node c.op_of-op.result.now at c.deref-2.result.now shapes c.args.loaded.now c.requires.loaded

pub returns : goal.returns
returns c =
    let at = ap (λ (p : Program). op_at p c.args.node) (sym (c.deref.ensures ∙ ap (λ (d : Device). d.program) c.self.view_is)) ∙ c.op_of-op.ensures in
    let shapes = c.deref-2.ensures ∙ c.self.invariant.shapes ∙ ap (λ (d : Device). shapes_of d.program) c.self.view_is in
    record {
      loaded = c.requires.loaded;
      work = works_on c.self.inside c.self.invariant c.args.self.now c.self.view_is c.args.node c.requires.command c.requires.node c.op_of-op.result.now at c.deref-2.result.now shapes c.args.loaded.now c.in_ok-work.work c.in_ok-work.ensures;
    }
