use Rattle.std.proofs.Common.{◌≡◌, ◌∙◌, ℕ, List, Some, sym, ap, subst}
use Rattle.std.specs.Arc.{arc_value}
use Rattle.check_program.specs.Apart.{op_at}
use Rattle.device.proofs.Keeping.{ready_inside}
use Rattle.device.proofs.device.Device.begun.Goals as goal
use Rattle.device.specs.Internal.Loads.{LoadsIn}
use Rattle.device.specs.declared.job.Command.{Command}
use Rattle.device_model.specs.Devices.{Device, LoadsApart}
use Rattle.program.specs.Rules.{shapes_of}
use Rattle.program.specs.declared.program.Program.{Program}

pub reserve-requires : goal.reserve-requires
reserve-requires c = record { command = c.requires.command; node = ready_inside c.args.self.now c.args.node c.requires.ready; inputs = c.requires.inputs }

pub new-requires : goal.new-requires
new-requires c =
    let e = c.in_ok-command.ensures in
    let n = c.args.node in
    let program : arc_value c.in_ok-command.field-0.program ≡ c.keep.new.self.program = e.program ∙ ap (λ (d : Device). d.program) (sym c.keep.ensures.event) in
    let loads = subst (λ (p : Program). LoadsIn p n c.in_ok-command.field-0.pending.loaded) (sym program) c.keep.ensures.apart in
    let own = subst (λ (bytes : List (List ℕ)). LoadsIn (arc_value c.in_ok-command.field-0.program) n bytes) (sym e.command.loaded) loads in
    record {
      work = e.work;
      loads = subst (λ (k : ℕ). LoadsIn (arc_value c.in_ok-command.field-0.program) k c.in_ok-command.field-0.command.loaded) (sym e.command.node) own;
      room = e.room;
    }

pub returns-clause-job : goal.returns-clause-job
returns-clause-job c =
    let n = c.args.node in
    let e = c.in_ok-command.ensures.command in
    let new = c.new.ensures in
    let after = c.keep.ensures.event in
    record {
      node = ap (λ (x : Command). x.node) new ∙ e.node;
      op = ap (λ (d : Device). op_at d.program n) after ∙ e.op ∙ ap (λ (x : Command). Some x.op) (sym new);
      shapes = ap (λ (x : Command). x.shapes) new ∙ e.shapes ∙ ap (λ (d : Device). shapes_of d.program) (sym after);
      loaded = ap (λ (x : Command). x.loaded) new ∙ e.loaded ∙ sym c.keep.ensures.loaded;
    }

pub returns-clause-apart : goal.returns-clause-apart
returns-clause-apart c = subst (λ (bytes : List (List ℕ)). LoadsApart c.keep.new.self c.args.node bytes) (sym (ap (λ (x : Command). x.loaded) c.new.ensures ∙ c.in_ok-command.ensures.command.loaded)) c.keep.ensures.apart
