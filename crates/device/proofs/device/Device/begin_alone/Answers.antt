use Rattle.std.proofs.Common.{◌≡◌, ◌∙◌, ◌<◌, length, true, IfOk, OnErr, sym, subst}
use Rattle.base.specs.declared.event.Event.TheVariants.{Begin}
use Rattle.device.proofs.Keeping.{ready_inside}
use Rattle.device.proofs.device.Device.begin_alone.Goals as goal
use Rattle.device.specs.Internal.Takes.{AreInputs}
use Rattle.device_model.specs.Devices.{Device, view_in, did, is_ready}
use Rattle.device_model.specs.Ready.{is_command, kind_at}

pub inputs-requires : goal.inputs-requires
inputs-requires c = record {
  command = subst (λ (d : Device). is_command (kind_at (view_in d) c.args.node) ≡ true) (sym c.share.ensures) c.requires.command;
  node = subst (λ (d : Device). c.args.node < length (view_in d).nodes) (sym c.share.ensures) (ready_inside c.args.self.now c.args.node c.requires.ready);
}

pub spare-spare-requires : goal.spare-spare-requires
spare-spare-requires c = record {
  command = subst (λ (d : Device). is_command (kind_at (view_in d) c.args.node) ≡ true) (sym c.share.ensures) c.requires.command;
  node = subst (λ (d : Device). c.args.node < length (view_in d).nodes) (sym c.share.ensures) (ready_inside c.args.self.now c.args.node c.requires.ready);
}

pub begun-requires : goal.begun-requires
begun-requires c =
    let same = c.spare-spare.ensures ∙ c.share.ensures in
    record {
      command = subst (λ (d : Device). is_command (kind_at (view_in d) c.args.node) ≡ true) (sym same) c.requires.command;
      ready = subst (λ (d : Device). is_ready d c.args.node ≡ true) (sym same) c.requires.ready;
      inputs = subst (λ (d : Device). AreInputs d c.args.node c.in_ok-inputs.inputs.loaded c.in_ok-inputs.inputs.work) (sym c.spare-spare.ensures) c.in_ok-inputs.ensures;
    }

pub returns-clause-event : goal.returns-clause-event
returns-clause-event c = subst (λ (d : Device). IfOk c.begun.result (λ job. c.begun.new.self ≡ did d (Begin c.args.node))) (c.spare-spare.ensures ∙ c.share.ensures) c.begun.ensures.event

pub returns-clause-err : goal.returns-clause-err
returns-clause-err c = subst (λ (d : Device). OnErr c.begun.result (c.begun.new.self ≡ d)) (c.spare-spare.ensures ∙ c.share.ensures) c.begun.ensures.err
