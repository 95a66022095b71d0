use Rattle.std.proofs.Common.{◌≡◌, ◌∙◌, true, None, rules, sym, ap, subst}
use Rattle.std.specs.Arc.{arc_value}
use Rattle.check_program.specs.Sound.{IsSound}
use Rattle.device.proofs.device.Device.knows.Goals as goal
use Rattle.device.specs.Internal.Loads.{LoadsIn}
use Rattle.device_model.specs.Devices.{Device}
use Rattle.program.specs.FirstFault.{first_fault}
use Rattle.program.specs.declared.program.Program.{Program}

pub returns : goal.returns
returns c is =
    let d = c.args.self.now in
    let n = c.args.command.now.node in
    let faultless : first_fault d.program ≡ None = subst (λ (d : Device). first_fault d.program ≡ None) c.self.view_is c.self.invariant.faultless in
    let same : arc_value c.args.program.now ≡ d.program = sym c.deref-3.ensures ∙ sym (c.same_program.ensures is) ∙ c.deref-2.ensures ∙ ap (λ (d : Device). d.program) c.self.view_is in
    let known : c.self.inside.sound ≡ true = search rules in
    let sound : IsSound d.program = subst (λ (d : Device). IsSound d.program) c.self.view_is (c.self.invariant.sound known) in
    let O = sound.1.order_is.order in
    subst (λ (p : Program). LoadsIn p n c.args.command.now.loaded) same c.requires.loads sound sound.0 O ∙ sym ((c.device_laws.ensures.runs d faultless).loads n c.requires.begun sound sound.0 O)
