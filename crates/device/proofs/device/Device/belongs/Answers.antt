use Rattle.std.proofs.Common.{◌≡◌, ◌∙◌, sym, ap}
use Rattle.device.proofs.device.Device.belongs.Goals as goal
use Rattle.device_model.specs.Devices.{Device}

pub returns-then-self-fill : goal.returns-then-self-fill
returns-then-self-fill c =
    let own : c.program.result.now ≡ c.args.self.now.program = c.program.ensures.program ∙ c.deref.ensures ∙ ap (λ (d : Device). d.program) c.self.view_is in
    let other : c.program-then-self-fill.result.now ≡ c.args.program.now.program = c.program-then-self-fill.ensures.program ∙ c.deref-then-self-fill.ensures ∙ c.shaped.ensures.program in
    let fill : c.args.self.now.fill ≡ c.args.fill = ap (λ (d : Device). d.fill) (sym c.self.view_is) ∙ c.if-self-fill.true in
    (λ same. (sym own ∙ c.same.ensures.0 same ∙ other, fill), λ both. c.same.ensures.1 (own ∙ both.0 ∙ sym other))
