use Rattle.std.proofs.Common.{◌≡◌, ◌∙◌, sym, subst}
use Rattle.std.specs.Arc.{arc_value}
use Rattle.check_program.specs.Sound.{IsSound}
use Rattle.device.proofs.Openings.{is_sound}
use Rattle.device.proofs.device.Device.with_places.Goals as goal

pub opened-requires : goal.opened-requires
opened-requires c e =
    let same : arc_value c.in_ok-shared.shared ≡ c.args.program.now.program = c.in_ok-shared.ensures ∙ c.shaped.ensures.program in
    subst IsSound (sym same) c.shaped.ensures.sound

pub returns-clause-sound : goal.returns-clause-sound
returns-clause-sound c =
    let same : arc_value c.in_ok-shared.shared ≡ c.args.program.now.program = c.in_ok-shared.ensures ∙ c.shaped.ensures.program in
    is_sound c.opened.result (arc_value c.in_ok-shared.shared) c.args.fill c.args.moves (subst IsSound (sym same) c.shaped.ensures.sound) c.opened.ensures
