use Rattle.std.proofs.Common.{map, ap, ◌∙◌}
use Rattle.std.specs.List.{flat_map}
use Rattle.frame.proofs.Small.{same_passes, resolved_are}
use Rattle.frame.proofs.Spans.{reads_are}
use Rattle.frame.specs.Units.{numbering, owners, spots_of}
use Rattle.frame.proofs.valid.collected.Goals as goal

pub returns : goal.returns
returns c =
    let frame = c.args.frame.now in
    resolved_are frame c.args.shapes c.in_ok-sharings.field-0 c.in_ok-owners.field-0 c.in_ok-spots.field-0 c.in_ok-passes_of.field-0 c.in_ok-all_units.field-0
    c.requires.shapes
    c.in_ok-sharings.ensures
    (c.in_ok-owners.ensures ∙ ap (owners 0) c.deref.ensures)
    (c.in_ok-spots.ensures ∙ ap (flat_map spots_of) c.deref-2.ensures)
    (c.in_ok-passes_of.ensures ∙ ap (map (λ u. u.pass)) c.requires.uses ∙ same_passes frame)
    (c.in_ok-all_units.ensures ∙ reads_are (numbering frame) frame.exports c.args.exports.now c.requires.exports)
