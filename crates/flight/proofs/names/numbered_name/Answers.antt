use Rattle.std.proofs.Common.{◌≡◌, ◌+◌, ◌∷◌, ◌≤◌, length, true, sym, subst, ◌∙◌}
use Rattle.std.specs.Fmt.{decimal}
use Rattle.base.specs.Names.{is_name}
use Rattle.flight.proofs.Naming.{digits_short, is_numbered}
use Rattle.flight.proofs.names.numbered_name.Goals as goal

pub dotted-requires-clause-name : goal.dotted-requires-clause-name
dotted-requires-clause-name c =
    let text : c.as_bytes.result.now ≡ decimal c.args.j = c.as_bytes.ensures.value ∙ c.format.ensures.text in
    subst (λ digits. is_name ((48 + c.args.i) ∷ 46 ∷ digits) ≡ true) (sym text) (is_numbered c.args.i c.args.j c.requires c.ranges.j.fits)

pub dotted-requires-clause-short : goal.dotted-requires-clause-short
dotted-requires-clause-short c =
    let text : c.as_bytes.result.now ≡ decimal c.args.j = c.as_bytes.ensures.value ∙ c.format.ensures.text in
    subst (λ digits. length digits ≤ 20) (sym text) (digits_short c.args.j c.ranges.j.fits)
