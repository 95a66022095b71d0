use Rattle.std.proofs.Common.{◌≡◌, ◌∷◌, Some, None, sym, ◌∙◌}
use Rattle.std.specs.Fmt.{decimal}
use Rattle.frame_gen.proofs.Naming.{read_as}
use Rattle.frame_gen.proofs.names.numbered.Goals as goal

pub unreachable-requires : goal.unreachable-requires
unreachable-requires c =
    let read = read_as c.args.letter c.args.i c.as_bytes-digits.result.now c.copy_from_slice.new.self _ c.read.result c.requires c.ranges.i.fits (c.as_bytes-digits.ensures.value ∙ c.format.ensures.text) c.copy_from_slice.ensures.after c.read.ensures in
    let none : None ≡ Some (c.args.letter ∷ decimal c.args.i) = sym c.in-None.is ∙ read in
    cc

pub returns : goal.returns
returns c =
    let read = read_as c.args.letter c.args.i c.as_bytes-digits.result.now c.copy_from_slice.new.self _ c.read.result c.requires c.ranges.i.fits (c.as_bytes-digits.ensures.value ∙ c.format.ensures.text) c.copy_from_slice.ensures.after c.read.ensures in
    let same : Some c.in-Some.name ≡ Some (c.args.letter ∷ decimal c.args.i) = sym c.in-Some.is ∙ read in
    cc
