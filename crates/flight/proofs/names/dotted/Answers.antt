use Rattle.std.proofs.Common.{◌≡◌, ◌+◌, ◌∷◌, Some, None, sym, ◌∙◌}
use Rattle.flight.proofs.Naming.{read_as}
use Rattle.flight.proofs.names.dotted.Goals as goal

pub unreachable-requires : goal.unreachable-requires
unreachable-requires c =
    let read = read_as (48 + c.args.i) 46 c.args.rest.now c.copy_from_slice.new.self _ c.read.result c.requires.name c.copy_from_slice.ensures.after c.read.ensures in
    let none : None ≡ Some ((48 + c.args.i) ∷ 46 ∷ c.args.rest.now) = sym c.in-None.is ∙ read in
    cc

pub returns : goal.returns
returns c =
    let read = read_as (48 + c.args.i) 46 c.args.rest.now c.copy_from_slice.new.self _ c.read.result c.requires.name c.copy_from_slice.ensures.after c.read.ensures in
    let same : Some c.in-Some.name ≡ Some ((48 + c.args.i) ∷ 46 ∷ c.args.rest.now) = sym c.in-Some.is ∙ read in
    cc
