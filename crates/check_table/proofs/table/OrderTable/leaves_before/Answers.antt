use Rattle.std.proofs.Common.{◌≡◌, ◌<◌, ◌↔◌, length, sym, subst, true, Some}
use Rattle.check_table.specs.Internal.Asked.{EntersFrom}
use Rattle.check_table.proofs.Told.{ordered, not_left}
use Rattle.check_table.proofs.table.OrderTable.leaves_before.Goals as goal

pub place-requires-clause-spot : goal.place-requires-clause-spot
place-requires-clause-spot c = c.in-Some.ensures.some.fits

pub enters_from-requires-clause-k : goal.enters_from-requires-clause-k
enters_from-requires-clause-k c = subst (λ k. k < length c.args.self.now.points.items) (sym c.place.ensures) c.in-Some.ensures.some.fits

pub returns-in-Some : goal.returns-in-Some
returns-in-Some c = λ W O M P. ordered W c.args.self.now c.requires.filled O c.enters_from.result c.args.n c.args.m c.args.stage.0 c.args.other.0 c.in-Some.spot c.requires.n M c.in-Some.ensures.some (subst (λ k. (c.enters_from.result ≡ true) ↔ EntersFrom W c.args.self.now k c.args.other.0 c.args.m) c.place.ensures (c.enters_from.ensures W O P))

pub returns-in-None : goal.returns-in-None
returns-in-None c = λ W O M P. not_left W c.args.self.now c.requires.filled O c.args.n c.args.m c.args.stage.0 (Some c.args.other.0) c.requires.n M c.in-None.ensures.none
