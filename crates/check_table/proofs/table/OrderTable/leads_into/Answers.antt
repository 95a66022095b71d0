use Rattle.std.proofs.Common.{◌≡◌, ◌<◌, ◌↔◌, length, sym, subst, true, None}
use Rattle.check_table.specs.Internal.Asked.{LeadsFrom}
use Rattle.check_table.proofs.Told.{into, not_left}
use Rattle.check_table.proofs.table.OrderTable.leads_into.Goals as goal

pub place-requires-clause-spot : goal.place-requires-clause-spot
place-requires-clause-spot c = c.in-Some.ensures.some.fits

pub leads_from-requires-clause-k : goal.leads_from-requires-clause-k
leads_from-requires-clause-k c = subst (λ k. k < length c.args.self.now.points.items) (sym c.place.ensures) c.in-Some.ensures.some.fits

pub returns-in-Some : goal.returns-in-Some
returns-in-Some c = λ W O M N. into W c.args.self.now c.requires.filled O c.leads_from.result c.args.n c.args.y c.args.stage.0 c.in-Some.spot c.requires.n M c.in-Some.ensures.some (subst (λ k. (c.leads_from.result ≡ true) ↔ LeadsFrom W c.args.self.now k c.args.y) c.place.ensures (c.leads_from.ensures W O))

pub returns-in-None : goal.returns-in-None
returns-in-None c = λ W O M N. not_left W c.args.self.now c.requires.filled O c.args.n c.args.y c.args.stage.0 None c.requires.n M c.in-None.ensures.none
