use Rattle.std.proofs.Common.{◌≡◌, ◌↔◌, ◌<◌, true, length, sym, subst}
use Rattle.check_access_order.specs.Order.{Before}
use Rattle.check_sync.proofs.Tables.{before}
use Rattle.check_sync.proofs.listing.Listing.happens_before.Goals as goal

pub happens_before-requires-clause-x : goal.happens_before-requires-clause-x
happens_before-requires-clause-x c = subst (λ m. c.args.x < m) (sym c.self.invariant.table.order.count) (subst (λ v. c.args.x < length v.view.nodes) (sym c.self.view_is) c.requires.x)

pub happens_before-requires-clause-y : goal.happens_before-requires-clause-y
happens_before-requires-clause-y c = subst (λ m. c.args.y < m) (sym c.self.invariant.table.order.count) (subst (λ v. c.args.y < length v.view.nodes) (sym c.self.view_is) c.requires.y)

pub returns : goal.returns
returns c = subst (λ v. (c.happens_before.result ≡ true) ↔ Before v.view c.args.x c.args.y) c.self.view_is
    (before c.self.inside.view.now c.self.inside.table.now c.self.invariant.table (c.table_laws.ensures.same c.self.inside.view.now) c.happens_before.result c.args.x c.args.y c.happens_before.ensures)
