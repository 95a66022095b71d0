use Rattle.std.proofs.Common.{◌≡◌, ◌↔◌, ◌<◌, true, length, sym, subst}
use Rattle.check_access_order.specs.Order.{EnteredFrom}
use Rattle.check_sync.specs.Internal.Places.{Known}
use Rattle.check_sync.proofs.Tables.{entered}
use Rattle.check_sync.proofs.listing.Listing.is_entered_from.Goals as goal

pub is_entered_from-requires-clause-x : goal.is_entered_from-requires-clause-x
is_entered_from-requires-clause-x c = subst (λ m. c.args.x < m) (sym c.self.invariant.table.order.count) (subst (λ v. c.args.x < length v.view.nodes) (sym c.self.view_is) c.requires.x)

pub is_entered_from-requires-clause-m : goal.is_entered_from-requires-clause-m
is_entered_from-requires-clause-m c = subst (λ m. c.args.b.node < m) (sym c.self.invariant.table.order.count) (subst (λ v. c.args.b.node < length v.view.nodes) (sym c.self.view_is) c.requires.b.node)

pub returns : goal.returns
returns c =
    let known : Known c.self.inside.view.now c.args.b = subst (λ v. Known v.view c.args.b) (sym c.self.view_is) c.requires.b in
    subst (λ v. (c.is_entered_from.result ≡ true) ↔ EnteredFrom v.view c.args.x c.args.b) c.self.view_is
    (entered c.self.inside.view.now c.self.inside.table.now c.self.invariant.table (c.table_laws.ensures.same c.self.inside.view.now) c.self.invariant.listing.shaped c.is_entered_from.result c.args.x c.args.b c.stage_of.result known.has (record { its = c.stage_of.ensures.stage; one = c.stage_of.ensures.one }) c.is_entered_from.ensures)
