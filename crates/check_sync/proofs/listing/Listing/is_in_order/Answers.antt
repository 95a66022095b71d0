use Rattle.std.proofs.Common.{◌≡◌, ◌↔◌, ◌<◌, true, length, sym, subst}
use Rattle.check_sync.specs.Internal.Places.{Known}
use Rattle.check_sync.specs.Synchronized.{Ordered}
use Rattle.check_sync.proofs.Tables.{in_order}
use Rattle.check_sync.proofs.listing.Listing.is_in_order.Goals as goal

pub is_in_order-requires-clause-n : goal.is_in_order-requires-clause-n
is_in_order-requires-clause-n c = subst (λ m. c.args.a.node < m) (sym c.self.invariant.table.order.count) (subst (λ v. c.args.a.node < length v.view.nodes) (sym c.self.view_is) c.requires.a.node)

pub is_in_order-requires-clause-m : goal.is_in_order-requires-clause-m
is_in_order-requires-clause-m c = subst (λ m. c.args.b.node < m) (sym c.self.invariant.table.order.count) (subst (λ v. c.args.b.node < length v.view.nodes) (sym c.self.view_is) c.requires.b.node)

pub returns : goal.returns
returns c =
    let first : Known c.self.inside.view.now c.args.a = subst (λ v. Known v.view c.args.a) (sym c.self.view_is) c.requires.a in
    let second : Known c.self.inside.view.now c.args.b = subst (λ v. Known v.view c.args.b) (sym c.self.view_is) c.requires.b in
    subst (λ v. (c.is_in_order.result ≡ true) ↔ Ordered v.view c.args.a c.args.b) c.self.view_is
    (in_order c.self.inside.view.now c.self.inside.table.now c.self.invariant.table (c.table_laws.ensures.same c.self.inside.view.now) c.self.invariant.listing.shaped c.is_in_order.result c.args.a c.args.b c.stage_of-first.result c.stage_of-second.result first.has second.has (record { its = c.stage_of-first.ensures.stage; one = c.stage_of-first.ensures.one }) (record { its = c.stage_of-second.ensures.stage; one = c.stage_of-second.ensures.one }) c.is_in_order.ensures)
