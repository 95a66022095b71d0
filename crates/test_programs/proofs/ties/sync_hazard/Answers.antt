use Rattle.std.proofs.Common.{◌≡◌, ◌<◌, rules, sym, subst}
use Rattle.check_order.specs.Orders.{Order}
use Rattle.check_access.specs.ValidView.{ValidView, Listed}
use Rattle.check_access.specs.Views.{view_of}
use Rattle.check_access_order.specs.Ways.{HasWays}
use Rattle.check_sync.proofs.Tables.{table_in}
use Rattle.test_programs.proofs.ties.sync_hazard.Goals as goal

pub node_accesses_of-requires : goal.node_accesses_of-requires
node_accesses_of-requires c =
    let whole : Order c.in_ok-view.view.nodes c.deref-in-Whole.result.now = search rules in
    λ n m. subst (λ count. n < count) (sym c.in_ok-view.ensures.shaped.effects) (whole.only n m)

pub first_flaw-requires-clause-ways : goal.first_flaw-requires-clause-ways
first_flaw-requires-clause-ways c =
    subst (λ V. HasWays V) (sym c.in_ok-view.ensures.view)
    (c.order_laws.ensures.ways (view_of c.args.shaped.now) (subst (λ V. ValidView V) c.in_ok-view.ensures.view c.in_ok-view.ensures.shaped) (c.order_laws.ensures.single c.args.shaped.now))

pub first_flaw-requires-clause-table : goal.first_flaw-requires-clause-table
first_flaw-requires-clause-table c = table_in c.args.shaped.now c.in_ok-view.view c.in_ok-table-in-Whole.table c.in_ok-view.ensures.view c.in_ok-table-in-Whole.ensures.filled c.in_ok-table-in-Whole.ensures.table

pub first_flaw-requires-clause-listed : goal.first_flaw-requires-clause-listed
first_flaw-requires-clause-listed c =
    let whole : Order c.in_ok-view.view.nodes c.deref-in-Whole.result.now = search rules in
    let accesses : c.in_ok-accesses-in-Whole.accesses ≡ c.deref-in-Whole-2.result.now = search rules in
    subst (λ l. Listed c.in_ok-view.view l) accesses (c.in_ok-accesses-in-Whole.ensures.listed c.in_ok-view.ensures.shaped whole)
