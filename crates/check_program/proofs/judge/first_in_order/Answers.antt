use Rattle.std.proofs.Common.{◌≡◌, ◌<◌, ◌∙◌, sym, subst}
use Rattle.check_program.proofs.Verdicts.{all_judged}
use Rattle.check_access_order.specs.Ways.{HasWays}
use Rattle.check_sync.proofs.Tables.{table_in}
use Rattle.check_access.specs.ValidView.{Listed, ValidView}
use Rattle.check_access.specs.Views.{view_of, node_accesses_of}
use Rattle.check_program.proofs.judge.first_in_order.Goals as goal

pub node_accesses_of-requires : goal.node_accesses_of-requires
node_accesses_of-requires c = λ n m. subst (λ count. n < count) (sym c.requires.shaped.effects) (c.requires.order.order.only n m)

pub first_in_accesses-requires-clause-ways : goal.first_in_accesses-requires-clause-ways
first_in_accesses-requires-clause-ways c =
    subst (λ V. HasWays V) (sym c.requires.view)
    (c.order_laws.ensures.ways (view_of c.args.program.now) (subst (λ V. ValidView V) c.requires.view c.requires.shaped) (c.order_laws.ensures.single c.args.program.now))

pub first_in_accesses-requires-clause-table : goal.first_in_accesses-requires-clause-table
first_in_accesses-requires-clause-table c = table_in c.args.program.now c.args.view.now c.in_ok-table.table c.requires.view c.in_ok-table.ensures.filled c.in_ok-table.ensures.table

pub first_in_accesses-requires-clause-listed : goal.first_in_accesses-requires-clause-listed
first_in_accesses-requires-clause-listed c =
    subst (λ l. Listed c.args.view.now l) (sym c.as_slice.ensures) (c.in_ok-accesses.ensures.listed c.requires.shaped c.requires.order.order)

pub returns : goal.returns
returns c =
    let is : c.as_slice.result.now ≡ node_accesses_of c.args.view.now c.args.order.now = c.as_slice.ensures ∙ c.in_ok-accesses.ensures.accesses in
    all_judged c.args.program.now c.args.view.now c.args.order.now c.as_slice.result.now c.requires.view c.requires.order is c.first_in_accesses.result c.first_in_accesses.ensures
