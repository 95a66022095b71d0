use Rattle.std.proofs.Common.{◌≡◌, ap, sym, ◌∙◌, subst}
use Rattle.std.proofs.lemmas.List.{take_all}
use Rattle.check_access.proofs.Listing.{among_at, listed}
use Rattle.check_access.specs.ValidView.{Listed}
use Rattle.check_access.specs.Views.{node_accesses_of}
use Rattle.check_access.proofs.node_access.node_accesses_of.Goals as goal

pub effect_at-requires : goal.effect_at-requires
effect_at-requires c = c.requires _ (among_at c.args.order.now c.loop-n.n-index 0 c.loop-n-test.true)

pub returns-clause-listed : goal.returns-clause-listed
returns-clause-listed c = λ shaped order.
    let whole : c.loop-n.node_accesses ≡ node_accesses_of c.args.view.now c.args.order.now = c.loop-n.invariant ∙ ap (node_accesses_of c.args.view.now) (take_all c.loop-n.n-index c.args.order.now c.loop-n-test.false) in
    subst (Listed c.args.view.now) (sym whole) (listed c.args.view.now c.args.order.now shaped order)
