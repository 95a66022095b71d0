use Rattle.std.proofs.Common.{◌<◌, length, sym, ap, ◌∙◌, subst}
use Rattle.check_order.specs.Answers.{Answers}
use Rattle.check_order.specs.Nodes.{program_nodes}
use Rattle.check_order.specs.Orders.{Among, IsLeast}
use Rattle.test_programs.proofs.view.accesses.Goals as goal

pub node_accesses_of-requires : goal.node_accesses_of-requires
node_accesses_of-requires c = λ n among.
    let nodes = program_nodes c.args.shaped.now in
    let view = c.in_ok-view.view in
    let least : IsLeast nodes c.in-Whole.order = subst (Answers nodes) c.in-Whole.is c.in_ok-order.ensures in
    subst (λ k. n < k) (sym (c.in_ok-view.ensures.shaped.effects ∙ ap (λ v. length v.nodes) c.in_ok-view.ensures.view))
    (least.order.only n (subst (Among n) c.deref.ensures among))
