use Rattle.std.proofs.Common.{◌<◌, get_or, false, sym, ap, subst, ◌∙◌}
use Rattle.device_nodes.proofs.Marking.{marked_set, marked_kept}
use Rattle.device_nodes.proofs.marks.mark_one.Goals as goal
use Rattle.device_model.specs.Ready.{hits}

pub returns-then-not-hits-clause-each : goal.returns-then-not-hits-clause-each
returns-then-not-hits-clause-each c = marked_kept c.args.marked.now c.args.x (hits c.args.view.now c.args.x c.args.n) (sym c.hits.ensures ∙ c.if-not-hits.true)

pub returns-clause-each : goal.returns-clause-each
returns-clause-each c = λ k.
    ap (λ l. get_or l k false) c.set.ensures
    ∙ marked_set c.args.marked.now c.args.x (hits c.args.view.now c.args.x c.args.n) (subst (λ m. c.args.x < m) (sym c.requires.size) c.requires.x) (sym c.hits.ensures ∙ c.if-not-hits.false) k
