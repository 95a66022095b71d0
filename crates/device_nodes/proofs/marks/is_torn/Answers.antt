use Rattle.std.proofs.Common.{◌==◌, ◌&&◌, not, get_or, sym, ap, ◌∙◌, arith}
use Rattle.std.proofs.lemmas.Bool.{and_from, ne_eqb}
use Rattle.device_nodes.proofs.Below.{some_at}
use Rattle.device_nodes.proofs.Lists.{read_at}
use Rattle.device_nodes.proofs.marks.is_torn.Goals as goal
use Rattle.device_model.specs.Ready.{stores_over}

pub returns-then-stores_over : goal.returns-then-stores_over
returns-then-stores_over c =
    let nodes = c.args.running.now.nodes in
    let i = c.loop-i.i in
    let read = read_at nodes i c.index-x.result.now 0 (omega (arith, c.loop-i-test.true, c.requires.nodes.fits, c.requires.nodes.room)) c.index-x.ensures in
    sym (some_at (λ k. not (get_or nodes k 0 == c.args.n) && stores_over c.args.view.now c.args.piece (get_or nodes k 0)) c.args.running.now.count i c.loop-i-test.true
    (and_from (not (get_or nodes i 0 == c.args.n)) (stores_over c.args.view.now c.args.piece (get_or nodes i 0))
    (ap not (ne_eqb (get_or nodes i 0) c.args.n (λ e. c.if-x-n.true (sym read ∙ e))))
    (ap (stores_over c.args.view.now c.args.piece) read ∙ sym c.stores_over.ensures ∙ c.if-stores_over.true)))
