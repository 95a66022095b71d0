use Rattle.std.proofs.Common.{get_or, sym, ap, ◌∙◌, arith}
use Rattle.device_nodes.proofs.Below.{some_at}
use Rattle.device_nodes.proofs.Lists.{read_at}
use Rattle.device_nodes.proofs.marks.hits_running.Goals as goal
use Rattle.device_model.specs.Ready.{hits}

pub returns-then-hits : goal.returns-then-hits
returns-then-hits c =
    let nodes = c.args.running.now.nodes in
    let i = c.loop-i.i in
    let read = read_at nodes i c.index.result.now 0 (omega (arith, c.loop-i-test.true, c.requires.nodes.fits, c.requires.nodes.room)) c.index.ensures in
    sym (some_at (λ k. hits c.args.view.now c.args.n (get_or nodes k 0)) c.args.running.now.count i c.loop-i-test.true (ap (hits c.args.view.now c.args.n) read ∙ sym c.hits.ensures ∙ c.if-hits.true))
