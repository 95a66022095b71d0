use Rattle.std.proofs.Common.{◌≡◌, length, ap, ◌∙◌}
use Rattle.base.proofs.Lists.{one_image}
use Rattle.check_order.specs.Nodes.{entry_node}
use Rattle.program.specs.Entries.{entries_of, seen}
use Rattle.check_order.proofs.node.program_nodes.Goals as goal

pub loop-n-preserved : goal.loop-n-preserved
loop-n-preserved c =
    let program = c.args.shaped.now in
    let count : c.len-queues.result ≡ length program.queues = c.len-queues.ensures ∙ ap (λ p. length p.queues) c.program.ensures.program in
    one_image (entry_node (length program.queues)) (entries_of program) c.loop-n.n (seen c.entry.result) c.loop-n.nodes c.push.new.self c.entry_node.result
    c.loop-n.invariant c.entry.ensures.entry
    (c.entry_node.ensures ∙ ap (λ queues. entry_node queues (seen c.entry.result)) count)
    c.in_ok-push.ensures.ok
