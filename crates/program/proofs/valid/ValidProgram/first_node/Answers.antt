use Rattle.std.proofs.Common.{◌≡◌, ◌≤◌, None, subst, sym, ap, ◌∙◌, take}
use Rattle.base.specs.Maxima.{max_nodes}
use Rattle.program.proofs.Counting.{first_is, first_few}
use Rattle.program.proofs.Entering.{by_queue}
use Rattle.program.specs.Internal.Counts.{queues_count}
use Rattle.program.specs.FirstFault.{first_broken}
use Rattle.program.proofs.valid.ValidProgram.first_node.Goals as goal

pub queue_nodes-requires-clause-few : goal.queue_nodes-requires-clause-few
queue_nodes-requires-clause-few c =
    subst (λ queues. queues_count (take c.args.queue queues) ≤ max_nodes) (sym (c.deref.ensures ∙ ap (λ p. p.queues) c.self.view_is))
    (first_few c.args.self.now c.args.queue (subst (λ program. first_broken program ≡ None) c.self.view_is c.self.invariant.0) c.requires)

pub returns-clause-first : goal.returns-clause-first
returns-clause-first c = c.queue_nodes.ensures ∙ ap (λ queues. queues_count (take c.args.queue queues)) (c.deref.ensures ∙ ap (λ p. p.queues) c.self.view_is) ∙ first_is c.args.self.now c.args.queue

pub returns-clause-numbered : goal.returns-clause-numbered
returns-clause-numbered c = by_queue c.args.self.now
