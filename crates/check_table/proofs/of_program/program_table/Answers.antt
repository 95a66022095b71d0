use Rattle.std.proofs.Common.{[], length, refl, ap, ◌∙◌, sym, subst, arith}
use Rattle.check_order.proofs.Listed.{order_few}
use Rattle.check_order.specs.Nodes.{program_nodes}
use Rattle.check_table.specs.Channels.{MadeOf}
use Rattle.check_table.specs.Joined.{joined}
use Rattle.check_table.specs.Tables.{HasQueues}
use Rattle.check_table.proofs.Programs.{as_many, made_of, has_queues}
use Rattle.check_table.proofs.Stages.{five}
use Rattle.check_table.proofs.of_program.program_table.Goals as goal

pub table_of-requires-clause-nodes : goal.table_of-requires-clause-nodes
table_of-requires-clause-nodes c =
    let e = ap length c.requires.edges in
    let m = as_many c.args.program.now in
    let s = c.program.ensures.small.entries in
    let f = order_few (program_nodes c.args.program.now) c.args.edges.now c.args.order.now (length c.args.edges.now) c.requires.edges c.requires.order refl (omega (arith, e, m, s)) in
    omega (arith, f)

pub table_of-requires-clause-queues : goal.table_of-requires-clause-queues
table_of-requires-clause-queues c =
    subst (λ nodes. HasQueues nodes c.len-queues.result) (sym c.requires.edges)
    (subst (HasQueues (program_nodes c.args.program.now)) (sym (c.len-queues.ensures ∙ ap (λ program. length program.queues) c.program.ensures.program)) (has_queues c.args.program.now c.program.ensures.numbered))

pub table_of-requires-clause-stages : goal.table_of-requires-clause-stages
table_of-requires-clause-stages c = subst (λ nodes. MadeOf (joined nodes []) five) (sym c.requires.edges) (made_of c.args.program.now)
