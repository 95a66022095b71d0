use Rattle.std.proofs.Common.{◌≡◌, ◌<◌, ℕ, false, rules, arith, get_or, subst}
use Rattle.check_order.specs.Internal.Queues.{queues_of, goes_on}
use Rattle.check_order.proofs.Drained.{next_fits, stuck_fits, hosts_from, all_least, all_stuck}
use Rattle.check_order.proofs.Going.{going-step, left-step}
use Rattle.check_order.proofs.drain.drained.Goals as goal

pub overflow_cast-index : goal.overflow_cast-index
overflow_cast-index c =
    let f = next_fits c.args.edges.now c.args.starts.now c.args.queues c.requires.ready c.nodes.next.items c.in-Some.q c.index.result.now c.nodes.invariant.size (search rules) (search rules) in
    omega (arith, f)

pub overflow_add-index_mut : goal.overflow_add-index_mut
overflow_add-index_mut c =
    let f = next_fits c.args.edges.now c.args.starts.now c.args.queues c.requires.ready c.nodes.next.items c.in-Some.q c.index_mut.result.now c.nodes.invariant.size (search rules) c.index_mut.ensures.value in
    omega (arith, f)

pub nodes-smaller : goal.nodes-smaller
nodes-smaller c = left-step (queues_of c.args.edges.now c.args.starts.now) c.args.queues (get_or c.args.starts.now c.args.queues 0) c.nodes.next.items c.nodes.order c.nodes.invariant c.in-Some.q (search rules) c.index_mut.result.now c.index_mut.ensures.value

pub nodes-preserved : goal.nodes-preserved
nodes-preserved c = going-step (queues_of c.args.edges.now c.args.starts.now) c.args.queues (get_or c.args.starts.now c.args.queues 0) c.requires.ready.lined.numbered c.nodes.next.items c.nodes.order c.nodes.invariant c.in-Some.q (search rules) (subst (λ next. (r : ℕ) → r < c.in-Some.q → goes_on (queues_of c.args.edges.now c.args.starts.now) next r ≡ false) c.deref.ensures.value c.in-Some.ensures.first) c.index.result.now c.index_mut.result.now c.push.new.self (search rules) c.index_mut.ensures.value c.in_ok-push.ensures.ok

pub push_hosts-requires-clause-from : goal.push_hosts-requires-clause-from
push_hosts-requires-clause-from c = hosts_from c.args.edges.now c.args.starts.now c.args.queues c.requires.ready c.count.result c.count.ensures.count

pub returns-in-None : goal.returns-in-None
returns-in-None c = all_least c.args.edges.now c.args.starts.now c.args.queues c.requires.ready c.nodes.next.items c.nodes.order c.in_ok-push_hosts-in-None.field-0 c.count.result c.nodes.invariant (search rules) c.count.ensures.count c.in_ok-push_hosts-in-None.ensures

pub overflow_cast-result-in-Some-unfinished : goal.overflow_cast-result-in-Some-unfinished
overflow_cast-result-in-Some-unfinished c =
    let f = stuck_fits c.args.edges.now c.args.starts.now c.args.queues c.requires.ready c.nodes.next.items c.in-Some-unfinished.q c.index-in-Some-unfinished.result.now c.nodes.invariant.size (search rules) (search rules) in
    omega (arith, f)

pub returns : goal.returns
returns c = all_stuck c.args.edges.now c.args.starts.now c.args.queues c.requires.ready c.nodes.next.items c.nodes.order c.in-Some-unfinished.q c.index-in-Some-unfinished.result.now c.nodes.invariant (search rules) (search rules) (search rules) (search rules)
