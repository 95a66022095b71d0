use Rattle.std.proofs.Common.{length, subst}
use Rattle.device_nodes.proofs.Needing.{all_waiting}
use Rattle.device_nodes.proofs.control.Control.all_wait.Goals as goal
use Rattle.device_nodes.specs.Internal.Needs.{BlockAll}

pub returns : goal.returns
returns c = λ all none.
    let i = c.self.inside in
    let hold = c.block_all.ensures all i.view (length i.view.nodes) c.self.invariant.needed.list in
    all_waiting c.args.self.now c.args.queue c.args.n c.args.blocked c.requires.blocked (subst (λ z. BlockAll z.view c.args.queue (length z.view.nodes) c.args.blocked.by_syncs.0) c.self.view_is hold) none
