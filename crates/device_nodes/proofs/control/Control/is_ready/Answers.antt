use Rattle.std.proofs.Common.{◌≤◌, subst, arith}
use Rattle.device_nodes.proofs.Gathering.{nothing_blocked}
use Rattle.device_nodes.proofs.Spanning.{done_below}
use Rattle.device_nodes.proofs.control.Control.is_ready.Goals as goal
use Rattle.device_nodes.specs.Internal.Blocked.{Gathers}
use Rattle.device_nodes.specs.Internal.Kept.{control_in}
use Rattle.device_nodes.specs.Internal.Spans.{from_of}
use Rattle.device_nodes.specs.Controls.{Control, phase_of}

pub loop-n-init : goal.loop-n-init
loop-n-init c =
    let i = c.self.inside in
    let q = c.node-queue.result.queue in
    let le : c.min-n.result ≤ from_of i.spans q = omega (arith, c.min-n.ensures, c.from.ensures) in
    let P : Control → Type 0 = λ z. Gathers z.view (phase_of z) q c.min-n.result c.nothing-blocked.result in
    subst P c.self.view_is
    (nothing_blocked i.view (phase_of (control_in i)) q c.min-n.result (done_below i.view (phase_of (control_in i)) i.spans c.self.invariant.spanned q c.min-n.result le) c.nothing-blocked.result c.nothing-blocked.ensures.by_syncs c.nothing-blocked.ensures.by_all c.nothing-blocked.ensures.signal)
