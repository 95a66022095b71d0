use Rattle.std.proofs.Common.{◌≡◌, ℕ, length, ap, ◌∙◌, subst}
use Rattle.device_drive.proofs.Queues.{IsRead, read_at}
use Rattle.device_drive.proofs.round.readback_of.Goals as goal
use Rattle.check_order.specs.Edges.{is_host}
use Rattle.device_model.specs.Devices.{Device, state_of, view_in}
use Rattle.device_model.specs.Rounds.{MayGo}
use Rattle.device_model.proofs.Control.{ready_within}
use Rattle.program.specs.Entries.{first_node, ByQueue}
use Rattle.program.specs.declared.program.Program.{Program}

-- of a ready host read, where the program was lent twice
read_of : (d : Device) (n : ℕ) → MayGo is_host d n → (once again : Program) → once ≡ d.program → again ≡ d.program → ByQueue once → (queues first : ℕ) → queues ≡ length once.queues → first ≡ first_node again queues → IsRead d.program n first
read_of d n may once again same other queued queues first count is =
    read_at d.program (subst ByQueue same queued) n (ready_within (view_in d) (state_of d) n may.ready) first
    (is ∙ ap (λ (p : Program). first_node p queues) other ∙ ap (first_node d.program) (count ∙ ap (λ (p : Program). length p.queues) same)) may.kind

pub overflow_sub-result : goal.overflow_sub-result
overflow_sub-result c = (read_of c.args.device.now c.args.node c.requires c.deref.result.now c.deref-2.result.now (c.deref.ensures ∙ c.program-program.ensures) (c.deref-2.ensures ∙ c.program-program.ensures) c.program.ensures.numbered c.len-queues.result c.first_node-first.result (c.len-queues.ensures ∙ ap (λ (p : Program). length p.queues) c.program.ensures.program) c.first_node-first.ensures.first).from

pub returns-clause-there : goal.returns-clause-there
returns-clause-there c = (read_of c.args.device.now c.args.node c.requires c.deref.result.now c.deref-2.result.now (c.deref.ensures ∙ c.program-program.ensures) (c.deref-2.ensures ∙ c.program-program.ensures) c.program.ensures.numbered c.len-queues.result c.first_node-first.result (c.len-queues.ensures ∙ ap (λ (p : Program). length p.queues) c.program.ensures.program) c.first_node-first.ensures.first).there

pub returns-clause-read : goal.returns-clause-read
returns-clause-read c = (read_of c.args.device.now c.args.node c.requires c.deref.result.now c.deref-2.result.now (c.deref.ensures ∙ c.program-program.ensures) (c.deref-2.ensures ∙ c.program-program.ensures) c.program.ensures.numbered c.len-queues.result c.first_node-first.result (c.len-queues.ensures ∙ ap (λ (p : Program). length p.queues) c.program.ensures.program) c.first_node-first.ensures.first).read
