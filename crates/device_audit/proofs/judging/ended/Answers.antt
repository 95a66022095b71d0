use Rattle.std.proofs.Common.{◌∙◌, ℕ, length, IfSome, IfNone, Option, ap, subst}
use Rattle.device_audit.proofs.Saying.{has_run, undone}
use Rattle.device_audit.proofs.judging.ended.Goals as goal
use Rattle.device_audit.specs.Internal.Following.{AreEnded, IsLeastUnended}
use Rattle.program.specs.declared.program.Program.{Program}
use Rattle.check_access.specs.Views.{view_of}

pub returns-in-Some : goal.returns-in-Some
returns-in-Some c =
    let events = c.args.events.now in
    undone c.args.program.now.program events c.requires.enabled c.node_count.result c.in-Some.node
    (c.node_count.ensures ∙ ap (λ (p : Program). length (view_of p).nodes) c.requires.program)
    (subst (λ (o : Option ℕ). IfSome o (IsLeastUnended events c.node_count.result)) c.in-Some.is c.in_ok-node.ensures.some)

pub returns-in-None : goal.returns-in-None
returns-in-None c =
    let events = c.args.events.now in
    has_run c.args.program.now.program events c.requires.enabled c.node_count.result c.args.device
    (c.node_count.ensures ∙ ap (λ (p : Program). length (view_of p).nodes) c.requires.program)
    (subst (λ (o : Option ℕ). IfNone o (AreEnded events c.node_count.result)) c.in-None.is c.in_ok-node.ensures.none)
    c.requires.device
