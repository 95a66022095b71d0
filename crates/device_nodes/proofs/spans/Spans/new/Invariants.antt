use Rattle.std.proofs.Common.{get_or}
use Rattle.device_nodes.proofs.spans.Spans.new.Given as goal
use Rattle.device_nodes.specs.Internal.Spans.{Spanned}
use Rattle.device_model.specs.declared.phase.Phase.TheVariants.{Idle}

abbrev pub invariant-loop-queue : goal.invariant-loop-queue
invariant-loop-queue l = Spanned l.view (λ n. get_or l.phases n Idle) l.spans
