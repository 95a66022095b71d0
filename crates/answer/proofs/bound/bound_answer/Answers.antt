use Rattle.std.proofs.Common.{sym, subst}
use Rattle.compile_heap.specs.Pairs.{has}
use Rattle.answer.proofs.BoundLemmas.{bounded_frame}
use Rattle.answer.proofs.bound.bound_answer.Goals as goal
use Rattle.answer.specs.Answers.{BoundsFrame}

pub returns : goal.returns
returns c = record { frame = subst (BoundsFrame c.args.form c.args.good.now) (sym c.done.ensures) (bounded_frame c.args.form c.args.good.now c.args.groups.now (has c.in_ok-ordered.ordered) c.in_ok-heap.heap c.in_ok-bound_lines.field-0 c.requires c.in_ok-ordered.ensures.ordered c.in_ok-heap.ensures c.in_ok-bound_lines.ensures) }
