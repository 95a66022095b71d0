use Rattle.std.proofs.Common.{◌++◌, [], ◌∷◌, sym, ap, ◌∙◌}
use Rattle.std.proofs.lemmas.List.{append-nil}
use Rattle.check_access.proofs.Overlapping.{list_until, list_more}
use Rattle.check_access.proofs.overlaps.list_of.Goals as goal
use Rattle.check_access.proofs.overlaps.list_of.Goals.{then-pieces_overlap+in_ok-push, else-pieces_overlap}

pub loop-q-preserved : goal.loop-q-preserved
loop-q-preserved c = elim c.if-pieces_overlap.branch [
  | then-pieces_overlap+in_ok-push w ↦ w.numbers-is ∙ w.in_ok-push.ensures.ok ∙ ap (λ xs. xs ++ c.loop-q.q ∷ []) c.loop-q.invariant ∙ sym (list_more c.args.pieces.now c.args.a c.loop-q.q _ (sym w.if-pieces_overlap.true ∙ c.pieces_overlap.ensures))
  | else-pieces_overlap w ↦ w.numbers-is ∙ c.loop-q.invariant ∙ sym (list_more c.args.pieces.now c.args.a c.loop-q.q _ (sym w.if-pieces_overlap.false ∙ c.pieces_overlap.ensures) ∙ append-nil (list_until c.args.pieces.now c.args.a c.loop-q.q))
]
