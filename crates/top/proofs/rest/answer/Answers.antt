use Rattle.std.proofs.Common.{[], refl}
use Rattle.top.proofs.AnswerLemmas.{answered, unanswered, stands}
use Rattle.top.proofs.rest.answer.Goals as goal
use Rattle.top.specs.Replies.{still}

pub returns-in-Ok-clause-answered : goal.returns-in-Ok-clause-answered
returns-in-Ok-clause-answered g c =
    answered c.args.command.now (g.I.Source.left c.args.input.now) (g.O.Sink.taken c.args.output.now) (g.O.Sink.taken c.put.new.output) _ _ (still c.in-Ok.answer) [] c.put.result c.in-Ok.ensures.answer (rw c.as_slice.ensures at c.put.ensures.ends) refl refl (stands c.in-Ok.answer.status c.put.result c.put.ensures.either)

pub returns-in-Err-clause-answered : goal.returns-in-Err-clause-answered
returns-in-Err-clause-answered g c = unanswered c.args.command.now (g.I.Source.left c.args.input.now) (g.O.Sink.taken c.args.output.now) _ _ c.in-Err.status refl (λ e. refl) c.in-Err.ensures.none
