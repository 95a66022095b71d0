use Rattle.std.proofs.Common.{[], ◌∙◌, ap, subst, sym}
use Rattle.answer.specs.Answers.{over_input}
use Rattle.cli.specs.declared.form.Form.{Form}
use Rattle.device_run.proofs.Keeping.{kept_so, none_kept}
use Rattle.top.proofs.AnswerLemmas.{answered_over, answered_read}
use Rattle.top.specs.Answers.{AnswersLeft}
use Rattle.top.specs.Replies.{still}
use Rattle.top.specs.declared.reply.Reply.{Reply}
use Rattle.top.proofs.devices.answer_input.Goals as goal

pub returns-in_ok-answer_bytes-in-Bytes-clause-answer : goal.returns-in_ok-answer_bytes-in-Bytes-clause-answer
returns-in_ok-answer_bytes-in-Bytes-clause-answer g c =
    let reply = c.in_ok-answer_bytes-in-Bytes in
    kept_so _ _ _ _ reply.ensures.answer (λ devices is. answered_read c.args.command.now (g.I.Source.left c.args.input.now) devices reply.field-0 c.file_of.result _ c.in-Bytes.bytes c.as_slice.result.now c.file_of.ensures c.in_ok-bytes.ensures.given c.in-Bytes.is c.as_slice.ensures.value is)

pub returns-in_ok-over_input-in-Over-clause-answer : goal.returns-in_ok-over_input-in-Over-clause-answer
returns-in_ok-over_input-in-Over-clause-answer g c =
    let command = c.args.command.now in
    let left = g.I.Source.left c.args.input.now in
    let file = c.in-Over.file in
    let same = c.in_ok-over_input-in-Over.ensures.over ∙ ap (λ (form : Form). over_input form file) c.form_of.ensures in
    none_kept (g.K.Keep.kept c.args.keeper.now) (λ devices. AnswersLeft command left devices c.still.result)
    (subst (λ (reply : Reply). AnswersLeft command left [] reply) (sym (c.still.ensures ∙ ap still same)) (answered_over command left c.file_of.result c.in_ok-bytes.field-0 file c.file_of.ensures c.in_ok-bytes.ensures.given c.in-Over.is))
