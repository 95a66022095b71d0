use Rattle.std.proofs.Common.{[], ◌∙◌, ap, subst, sym}
use Rattle.answer.specs.Answers.{over_input}
use Rattle.answer.specs.declared.answer.Answer.{Answer}
use Rattle.cli.specs.declared.command.Command.TheVariants.{Audit}
use Rattle.cli.specs.declared.form.Form.{Form}
use Rattle.top.proofs.AnswerLemmas.{answered_over, answered_read}
use Rattle.top.proofs.KeptLemmas.{is_still}
use Rattle.top.proofs.workers.answer_audit.Goals as goal
use Rattle.top.specs.Answers.{AnswersLeft}
use Rattle.top.specs.Audits.{AuditsFile}
use Rattle.top.specs.Replies.{still}

pub returns-in-Bytes-clause-answer : goal.returns-in-Bytes-clause-answer
returns-in-Bytes-clause-answer g c =
    let read = c.as_slice.result.now in
    let answer = c.in_ok-audit_file-in-Bytes in
    answered_read Audit (g.I.Source.left c.args.input.now) [] (still answer.field-0) c.file_of.result _ c.in-Bytes.bytes read c.file_of.ensures c.in_ok-bytes.ensures.given c.in-Bytes.is c.as_slice.ensures.value (is_still (AuditsFile read) answer.field-0 answer.ensures.file)

pub returns-clause-answer : goal.returns-clause-answer
returns-clause-answer g c =
    let left = g.I.Source.left c.args.input.now in
    let file = c.in-Over.file in
    let same = c.in_ok-over_input-in-Over.ensures.over ∙ ap (λ (form : Form). over_input form file) c.form_of.ensures in
    subst (λ (answer : Answer). AnswersLeft Audit left [] (still answer)) (sym same) (answered_over Audit left c.file_of.result c.in_ok-bytes.field-0 file c.file_of.ensures c.in_ok-bytes.ensures.given c.in-Over.is)
