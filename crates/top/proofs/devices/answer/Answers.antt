use Rattle.std.proofs.Common.{[], ◌≡◌, ◌∙◌, ap, refl, sym, subst}
use Rattle.std.specs.Prelude.{◌⊎◌}
use Rattle.device_run.specs.Keepers.{KeptDevices}
use Rattle.top.proofs.AnswerLemmas.{answered, unanswered, stands}
use Rattle.top.proofs.KeptLemmas.{unkept}
use Rattle.top.proofs.devices.answer.Goals as goal
use Rattle.answer.specs.declared.status.Status.{Status}
use Rattle.answer.specs.declared.status.Status.TheVariants.{ReadFault, NoMemory}

pub returns-in-Ok-clause-answered : goal.returns-in-Ok-clause-answered
returns-in-Ok-clause-answered g c =
    let kept = c.in-Ok.ensures.answer in
    answered c.args.command.now (g.I.Source.left c.args.input.now) (g.O.Sink.taken c.args.output.now) (g.O.Sink.taken c.deliver.new.output) _ _ c.in-Ok.reply kept.devices c.deliver.result.status kept.meets c.deliver.ensures.ends c.deliver.ensures.told kept.kept (stands c.in-Ok.reply.answer.status c.deliver.result.status c.deliver.ensures.either)

pub returns-in-Err-clause-answered : goal.returns-in-Err-clause-answered
returns-in-Err-clause-answered g c =
    let keeps : c.untold.result.status ≡ ReadFault → KeptDevices (g.K.Keep.kept c.args.keeper.now) (g.K.Keep.kept c.answer_input.new.keeper) [] = λ e. unkept (g.K.Keep.kept c.args.keeper.now) (g.K.Keep.kept c.answer_input.new.keeper) (ap g.K.Keep.kept (c.in-Err.ensures.unkept (sym c.untold.ensures.status ∙ e))) in
    unanswered c.args.command.now (g.I.Source.left c.args.input.now) (g.O.Sink.taken c.args.output.now) _ _ c.untold.result.status (refl, c.untold.ensures.spent, c.untold.ensures.places) keeps (subst (λ (s : Status). (s ≡ ReadFault) ⊎ (s ≡ NoMemory)) (sym c.untold.ensures.status) c.in-Err.ensures.none)
