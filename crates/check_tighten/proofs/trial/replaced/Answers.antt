use Rattle.std.proofs.Common.{◌∙◌, ◌<◌, length, slice_set, ap, subst, sym}
use Rattle.std.proofs.lemmas.Option.{slice_get_within}
use Rattle.check_tighten.proofs.Judging.{edited}
use Rattle.check_tighten.proofs.trial.replaced.Goals as goal

pub set-requires : goal.set-requires
set-requires c =
    let has = c.requires in
    subst (λ l. c.args.place.at < length l) (sym (c.in_ok-waits.ensures has.queue has.batch has.at.batch_at)) (slice_get_within has.batch.waits c.args.place.at has.wait has.at.wait_is)

pub returns : goal.returns
returns c =
    edited c.args.program c.args.place.queue c.args.place.batch (λ l. slice_set l c.args.place.at c.args.wait) c.set.new.self c.tried.result
    (λ queue batch at. c.set.ensures ∙ ap (λ l. slice_set l c.args.place.at c.args.wait) (c.in_ok-waits.ensures queue batch at))
    c.tried.ensures
