use Rattle.std.proofs.Common.{◌∙◌, ◌<◌, length, ap, subst, sym}
use Rattle.std.proofs.lemmas.Option.{slice_get_within}
use Rattle.check_tighten.specs.Edits.{without_at}
use Rattle.check_tighten.proofs.Judging.{edited}
use Rattle.check_tighten.proofs.trial.without.Goals as goal

pub without_wait-requires : goal.without_wait-requires
without_wait-requires c =
    let has = c.requires in
    subst (λ l. c.args.place.at < length l) (sym (c.as_slice.ensures ∙ c.in_ok-waits.ensures has.queue has.batch has.at.batch_at)) (slice_get_within has.batch.waits c.args.place.at has.wait has.at.wait_is)

pub returns : goal.returns
returns c =
    edited c.args.program c.args.place.queue c.args.place.batch (without_at c.args.place.at) c.in_ok-left.left c.tried.result
    (λ queue batch at. c.in_ok-left.ensures ∙ ap (without_at c.args.place.at) (c.as_slice.ensures ∙ c.in_ok-waits.ensures queue batch at))
    c.tried.ensures
