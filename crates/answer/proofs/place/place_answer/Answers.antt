use Rattle.std.proofs.Common.{sym, subst}
use Rattle.answer.proofs.PlaceLemmas.{placed_frame}
use Rattle.answer.proofs.place.place_answer.Goals as goal
use Rattle.answer.specs.Answers.{PlacesFrame}

pub returns : goal.returns
returns c = record { frame = subst (PlacesFrame c.args.form c.args.good.now) (sym c.done.ensures) (placed_frame c.args.form c.args.good.now c.args.groups.now c.in_ok-place_lines.field-0 c.requires c.in_ok-place_lines.ensures) }
