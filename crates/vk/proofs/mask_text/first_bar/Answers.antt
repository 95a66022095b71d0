use Rattle.std.proofs.Common.{sym, ◌∙◌}
use Rattle.vk.proofs.Cuts.{uncut, cut_within, cut_first, at_none, at_some}
use Rattle.vk.specs.Texts.{is_bar}
use Rattle.vk.proofs.mask_text.first_bar.Goals as goal

pub returns-clause-none : goal.returns-clause-none
returns-clause-none c = at_none c.bar_position.result _ (λ e. uncut is_bar c.args.text.now (sym c.bar_position.ensures ∙ e))

pub returns-clause-within : goal.returns-clause-within
returns-clause-within c = at_some c.bar_position.result _ (λ i e. cut_within is_bar c.args.text.now i (sym c.bar_position.ensures ∙ e))

pub returns-clause-some : goal.returns-clause-some
returns-clause-some c = at_some c.bar_position.result _ (λ i e. cut_first is_bar c.args.text.now i (sym c.bar_position.ensures ∙ e))
