use Rattle.std.proofs.Common.{◌≡◌, true, subst, ap, ◌∙◌, arith, rules}
use Rattle.base_reach.specs.Bits.{bit}
use Rattle.base_reach.proofs.FirstRow.{no_bits, first_closed, cat_left}
use Rattle.base_reach.proofs.WordBits.{past_end}
use Rattle.base_reach.proofs.close.close_first.Goals as goal

pub close_row-requires-clause-above : goal.close_row-requires-clause-above
close_row-requires-clause-above c b lt h = c.requires.forward b (omega arith) (ap (λ l. bit l b) c.split_at_mut-row.ensures.value ∙ cat_left c.split_at_mut-row.result.0.now c.split_at_mut-row.result.1.now b (omega arith) ∙ subst (λ l. bit l b ≡ true) c.copy_from_slice.ensures.after h)

pub close_row-requires-clause-empty : goal.close_row-requires-clause-empty
close_row-requires-clause-empty c b lt = no_bits c.clear.new.row b (λ k lk. c.clear.ensures.zeros k (omega arith)) lt

pub returns-clause-closed : goal.returns-clause-closed
returns-clause-closed c =
    first_closed c.args.rows.now c.split_at_mut-row.result.0.now c.close_row.new.row c.split_at_mut-row.result.1.now c.args.width c.args.from c.args.count c.requires.from c.split_at_mut-row.ensures.value c.split_at_mut-row.ensures.front_len (search rules)
    (search rules)
    (λ y lt h. c.requires.forward y lt (ap (λ l. bit l y) c.split_at_mut-row.ensures.value ∙ cat_left c.split_at_mut-row.result.0.now c.split_at_mut-row.result.1.now y (omega arith) ∙ h))
    (search rules)
    (λ y large h. past_end c.split_at_mut-row.result.0.now y (omega arith) h)
