use Rattle.std.proofs.Common.{◌<◌, ◌||◌, ◌*◌, ◌==◌, sym, subst, ap, ◌∙◌}
use Rattle.base_reach.proofs.WordBits.{added, with_bit}
use Rattle.base_reach.proofs.close.take_row.Goals as goal

pub returns-clause-bits : goal.returns-clause-bits
returns-clause-bits c b lt =
    with_bit c.add_words.new.row c.args.place b (subst (λ n. c.args.place < 64 * n) (sym c.add_words.ensures.length) c.requires.place) (subst (λ n. b < 64 * n) (sym c.add_words.ensures.length) lt)
    ∙ ap (λ t. (b == c.args.place) || t) (added c.args.row.now c.add_words.new.row c.args.table.now c.args.base c.args.place b lt c.add_words.ensures.words c.requires.low)
