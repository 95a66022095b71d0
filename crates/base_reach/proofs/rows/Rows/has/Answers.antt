use Rattle.std.proofs.Common.{◌*◌, ◌+◌, sym, ◌∙◌, ap, rules}
use Rattle.base_reach.specs.Pairs.{has}
use Rattle.base_reach.specs.Bits.{bit}
use Rattle.base_reach.proofs.Upward.{pair_is}
use Rattle.base_reach.proofs.rows.Rows.has.Goals as goal

pub returns : goal.returns
unfolding has
returns c =
    c.has_bit.ensures
    ∙ ap (λ l. bit l (c.args.a * c.self.inside.width * 64 + c.args.b)) c.deref.ensures.value
    ∙ sym (pair_is c.self.inside.words.items c.self.inside.width c.self.inside.count c.args.a c.args.b (search rules) (search rules))
    ∙ ap (λ r. has r c.args.a c.args.b) c.self.view_is
