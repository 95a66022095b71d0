use Rattle.std.proofs.Common.{◌≡◌, ◌||◌, ◌&&◌, ◌==◌, subst, rules}
use Rattle.base_reach.specs.Pairs.{Pairs, pairs_of, has}
use Rattle.base_reach.proofs.PairSets.{set_ahead, set_pairs}
use Rattle.base_reach.proofs.rows.Rows.set.Goals as goal

pub invariant_of-self : goal.invariant_of-self
invariant_of-self c = record {
  few = c.self.invariant.few;
  wide = c.self.invariant.wide;
  size = search rules;
  scratch = c.self.invariant.scratch;
  ahead = set_ahead c.self.inside.words.items c.set_bit.new.words.items c.self.inside.width c.self.inside.count c.args.a c.args.b c.self.invariant.wide c.self.invariant.size c.requires.order (search rules) (search rules) c.self.invariant.ahead;
}

pub returns-clause-has : goal.returns-clause-has
unfolding has
returns-clause-has c x y = subst (λ (r : Pairs). pairs_of c.set_bit.new.words.items c.self.inside.width c.self.inside.count x y ≡ (((x == c.args.a) && (y == c.args.b)) || has r x y)) c.self.view_is (set_pairs c.self.inside.words.items c.set_bit.new.words.items c.self.inside.width c.self.inside.count c.args.a c.args.b c.self.invariant.wide c.self.invariant.size (search rules) (search rules) c.set_bit.ensures.bits x y)
