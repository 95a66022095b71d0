use Rattle.std.proofs.Common.{◌≡◌, ◌↔◌, true, subst, rules}
use Rattle.base_reach.specs.Pairs.{Pairs, pairs_of, has}
use Rattle.base_reach.specs.Paths.{Path}
use Rattle.base_reach.proofs.PairSets.{close_pairs}
use Rattle.base_reach.proofs.rows.Rows.close.Goals as goal

pub returns-clause-has : goal.returns-clause-has
unfolding has
returns-clause-has c a b = subst (λ (r : Pairs). (pairs_of c.close_words.new.words.items c.self.inside.width c.self.inside.count a b ≡ true) ↔ Path (λ x y. has r x y) a b) c.self.view_is (close_pairs c.self.inside.words.items c.close_words.new.words.items c.self.inside.width c.self.inside.count (search rules) a b)
