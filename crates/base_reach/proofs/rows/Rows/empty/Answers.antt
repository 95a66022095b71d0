use Rattle.std.proofs.Common.{◌+◌, ◌/◌, arith}
use Rattle.base_reach.specs.Pairs.{has}
use Rattle.base_reach.proofs.PairSets.{none_ahead, none_pairs}
use Rattle.base_reach.proofs.rows.Rows.empty.Goals as goal

pub invariant_of-result : goal.invariant_of-result
invariant_of-result c = record {
  few = omega arith;
  wide = omega arith;
  size = c.in_ok-zeros.ensures.length;
  scratch = c.in_ok-zeros-2.ensures.length;
  ahead = none_ahead c.in_ok-zeros.field-0.items ((c.args.count + 63) / 64) c.args.count c.in_ok-zeros.ensures.zeros;
}

pub returns-clause-has : goal.returns-clause-has
unfolding has
returns-clause-has c x y = none_pairs c.in_ok-zeros.field-0.items ((c.args.count + 63) / 64) c.args.count x y c.in_ok-zeros.ensures.zeros
