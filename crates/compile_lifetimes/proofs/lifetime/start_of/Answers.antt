use Rattle.std.proofs.Common.{◌≡◌, ◌<◌, ◌≤◌, ◌+◌, ◌-◌, ◌/◌, ℕ, arith, subst}
use Rattle.std.specs.List.{All}
use Rattle.compile_groups.specs.Needs.{group_at}
use Rattle.compile_lifetimes.proofs.Sides.{below_more, above_more}
use Rattle.compile_lifetimes.proofs.lifetime.start_of.Goals as goal

pub loop-low-preserved-then-from-unit : goal.loop-low-preserved-then-from-unit
loop-low-preserved-then-from-unit c =
    let I = c.loop-low.invariant in
    let within = I.within in
    let test = c.loop-low-test.true in
    let middle = c.loop-low.low + (c.loop-low.high - c.loop-low.low) / 2 in
    let under : middle < c.loop-low.high = omega (arith, test) in
    let less = c.if-from-unit.true in
    let found = c.from.ensures in
    record {
      order = omega (arith, under);
      within = within;
      below = below_more c.args.groups.now c.group_count-high.ensures.grouped c.args.unit middle c.unit_of.result (omega (arith, under, within)) c.unit_of.ensures (omega (arith, less, found));
      above = I.above;
    }

pub loop-low-preserved : goal.loop-low-preserved
loop-low-preserved c =
    let I = c.loop-low.invariant in
    let within = I.within in
    let test = c.loop-low-test.true in
    let middle = c.loop-low.low + (c.loop-low.high - c.loop-low.low) / 2 in
    let under : middle < c.loop-low.high = omega (arith, test) in
    let over = c.if-from-unit.false in
    let found = c.from.ensures in
    record {
      order = omega arith;
      within = omega (arith, under, within);
      below = I.below;
      above = above_more c.args.groups.now c.group_count-high.ensures.grouped c.args.unit middle c.unit_of.result (omega (arith, under, within)) c.unit_of.ensures (omega (arith, over, found));
    }

pub returns : goal.returns
returns c =
    let I = c.loop-low.invariant in
    let order = I.order in
    let within = I.within in
    let test = c.loop-low-test.false in
    let same : c.loop-low.high ≡ c.loop-low.low = omega (arith, order, test) in
    record {
      within = omega (arith, order, within);
      below = I.below;
      above = subst (λ h. (g : ℕ) → h ≤ g → All (λ u. c.args.unit ≤ u.unit) (group_at c.args.groups.now g)) same I.above;
    }
