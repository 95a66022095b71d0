use Rattle.std.proofs.Common.{◌<◌, ◌≤◌, drop, subst, sym, ap, ◌∙◌}
use Rattle.std.specs.List.{list_any}
use Rattle.base.specs.Operands.{touches}
use Rattle.frame.specs.Numbered.{numbered}
use Rattle.frame_meaning.proofs.Remaining.{later, here, no_pass}
use Rattle.frame_meaning.proofs.wanted.is_touched_from.Goals as goal
use Rattle.frame_meaning.specs.Internal.Held.{all_ops}

pub loop-pass-preserved : goal.loop-pass-preserved
loop-pass-preserved c =
    let n = numbered c.args.frame.now in
    later n.passes c.loop-pass.pass c.args.unit (subst (λ m. c.loop-pass.pass < m) c.pass_count-pass-end.ensures.count c.loop-pass-test.true) c.ops_of.result.now c.ops_of.ensures.at (list_any (touches c.args.unit) (all_ops (drop c.args.first n.passes))) c.loop-pass.invariant (sym c.if-is_touched.false ∙ c.is_touched.ensures)

pub returns-then-is_touched : goal.returns-then-is_touched
returns-then-is_touched c =
    let n = numbered c.args.frame.now in
    here n.passes c.loop-pass.pass c.args.unit (subst (λ m. c.loop-pass.pass < m) c.pass_count-pass-end.ensures.count c.loop-pass-test.true) c.ops_of.result.now c.ops_of.ensures.at (list_any (touches c.args.unit) (all_ops (drop c.args.first n.passes))) c.loop-pass.invariant (sym c.if-is_touched.true ∙ c.is_touched.ensures)

pub returns : goal.returns
returns c =
    let n = numbered c.args.frame.now in
    sym (ap (list_any (touches c.args.unit)) (no_pass n.passes c.loop-pass.pass (subst (λ m. m ≤ c.loop-pass.pass) c.pass_count-pass-end.ensures.count c.loop-pass-test.false))) ∙ c.loop-pass.invariant
