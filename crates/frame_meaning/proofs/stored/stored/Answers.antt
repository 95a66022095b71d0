use Rattle.std.proofs.Common.{◌<◌, ◌≤◌, subst, map, is_some, length}
use Rattle.frame.specs.Numbered.{numbered}
use Rattle.frame_meaning.proofs.Steps.{marks_on, marks_grown, all_marked}
use Rattle.frame_meaning.specs.Internal.Stored.{marked}
use Rattle.frame_meaning.proofs.stored.stored.Goals as goal

pub loop-pass-preserved : goal.loop-pass-preserved
loop-pass-preserved c =
    let n = numbered c.args.frame.now in
    record {
      size = marks_grown c.ops.result.now c.loop-pass.marks c.mark.new.marks (length n.units) c.loop-pass.invariant.size c.mark.ensures;
      marks = marks_on n.passes c.loop-pass.pass c.loop-pass.marks c.mark.new.marks (marked n.passes (map (λ u. is_some u.imported) n.units)) c.ops.result.now (subst (λ m. c.loop-pass.pass < m) c.pass_count-pass-end.ensures.count c.loop-pass-test.true) c.ops.ensures.ops c.loop-pass.invariant.marks c.mark.ensures;
    }

pub returns : goal.returns
returns c = all_marked (numbered c.args.frame.now) c.pass_count-pass-end.ensures.good c.loop-pass.pass c.loop-pass.marks (subst (λ m. m ≤ c.loop-pass.pass) c.pass_count-pass-end.ensures.count c.loop-pass-test.false) c.loop-pass.invariant.marks
