use Rattle.std.specs.List.{list_any}
use Rattle.std.proofs.Common.{◌||◌, ◌&&◌, ◌==◌, sym, ap, ◌∙◌}
use Rattle.base.proofs.Walks.{found_on}
use Rattle.base.specs.Walks.{first_in}
use Rattle.frame.proofs.Marks.{there_on, missing_on, same_place}
use Rattle.frame.proofs.written.after_passes.Goals as goal
use Rattle.frame.specs.Uses.{is_marked, unwritten_in, unwritten_at}

pub returns-in-Some-clause-missing : goal.returns-in-Some-clause-missing
returns-in-Some-clause-missing c =
    let rule = unwritten_at c.args.imported c.args.passes.now in
    let passes = c.args.passes.now in
    let gives = c.unwritten_in.ensures ∙ ap (λ m. unwritten_in (is_marked m) c.loop-p.p c.index-passes-p.result) c.deref.ensures ∙ same_place c.args.imported c.loop-p.marks passes c.loop-p.p c.index-passes-p.result c.loop-p.invariant.marks in
    found_on rule passes c.loop-p.p c.index-passes-p.result c.in-Some.location (first_in rule 0 passes) c.loop-p-test.true c.index-passes-p.is (sym gives ∙ c.in-Some.is) c.loop-p.invariant.so_far

pub loop-p-preserved : goal.loop-p-preserved
loop-p-preserved c =
    let rule = unwritten_at c.args.imported c.args.passes.now in
    let passes = c.args.passes.now in
    let gives = c.unwritten_in.ensures ∙ ap (λ m. unwritten_in (is_marked m) c.loop-p.p c.index-passes-p.result) c.deref.ensures in
    record {
      size = c.mark-marks.ensures.size ∙ c.loop-p.invariant.size;
      marks = there_on c.args.imported c.loop-p.marks c.mark-marks.result passes c.loop-p.p c.index-passes-p.result c.loop-p-test.true c.index-passes-p.is c.loop-p.invariant.marks (λ u. c.mark-marks.ensures.marks u ∙ ap (λ ws. is_marked c.loop-p.marks u || list_any (λ w. w.fresh && w.what == u) ws) c.deref-in-loop-p.ensures);
      so_far = missing_on c.args.imported c.loop-p.marks passes c.loop-p.p c.index-passes-p.result c.unwritten_in.result (first_in rule 0 passes) c.loop-p-test.true c.index-passes-p.is c.loop-p.invariant.marks gives c.in_default.is c.loop-p.invariant.so_far;
    }
