use Rattle.std.proofs.Common.{◌∙◌, arith}
use Rattle.device_nodes.proofs.Lists.{read_at}
use Rattle.device_nodes.proofs.Marking.{mark_more}
use Rattle.device_nodes.proofs.marks.mark.Goals as goal

pub loop-i-preserved : goal.loop-i-preserved
loop-i-preserved c = record {
  size = c.mark_one.ensures.size ∙ c.loop-i.invariant.size;
  marked = mark_more c.args.view.now c.args.n c.args.running.now.nodes c.loop-i.i c.index.result.now c.args.marked.now c.loop-i.marked c.mark_one.new.marked
      (read_at c.args.running.now.nodes c.loop-i.i c.index.result.now 0 (omega (arith, c.loop-i-test.true, c.requires.nodes.fits, c.requires.nodes.room)) c.index.ensures)
      c.loop-i.invariant.marked c.mark_one.ensures.each;
}
