use Rattle.base.specs.Applied.{begun}
use Rattle.kernel.proofs.DrawnRects.{drawn_more}
use Rattle.kernel.proofs.attachment.draw.Goals as goal

pub loop-rect-preserved : goal.loop-rect-preserved
loop-rect-preserved c =
    let grid = c.canvas-grid.result in
    (c.loop-rect.invariant.0, drawn_more grid (begun grid c.args.clear c.args.out.now) c.args.rects.now c.loop-rect.rect-index _ c.loop-rect.out c.draw_rect.new.out c.loop-rect-test.true c.loop-rect.invariant.1 c.draw_rect.ensures)
