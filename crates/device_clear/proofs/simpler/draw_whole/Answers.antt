use Rattle.std.proofs.Common.{◌∙◌, sym, ap}
use Rattle.base.specs.Texels.{canvas_of}
use Rattle.device_clear.proofs.Simplifying.{draws_whole}
use Rattle.device_clear.proofs.simpler.draw_whole.Goals as goal

pub returns : goal.returns
returns c =
    draws_whole c.args.shapes.now c.args.op.now c.args.loaded.now c.requires c.in-Draw.dst c.in-Draw.clear c.in-Draw.rects c.in_ok-rect.rect c.canvas.result c.in-Draw.is
    (sym c.deref.ensures ∙ c.in_ok-rect.ensures)
    (c.canvas.ensures ∙ ap canvas_of c.shape_at.ensures)
    (c.sets_all.ensures c.if-not-sets_all.false)
