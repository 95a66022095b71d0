use Rattle.std.proofs.Common.{◌∙◌, sym}
use Rattle.device_clear.proofs.Simplifying.{draws_nothing, no_entries}
use Rattle.device_clear.proofs.simpler.draw_nothing.Goals as goal

pub returns : goal.returns
returns c = draws_nothing c.args.shapes.now c.args.op.now c.args.loaded.now c.requires c.in-Draw.dst c.in_ok-value.value c.in-Draw.clear c.in-Draw.rects c.in-Draw.is c.in_ok-value.was (no_entries c.in-Draw.rects (sym c.is_empty.ensures ∙ c.if-not-is_empty.false))
