use Rattle.base.proofs.Operands.{destination_long}
use Rattle.frame_meaning.proofs.Runs.{source_long}
use Rattle.frame_meaning.proofs.bytes.Bytes.store.Goals as goal
use Rattle.kernel.proofs.Draws.{not_draw}

pub apply-requires : goal.apply-requires
apply-requires c = record {
  operands = c.requires.operands;
  fits = c.requires.fits;
  kind = not_draw c.args.op.now c.in_default.not-Draw;
  first = source_long c.args.shapes.now c.args.self.now c.args.op.now 0 c.source.result.now c.requires.sources c.source.ensures;
  second = source_long c.args.shapes.now c.args.self.now c.args.op.now 1 c.source-in_default.result.now c.requires.sources c.source-in_default.ensures;
  third = source_long c.args.shapes.now c.args.self.now c.args.op.now 2 c.source-in_default-2.result.now c.requires.sources c.source-in_default-2.ensures;
  out = destination_long c.args.shapes.now c.args.op.now _ c.requires.out;
}
