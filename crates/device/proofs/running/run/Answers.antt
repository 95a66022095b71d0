use Rattle.base.proofs.Operands.{destination_long}
use Rattle.device.proofs.Sources.{source_long}
use Rattle.device.proofs.running.run.Goals as goal
use Rattle.kernel.proofs.Draws.{not_draw}

pub apply-requires : goal.apply-requires
apply-requires c =
    let shapes = c.args.shapes.now in
    let op = c.args.op.now in
    let loaded = c.args.loaded.now in
    let R = c.requires.runnable in
    record {
      operands = R.operands;
      fits = R.fitting;
      kind = not_draw op c.in_default.not-Draw;
      first = source_long shapes op loaded R 0 c.source.result.now c.source.ensures;
      second = source_long shapes op loaded R 1 c.source-in_default.result.now c.source-in_default.ensures;
      third = source_long shapes op loaded R 2 c.source-in_default-2.result.now c.source-in_default-2.ensures;
      out = destination_long shapes op _ c.requires.out;
    }
