use Rattle.std.proofs.Common.{rules}
use Rattle.hex.proofs.HexLemmas.{decode_of-ok}
use Rattle.file_shapes.proofs.hexadecimal.decode.Goals as goal

pub returns-in-Ok-clause-fits : goal.returns-in-Ok-clause-fits
returns-in-Ok-clause-fits c = (decode_of-ok c.args.text.now c.from_vec.result (search rules)).3
