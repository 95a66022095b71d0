use Rattle.std.proofs.Common.{arith, ap, get_or, ◌∙◌}
use Rattle.std.specs.Int.{from_le_bytes, w32}
use Rattle.std.proofs.lemmas.Nat.{from_le_bytes-to_le_bytes_4}
use Rattle.kernel.proofs.Bytes.{put_here, put_others}
use Rattle.kernel.proofs.texels.put_word.Goals as goal

pub returns-clause-here : goal.returns-clause-here
returns-clause-here c =
    let low = c.to_le_bytes-low.result in
    let back = ap (from_le_bytes w32) c.to_le_bytes-low.ensures ∙ from_le_bytes-to_le_bytes_4 c.args.value c.ranges.value.fits in
    omega (arith, put_here c.args.bytes.now c.args.i (get_or low 0 0) (get_or low 1 0) (get_or low 2 0) (get_or low 3 0) c.requires, back)

pub returns-clause-others : goal.returns-clause-others
returns-clause-others c =
    let low = c.to_le_bytes-low.result in
    put_others c.args.bytes.now c.args.i (get_or low 0 0) (get_or low 1 0) (get_or low 2 0) (get_or low 3 0) c.requires
