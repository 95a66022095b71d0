use Rattle.std.proofs.Common.{◌-◌, ◌*◌, length, take, drop}
use Rattle.std.proofs.lemmas.List.{take_rest}
use Rattle.base_text.proofs.MoreLines.{first_lines-more}
use Rattle.base_text.proofs.digits.add_lines.Goals as goal

pub loop-i-preserved : goal.loop-i-preserved
loop-i-preserved c =
    let bytes = c.args.bytes.now in
    let start = 32 * c.loop-i.i in
    first_lines-more c.args.text.now c.loop-i.text c.hex_line.new.text bytes (take (length bytes - start) (drop start bytes)) c.loop-i.i c.min.result c.loop-i.invariant (take_rest bytes start) c.min.ensures c.in_ok-hex_line.ensures.ok
