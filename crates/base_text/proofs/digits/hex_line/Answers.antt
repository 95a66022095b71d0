use Rattle.std.proofs.Common.{◌≡◌, ◌*◌, [], ◌∷◌, length, ◌∙◌, arith}
use Rattle.base_text.proofs.MoreLines.{last_one}
use Rattle.base_text.proofs.digits.hex_line.Goals as goal

pub returns-clause-ok : goal.returns-clause-ok
returns-clause-ok c =
    let digits = c.put_digits.ensures in
    let line_feed : c.split_at_mut-digits.result.1.now ≡ 10 ∷ [] = c.split_at_mut-digits.ensures.back ∙ last_one (2 * length c.args.bytes.now) 65 10 (omega arith) in
    let is = c.extend_from_slice.ensures.ok in
    rw (digits, line_feed) at is
