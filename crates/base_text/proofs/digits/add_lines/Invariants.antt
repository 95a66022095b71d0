use Rattle.std.proofs.Common.{◌≡◌, ◌++◌}
use Rattle.base_text.specs.HexLines.{first_lines}
use Rattle.base_text.proofs.digits.add_lines.Given as goal

abbrev pub invariant-loop-i : goal.invariant-loop-i
invariant-loop-i l = l.text ≡ l.fn.text ++ first_lines l.bytes l.i
