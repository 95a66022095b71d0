-- Worked rows: what the definitions come to on written-out values.
use Rattle.std.proofs.Common.{◌≡◌, [], ◌∷◌, codes, replicate, refl}
use Rattle.std.specs.Fmt.{decimal, digits}
use Rattle.hex.proofs.OnLiterals.{hex_on_literals}
use Rattle.base_text.specs.HexLines.{hex_lines}

no_leading_zeros : decimal 1040 ≡ codes "1040"
unfolding digits
no_leading_zeros = refl

zero_has_a_digit : decimal 0 ≡ codes "0"
unfolding digits
zero_has_a_digit = refl

no_line : hex_lines [] ≡ []
no_line = refl

one_line : hex_lines (1 ∷ 254 ∷ []) ≡ codes "01fe\n"
unfolding hex_on_literals
one_line = refl

full_line : hex_lines (replicate 32 7) ≡ codes "0707070707070707070707070707070707070707070707070707070707070707\n"
unfolding hex_on_literals
full_line = refl

two_lines : hex_lines (replicate 34 0) ≡ codes "0000000000000000000000000000000000000000000000000000000000000000\n0000\n"
unfolding hex_on_literals
two_lines = refl
