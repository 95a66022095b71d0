-- Read-backs, as they are printed.
use Rattle.std.specs.Prelude.{ℕ, List, ◌++◌, length, codes}
use Rattle.std.specs.Fmt.{decimal}
use Rattle.base_text.specs.HexLines.{hex_lines}

-- the number of a read-back, how many bytes it has, and the bytes
abbrev pub readback_text : ℕ → List ℕ → List ℕ
readback_text k bytes = codes "readback " ++ decimal k ++ codes " " ++ decimal (length bytes) ++ codes "\n" ++ hex_lines bytes
