-- Bytes as lines of hexadecimal.
use Rattle.std.specs.Prelude.{ℕ, zero, suc, ◌*◌, List, [], ◌∷◌, ◌++◌, length, take, drop}
use Rattle.std.specs.Int.{div_ceil}
use Rattle.hex.specs.Hex.{encode_lower}

-- two lower-case digits a byte, and a line feed
abbrev pub hex_line : List ℕ → List ℕ
hex_line bytes = encode_lower bytes ++ 10 ∷ []

-- line i has the bytes from 32 * i on, 32 of them or those that are left; these are the first n lines
abbrev pub first_lines : List ℕ → ℕ → List ℕ
first_lines bytes zero = []
first_lines bytes (suc i) = first_lines bytes i ++ hex_line (take 32 (drop (32 * i) bytes))

-- no line for no bytes
abbrev pub hex_lines : List ℕ → List ℕ
hex_lines bytes = first_lines bytes (div_ceil (length bytes) 32)
