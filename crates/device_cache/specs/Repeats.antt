-- The four bytes of a word, lowest first, again and again.
use Rattle.std.specs.Prelude.{ℕ, List, ◌*◌, ◌/◌, ◌%◌, ◌^◌, map}
use Rattle.std.specs.List.{range_with_len}

-- the byte in place i
abbrev pub byte_of : ℕ → ℕ → ℕ
byte_of word i = word / 2 ^ (8 * (i % 4)) % 256

-- so many of them
unfoldable pub repeated : ℕ → ℕ → List ℕ
repeated word n = map (byte_of word) (range_with_len 0 n)
