-- Masks as texts: names joined by bars. Row tables have the names in the order of their bits.
use Rattle.std.specs.Prelude.{ℕ, Bool, List, [], ◌∷◌, ◌++◌, ◌==◌, length, Option, Some, None, option_and_then, if◌then◌else◌}
use Rattle.std.specs.Int.RustNames.{bit_or}
use Rattle.std.specs.List.{slice_split}
use Rattle.std.specs.Str.{bytes_eq}
use Rattle.bitflags.specs.Sets.{Row}
use Rattle.vk.specs.Sets.{has}

-- the bar
abbrev pub is_bar : ℕ → Bool
is_bar byte = byte == 124

-- READING

-- the bits of a name
abbrev pub bits_named : List Row → List ℕ → Option ℕ
bits_named [] name = None
bits_named (row ∷ rows) name = if bytes_eq row.0 name then Some row.1 else bits_named rows name

-- the set with the bits of each of these names
abbrev pub union_of : List Row → ℕ → List (List ℕ) → Option ℕ
union_of table set [] = Some set
union_of table set (name ∷ names) = option_and_then (λ bits. union_of table (bit_or set bits) names) (bits_named table name)

-- the set that a text stands for: names in any order, which may repeat; no bytes are the empty set
abbrev pub mask_of : List Row → List ℕ → Option ℕ
mask_of table text = if length text == 0 then Some 0 else union_of table 0 (slice_split is_bar text)

-- WRITING

-- the names of a set, in the order of their bits
abbrev pub names_of : List Row → ℕ → List (List ℕ)
names_of [] set = []
names_of (row ∷ rows) set = if has set row.1 then row.0 ∷ names_of rows set else names_of rows set

-- joined by bars
abbrev pub joined : List (List ℕ) → List ℕ
joined [] = []
joined (name ∷ []) = name
joined (name ∷ names) = name ++ 124 ∷ joined names

abbrev pub text_of : List Row → ℕ → List ℕ
text_of table set = joined (names_of table set)
