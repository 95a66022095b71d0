-- Places in a file, as they are printed.
use Rattle.std.specs.Prelude.{ℕ, List, ◌++◌, ◌&&◌, nat_le, map, codes, if◌then◌else◌}
use Rattle.std.specs.Fmt.{decimal}
use Rattle.std.specs.List.{flat_map}
use Rattle.base.specs.declared.path.Leg.{Leg}
use Rattle.base.specs.declared.path.Leg.TheVariants.{Member, Position}

-- a byte of a key: from the space to the tilde as it is, any other as a question mark
abbrev pub printed : ℕ → ℕ
printed byte = if nat_le 32 byte && nat_le byte 126 then byte else 63

abbrev pub leg_text : Leg → List ℕ
leg_text (Member key) = codes "." ++ map printed key
leg_text (Position at) = codes "[" ++ decimal at ++ codes "]"

-- the steps from the root of the file, which is a dollar sign
abbrev pub path_text : List Leg → List ℕ
path_text place = codes "$" ++ flat_map leg_text place
