-- Bytes that are held only while they are wanted.
use Rattle.std.specs.Prelude.{◌≡◌, ◌<◌, ◌+◌, ◌==◌, ◌||◌, ◌++◌, ◌⊎◌, ℕ, List, [], ◌∷◌, Bool, true, drop, map, length, slice_get, slice_set, if◌then◌else◌}
use Rattle.std.specs.List.{list_any, flat_map}
use Rattle.std.specs.Option.{option_map_or}
use Rattle.base.specs.Applied.{bytes_at}
use Rattle.base.specs.Operands.{touches}
use Rattle.base.specs.declared.op.Op.{Op}
use Rattle.frame.specs.Valid.{shapes_in}
use Rattle.frame.specs.Numbered.{NumberedFrame}
use Rattle.frame.specs.Units.{Unit}
use Rattle.frame.specs.declared.numbered.NumberedPass.{NumberedPass}
use Rattle.frame_meaning.specs.Meaning.{first_bytes, after_ops, all_bytes}
use Rattle.frame_meaning.specs.Internal.Sizes.{AreSized}

-- WHAT IS STILL TO RUN

abbrev pub ops_at : List NumberedPass → ℕ → List (Op ℕ)
ops_at passes pass = option_map_or (λ p. p.ops) (slice_get passes pass) []

-- the operations of passes, one after another
abbrev pub all_ops : List NumberedPass → List (Op ℕ)
all_ops passes = flat_map (λ pass. pass.ops) passes

-- those of a pass from the one with the number k on, and those of the passes after it
abbrev pub ops_from : List NumberedPass → ℕ → ℕ → List (Op ℕ)
ops_from passes pass k = drop k (ops_at passes pass) ++ all_ops (drop (pass + 1) passes)

-- one of these operations names the unit, or it is exported
abbrev pub is_wanted : List ℕ → List (Op ℕ) → ℕ → Bool
is_wanted exports ops unit = list_any (touches unit) ops || list_any (λ export. export == unit) exports

-- WHAT IS HELD

abbrev pub first_at : List Unit → ℕ → List ℕ
first_at units unit = bytes_at (map first_bytes units) unit

-- a unit that holds nothing gets its first bytes
abbrev pub settled : List Unit → List (List ℕ) → ℕ → List (List ℕ)
settled units held unit = if length (bytes_at held unit) == 0 then slice_set held unit (first_at units unit) else held

abbrev pub all_settled : List Unit → List (List ℕ) → List ℕ → List (List ℕ)
all_settled units held [] = held
all_settled units held (unit ∷ rest) = all_settled units (settled units held unit) rest

-- a unit that is not wanted holds nothing
abbrev pub released : (ℕ → Bool) → List (List ℕ) → ℕ → List (List ℕ)
released wanted held unit = if wanted unit then held else slice_set held unit []

abbrev pub all_released : (ℕ → Bool) → List (List ℕ) → List ℕ → List (List ℕ)
all_released wanted held [] = held
all_released wanted held (unit ∷ rest) = all_released wanted (released wanted held unit) rest

-- a unit holds its bytes, or nothing where those are its first ones
abbrev pub Stands : List Unit → List (List ℕ) → List (List ℕ) → ℕ → Type 0
Stands units held bytes unit = (bytes_at held unit ≡ bytes_at bytes unit) ⊎ ((bytes_at held unit ≡ []) × (bytes_at bytes unit ≡ first_at units unit))

-- what is held leads to the frame's meaning, with these operations still to run
pub record IsAt (frame : NumberedFrame) (ops : List (Op ℕ)) (held : List (List ℕ)) : Type 0 where
  pub bytes : List (List ℕ)
  pub sized : AreSized (shapes_in frame) bytes
  pub count : length held ≡ length frame.units
  pub stand : (unit : ℕ) → unit < length frame.units → is_wanted frame.exports ops unit ≡ true → Stands frame.units held bytes unit
  pub leads : after_ops (shapes_in frame) bytes ops ≡ all_bytes frame
