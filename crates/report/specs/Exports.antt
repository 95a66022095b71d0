-- Exports, as they are printed.
use Rattle.std.specs.Prelude.{ℕ, List, [], ◌++◌, length, codes, Option, option_and_then, slice_get}
use Rattle.std.specs.Fmt.{decimal}
use Rattle.std.specs.Option.{option_map_or}
use Rattle.frame.specs.Numbered.{numbered}
use Rattle.frame.specs.Units.{unit_spots}
use Rattle.frame.specs.declared.frame.Frame.{Frame}
use Rattle.frame.specs.declared.frame.Spot.{Spot}
use Rattle.base_text.specs.HexLines.{hex_lines}
use Rattle.report.specs.UnitNames.{spot_text}

-- a unit, how many bytes it has, and the bytes
abbrev pub export_lines : Spot → List ℕ → List ℕ
export_lines unit bytes = codes "export " ++ spot_text unit ++ codes " " ++ decimal (length bytes) ++ codes "\n" ++ hex_lines bytes

-- how the unit of export k is named
abbrev pub exported : Frame → ℕ → Option Spot
exported frame k = option_and_then (slice_get (unit_spots frame)) (slice_get (numbered frame).exports k)

-- export k with these bytes; nothing where there is none
abbrev pub export_text : Frame → ℕ → List ℕ → List ℕ
export_text frame k bytes = option_map_or (λ unit. export_lines unit bytes) (exported frame k) []
