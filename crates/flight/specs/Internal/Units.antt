-- The last unit under a name, where the frames do not export it themselves.
use Rattle.std.specs.Prelude.{ℕ, List, Option, None, Some, option_and_then}
use Rattle.std.specs.Option.{option_map_or}
use Rattle.flight.specs.Exported.{last_unit, own_units, place_from}
use Rattle.frame.specs.declared.frame.Frame.{Frame}

abbrev pub unless_own : List Frame → ℕ → Option ℕ
unless_own frames unit = option_map_or (λ (place : ℕ). None) (place_from unit 0 (own_units 0 frames)) (Some unit)

abbrev pub other_unit : List Frame → List ℕ → Option ℕ
other_unit frames name = option_and_then (unless_own frames) (last_unit 0 name None frames)
