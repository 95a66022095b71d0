-- A frame of several that run one after another, with buffers whose bytes persist from one to the next under names.
use Rattle.std.specs.Prelude.{ℕ, zero, suc, List, [], ◌∷◌, map, Option, Some, None}
use Rattle.frame.specs.Numbered.{NumberedFrame}
use Rattle.frame.specs.Units.{Unit}

-- a frame, and for each persisting name the unit that has it, where one has
pub record Flown : Type 0 where
  pub frame : NumberedFrame
  pub places : List (Option ℕ)

-- the units, one of which begins with these bytes, or as no import
abbrev pub with_import : List Unit → ℕ → Option (List ℕ) → List Unit
with_import [] place import = []
with_import (unit ∷ units) zero import = record unit { imported = import } ∷ units
with_import (unit ∷ units) (suc place) import = unit ∷ with_import units place import

-- the same for each unit that has a place
abbrev pub with_imports : List (Option ℕ) → List (Option (List ℕ)) → List Unit → List Unit
with_imports [] imports units = units
with_imports (place ∷ places) [] units = units
with_imports (None ∷ places) (import ∷ imports) units = with_imports places imports units
with_imports (Some x ∷ places) (import ∷ imports) units = with_imports places imports (with_import units x import)

-- the frame that begins with persisted bytes in its persisting buffers
abbrev pub holding : List (List ℕ) → Flown → NumberedFrame
holding persisted flown = record flown.frame { units = with_imports flown.places (map (λ bytes. Some bytes) persisted) flown.frame.units }
