-- The bytes that are persisted for each persisting name while frames run one after another.
use Rattle.std.specs.Prelude.{ℕ, List, [], ◌∷◌, ◌++◌, slice_get, unwrap_or, Option, Some, None}
use Rattle.std.specs.Option.{option_map_or}
use Rattle.frame.specs.Numbered.{NumberedFrame}
use Rattle.frame.specs.Units.{Unit}
use Rattle.frame_meaning.specs.Meaning.{all_bytes, meaning}
use Rattle.law_window.specs.Flown.{Flown, holding}

-- BEFORE THE FIRST FRAME

abbrev pub import_at : List Unit → ℕ → List ℕ
import_at units place = option_map_or (λ unit. unwrap_or unit.imported []) (slice_get units place) []

-- for each name that has a place the import there, for the others these bytes
abbrev pub first_imports : List Unit → List (Option ℕ) → List (List ℕ) → List (List ℕ)
first_imports units [] others = others
first_imports units (place ∷ places) [] = []
first_imports units (None ∷ places) (bytes ∷ others) = bytes ∷ first_imports units places others
first_imports units (Some x ∷ places) (bytes ∷ others) = import_at units x ∷ first_imports units places others

-- for each name the import of the first frame that has it, and these bytes where no frame has it
abbrev pub first_persisted : List Flown → List (List ℕ) → List (List ℕ)
first_persisted [] none = none
first_persisted (flown ∷ frames) none = first_imports flown.frame.units flown.places (first_persisted frames none)

-- AFTER FRAMES

-- what a frame that ran means under the names that it has, and what was persisted under the others
abbrev pub kept : NumberedFrame → List (Option ℕ) → List (List ℕ) → List (List ℕ)
kept ran [] persisted = persisted
kept ran (place ∷ places) [] = []
kept ran (None ∷ places) (bytes ∷ persisted) = bytes ∷ kept ran places persisted
kept ran (Some x ∷ places) (bytes ∷ persisted) = unwrap_or (meaning ran x) [] ∷ kept ran places persisted

abbrev pub persisted_by : Flown → List (List ℕ) → List (List ℕ)
persisted_by flown persisted = kept (holding persisted flown) flown.places persisted

abbrev pub persisted_after : List Flown → List (List ℕ) → List (List ℕ)
persisted_after [] persisted = persisted
persisted_after (flown ∷ frames) persisted = persisted_after frames (persisted_by flown persisted)

-- the bytes of all units of all frames, frame after frame
abbrev pub flown_bytes : List Flown → List (List ℕ) → List (List ℕ)
flown_bytes [] persisted = []
flown_bytes (flown ∷ frames) persisted = all_bytes (holding persisted flown) ++ flown_bytes frames (persisted_by flown persisted)
