-- Where the bytes of persisting names are while a window runs.
use Rattle.std.specs.Prelude.{ℕ, List, [], ◌∷◌, ◌+◌, map, length, Option, Some, None}
use Rattle.law_window.specs.Flown.{Flown}

-- persisted from before the window, or left in a unit by an earlier frame of it
pub data Source : Type 0 where
  Given : List ℕ → Source
  Left : ℕ → Source

-- a buffer whose bytes were persisted is an import; one whose bytes were left in a unit gets them by a copy
abbrev pub import_from : Source → Option (List ℕ)
import_from (Given bytes) = Some bytes
import_from (Left unit) = None

abbrev pub given : List (List ℕ) → List Source
given persisted = map (λ bytes. Given bytes) persisted

-- after a frame whose units begin at n
abbrev pub sources_after : ℕ → List (Option ℕ) → List Source → List Source
sources_after n [] sources = sources
sources_after n (place ∷ places) [] = []
sources_after n (None ∷ places) (source ∷ sources) = source ∷ sources_after n places sources
sources_after n (Some x ∷ places) (source ∷ sources) = Left (n + x) ∷ sources_after n places sources

-- where the units of the next frame begin
abbrev pub next : ℕ → Flown → ℕ
next n flown = n + length flown.frame.units

-- after frames of which the first begins at n
abbrev pub last_sources : ℕ → List Source → List Flown → List Source
last_sources n sources [] = sources
last_sources n sources (flown ∷ frames) = last_sources (next n flown) (sources_after n flown.places sources) frames

-- the units that have bytes of persisting names
abbrev pub left_units : List Source → List ℕ
left_units [] = []
left_units (Given bytes ∷ sources) = left_units sources
left_units (Left unit ∷ sources) = unit ∷ left_units sources
