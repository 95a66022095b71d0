-- Where the bytes of persisting names are while a window runs.
use Rattle.std.specs.Prelude.{ℕ, suc, List, [], ◌∷◌, map, Option, Some, None}
use Rattle.law_window.specs.Declared.{Declared}
use Rattle.law_window.specs.Names.{numbered_name}

-- persisted from before the window, or in a resource of it
pub data NamedSource : Type 0 where
  Kept : List ℕ → NamedSource
  Named : List ℕ → NamedSource

abbrev pub kept : List (List ℕ) → List NamedSource
kept persisted = map (λ bytes. Kept bytes) persisted

-- a resource whose bytes were persisted is an import; one whose bytes are in another gets them by a copy
abbrev pub named_import : NamedSource → Option (List ℕ)
named_import (Kept bytes) = Some bytes
named_import (Named name) = None

-- after frame i
abbrev pub named_after : ℕ → List (Option ℕ) → List NamedSource → List NamedSource
named_after i [] sources = sources
named_after i (holder ∷ holders) [] = []
named_after i (None ∷ holders) (source ∷ sources) = source ∷ named_after i holders sources
named_after i (Some k ∷ holders) (source ∷ sources) = Named (numbered_name i k) ∷ named_after i holders sources

-- after frames from frame i on
abbrev pub last_named : ℕ → List NamedSource → List Declared → List NamedSource
last_named i sources [] = sources
last_named i sources (d ∷ ds) = last_named (suc i) (named_after i d.holders sources) ds

-- the names in the window of the resources that have bytes of persisting names
abbrev pub left_names : List NamedSource → List (List ℕ)
left_names [] = []
left_names (Kept bytes ∷ sources) = left_names sources
left_names (Named name ∷ sources) = name ∷ left_names sources
