-- The resources of a frame with other imports and names.
use Rattle.std.specs.Prelude.{ℕ, zero, suc, List, [], ◌∷◌, Option, Some, None}
use Rattle.frame.specs.declared.frame.Resource.{Resource}
use Rattle.law_window.specs.Names.{numbered_name}

-- resource k with these bytes as its import, or as no import
abbrev pub set_import : List Resource → ℕ → Option (List ℕ) → List Resource
set_import [] k import = []
set_import (r ∷ rs) zero import = record r { import = import } ∷ rs
set_import (r ∷ rs) (suc k) import = r ∷ set_import rs k import

-- the same for each persisting name that a resource has
abbrev pub set_imports : List (Option ℕ) → List (Option (List ℕ)) → List Resource → List Resource
set_imports [] imports rs = rs
set_imports (holder ∷ holders) [] rs = rs
set_imports (None ∷ holders) (import ∷ imports) rs = set_imports holders imports rs
set_imports (Some k ∷ holders) (import ∷ imports) rs = set_imports holders imports (set_import rs k import)

-- the resources of frame i from resource j on
abbrev pub renamed_resources : ℕ → ℕ → List Resource → List Resource
renamed_resources i j [] = []
renamed_resources i j (r ∷ rs) = record r { name = numbered_name i j } ∷ renamed_resources i (suc j) rs
