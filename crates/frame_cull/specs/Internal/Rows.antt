-- Rows of versions as they grow.
use Rattle.std.specs.Prelude.{ℕ, List, [], ◌∷◌, ◌++◌, length, Option, Some, slice_set}
use Rattle.frame.specs.declared.frame.Write.{Write}
use Rattle.frame_cull.specs.Versions.{row_of}

-- one version more, which pass p makes
abbrev pub grown : ℕ → ℕ → List (List (Option ℕ)) → List (List (Option ℕ))
grown p unit rows = slice_set rows unit (row_of rows unit ++ Some p ∷ [])

-- one more for each write of pass p
abbrev pub added : ℕ → List (Write ℕ) → List (List (Option ℕ)) → List (List (Option ℕ))
added p [] rows = rows
added p (w ∷ writes) rows = added p writes (grown p w.what rows)

-- the numbers of these versions
abbrev pub added_numbers : ℕ → List (Write ℕ) → List (List (Option ℕ)) → List ℕ
added_numbers p [] rows = []
added_numbers p (w ∷ writes) rows = length (row_of rows w.what) ∷ added_numbers p writes (grown p w.what rows)
