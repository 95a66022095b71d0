-- What a declared window exports.
use Rattle.std.specs.Prelude.{ℕ, suc, List, [], ◌∷◌, ◌++◌, map, not}
use Rattle.std.specs.List.{filter, list_any}
use Rattle.std.specs.Str.{bytes_eq}
use Rattle.frame.specs.declared.frame.Spot.{Spot}
use Rattle.law_window.specs.Declared.{Declared}
use Rattle.law_window.specs.NamedJoins.{whole}
use Rattle.law_window.specs.Names.{rename_in}
use Rattle.law_window.specs.Passes.{renamed_spot}

-- the exports of frames from frame i on
abbrev pub declared_exports : ℕ → List Declared → List Spot
declared_exports i [] = []
declared_exports i (d ∷ ds) = map (renamed_spot (rename_in i d.frame)) d.frame.exports ++ declared_exports (suc i) ds

-- those of these names that no spot has
abbrev pub named_others : List Spot → List (List ℕ) → List Spot
named_others own names = map whole (filter (λ name. not (list_any (λ spot. bytes_eq name spot.name) own)) names)
