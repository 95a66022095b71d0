-- Spots that name one unit twice.
use Rattle.std.specs.Prelude.{ℕ, List, take, ◌==◌, ◌&&◌, Bool, true, Option, Some, None, if◌then◌else◌}
use Rattle.std.specs.List.{list_any}
use Rattle.std.specs.Str.{bytes_eq}
use Rattle.base.specs.Walks.{first_in}
use Rattle.frame.specs.declared.frame.Spot.{Spot}

-- equal layers, or one of the two stands for all layers
abbrev pub layers_clash : Option ℕ → Option ℕ → Bool
layers_clash None other = true
layers_clash (Some layer) None = true
layers_clash (Some layer) (Some other) = layer == other

abbrev pub clash : Spot → Spot → Bool
clash a b = bytes_eq a.name b.name && layers_clash a.layer b.layer

-- location i, where its entry clashes with one before it
abbrev pub clashes_at : List Spot → ℕ → Spot → Option ℕ
clashes_at spots i spot = if list_any (clash spot) (take i spots) then Some i else None

-- the first entry that clashes with one before it
abbrev pub first_clash : List Spot → Option ℕ
first_clash spots = first_in (clashes_at spots) 0 spots
