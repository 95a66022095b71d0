-- The bytes of persisting names in the middle of a window.
use Rattle.std.proofs.Common.{◌≡◌, ℕ, ◌<◌, List, [], ◌∷◌, length, map, true, Option, Some, None, refl, ap}
use Rattle.base.specs.Applied.{bytes_at}
use Rattle.base.specs.Shapes.{shape_at}
use Rattle.base.specs.declared.shape.Shape.TheVariants.{Buffer}
use Rattle.frame.specs.Valid.{has_contents, shapes_in}
use Rattle.frame.specs.Numbered.{NumberedFrame}
use Rattle.frame.specs.declared.numbered.NumberedPass.{NumberedPass}
use Rattle.law_window.specs.Sources.{given, Given, Left, Source, import_from}

-- the bytes that a source has
abbrev pub bytes_from : List (List ℕ) → Source → List ℕ
bytes_from before (Given bytes) = bytes
bytes_from before (Left unit) = bytes_at before unit

-- sources with as many bytes as their names have
abbrev pub AreFrom : List (List ℕ) → List ℕ → List Source → Type 0
AreFrom before [] [] = Unit {0}
AreFrom before [] (source ∷ sources) = ⊥
AreFrom before (size ∷ sizes) [] = ⊥
AreFrom before (size ∷ sizes) (Given bytes ∷ sources) = (length bytes ≡ size) × AreFrom before sizes sources
AreFrom before (size ∷ sizes) (Left unit ∷ sources) = (unit < length before) × (length (bytes_at before unit) ≡ size) × AreFrom before sizes sources

-- the units that hold bytes of persisting names stand before n, are buffers of the names' sizes, and have contents after these passes
abbrev pub AreLeft : NumberedFrame → List NumberedPass → ℕ → List ℕ → List Source → Type 0
AreLeft W earlier n [] [] = Unit {0}
AreLeft W earlier n [] (source ∷ sources) = ⊥
AreLeft W earlier n (size ∷ sizes) [] = ⊥
AreLeft W earlier n (size ∷ sizes) (Given bytes ∷ sources) = (length bytes ≡ size) × AreLeft W earlier n sizes sources
AreLeft W earlier n (size ∷ sizes) (Left unit ∷ sources) = (unit < n) × (shape_at (shapes_in W) unit ≡ Buffer size) × (has_contents W.units earlier unit ≡ true) × AreLeft W earlier n sizes sources

-- the bytes that are persisted are as many as the names have
abbrev pub AreGiven : List ℕ → List Source → Type 0
AreGiven [] [] = Unit {0}
AreGiven [] (source ∷ sources) = ⊥
AreGiven (size ∷ sizes) [] = ⊥
AreGiven (size ∷ sizes) (Given bytes ∷ sources) = (length bytes ≡ size) × AreGiven sizes sources
AreGiven (size ∷ sizes) (Left unit ∷ sources) = AreGiven sizes sources

pub from_given : (before : List (List ℕ)) (sizes : List ℕ) (sources : List Source) → AreFrom before sizes sources → AreGiven sizes sources
from_given before [] [] from = tt
from_given before [] (source ∷ sources) from = absurd from
from_given before (size ∷ sizes) [] from = absurd from
from_given before (size ∷ sizes) (Given bytes ∷ sources) from = (from.0, from_given before sizes sources from.1)
from_given before (size ∷ sizes) (Left unit ∷ sources) from = from_given before sizes sources from.2

-- what holds of all places
abbrev pub AllPlaced : (ℕ → Type 0) → List (Option ℕ) → Type 0
AllPlaced P [] = Unit {0}
AllPlaced P (None ∷ places) = AllPlaced P places
AllPlaced P (Some x ∷ places) = P x × AllPlaced P places

-- what is given instead, as the same bytes
abbrev pub as_given : List (List ℕ) → Source → Source
as_given before source = Given (bytes_from before source)

pub given_from : (before : List (List ℕ)) (sizes : List ℕ) (sources : List Source) → AreFrom before sizes sources → AreGiven sizes (map (as_given before) sources)
given_from before [] [] from = tt
given_from before [] (source ∷ sources) from = absurd from
given_from before (size ∷ sizes) [] from = absurd from
given_from before (size ∷ sizes) (Given bytes ∷ sources) from = (from.0, given_from before sizes sources from.1)
given_from before (size ∷ sizes) (Left unit ∷ sources) from = (from.1, given_from before sizes sources from.2)

pub given_imports : (before : List (List ℕ)) (sources : List Source) → map import_from (map (as_given before) sources) ≡ map (λ bytes. Some bytes) (map (bytes_from before) sources)
given_imports before [] = refl
given_imports before (source ∷ sources) = ap (λ s. Some (bytes_from before source) ∷ s) (given_imports before sources)

-- before the first frame of a window
pub start_from : (persisted : List (List ℕ)) (sizes : List ℕ) → map length persisted ≡ sizes → AreFrom [] sizes (given persisted)
start_from [] [] is = tt
start_from [] (size ∷ sizes) is = absurd cc
start_from (bytes ∷ persisted) [] is = absurd cc
start_from (bytes ∷ persisted) (size ∷ sizes) is = (cc, start_from persisted sizes cc)

pub start_held : (persisted : List (List ℕ)) → map (bytes_from []) (given persisted) ≡ persisted
start_held [] = refl
start_held (bytes ∷ persisted) = ap (λ s. bytes ∷ s) (start_held persisted)
