-- Bytes that hold the texels of a grid.
use Rattle.std.specs.Prelude.{◌≡◌, ℕ, List, ◌*◌, length}
use Rattle.base.specs.Shapes.{texel_bytes}
use Rattle.base.specs.declared.grid.Grid.{Grid}

-- so many bytes as rows of the grid
abbrev pub HasRows : Grid → ℕ → List ℕ → Type 0
HasRows g count bytes = length bytes ≡ texel_bytes g.texel * (g.width * count)
