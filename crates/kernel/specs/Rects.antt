-- Rectangles inside a grid.
use Rattle.std.specs.Prelude.{◌+◌, ◌≤◌}
use Rattle.base.specs.declared.grid.Grid.{Grid}
use Rattle.base.specs.declared.op.Rect.{Rect}

abbrev pub IsWithin : Grid → Rect → Type 0
IsWithin g rect = (rect.x + rect.width ≤ g.width) × (rect.y + rect.height ≤ g.height)
