-- Parts of a program whose pieces are there.
use Rattle.std.specs.Prelude.{◌≡◌, List, true}
use Rattle.base.specs.declared.shape.Shape.{Shape}
use Rattle.program.specs.Entries.{Entry, OfItem}
use Rattle.program.specs.Numbers.{item_known}

-- an item's
abbrev pub IsKnown : List Shape → Entry → Type 0
IsKnown shapes (OfItem q item) = item_known shapes item ≡ true
IsKnown shapes entry = Unit {0}
