-- Each number names a memory, a piece or a queue that is there.
use Rattle.std.specs.Prelude.{ℕ, List, length, nat_lt, Bool, true}
use Rattle.base.specs.declared.shape.Shape.{Shape}
use Rattle.program.specs.Ranges.{has_operands}
use Rattle.program.specs.declared.program.Item.{Item}
use Rattle.program.specs.declared.program.Item.TheVariants.{Command, Global, BufferBarrier, ImageBarrier, Release, Acquire}

abbrev pub has_piece : List Shape → ℕ → Bool
has_piece shapes number = nat_lt number (length shapes)

abbrev pub item_known : List Shape → Item → Bool
item_known shapes (Command op) = has_operands shapes op
item_known shapes (Global masks) = true
item_known shapes (BufferBarrier piece masks) = has_piece shapes piece
item_known shapes (ImageBarrier piece layouts masks) = has_piece shapes piece
item_known shapes (Release t) = has_piece shapes t.piece
item_known shapes (Acquire t) = has_piece shapes t.piece
