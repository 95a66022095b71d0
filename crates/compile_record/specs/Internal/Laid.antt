-- What the stages of compiling come to.
use Rattle.std.specs.Prelude.{◌≡◌, ℕ, Bool}
use Rattle.frame.specs.Numbered.{NumberedFrame}
use Rattle.compile_groups.specs.Placed.{sizes}
use Rattle.compile_groups.specs.declared.grouping.Grouping.{Grouping}
use Rattle.compile_lifetimes.specs.Ordered.{IsOrdered}
use Rattle.compile_heap.specs.Placing.{Places, IsLeast}
use Rattle.compile_record.specs.Internal.Folded.{whole_program}
use Rattle.program.specs.declared.program.Program.{Program}

-- least places for these groups, and what is recorded over them
pub record IsLaid (frame : NumberedFrame) (G : Grouping) (places : Places) (program : Program) : Type 0 where
  pub ordered : ℕ → ℕ → Bool
  pub is_ordered : IsOrdered G ordered
  pub least : IsLeast (sizes G) ordered places
  pub recorded : program ≡ whole_program frame G ordered places
