-- What a frame is recorded as, under names that proofs of code keep folded.
use Rattle.std.specs.Prelude.{ℕ, List, Bool}
use Rattle.frame.specs.Numbered.{NumberedFrame}
use Rattle.compile_groups.specs.declared.grouping.Grouping.{Grouping}
use Rattle.compile_heap.specs.Placing.{Places}
use Rattle.compile_record.specs.Marks.{steps_of}
use Rattle.compile_record.specs.Recorded.{program_of}
use Rattle.compile_record.specs.Script.{script}
use Rattle.program.specs.declared.program.Program.{Program}
use Rattle.compile_timeline.specs.declared.step.Step.{Step}
use Rattle.compile_barriers.specs.Under.{Heap}

unfoldable pub all_steps : Grouping → Heap → List Step
all_steps G heap = steps_of (script G heap)

unfoldable pub whole_program : NumberedFrame → Grouping → (ℕ → ℕ → Bool) → Places → Program
whole_program frame G ordered places = program_of frame G ordered places
