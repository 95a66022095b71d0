-- A compiled program by its steps, and what the laws below say of these.
use Rattle.std.proofs.Common.{◌≡◌, List, ap}
use Rattle.compile_barriers.specs.Under.{Heap}
use Rattle.compile_groups.specs.Groups.{grouping}
use Rattle.compile_record.specs.Marks.{steps_of}
use Rattle.compile_record.specs.Recorded.{heap_with, IsCompiled}
use Rattle.compile_record.specs.Script.{script}
use Rattle.compile_record.specs.declared.compiled.Compiled.{Compiled}
use Rattle.compile_timeline.specs.Batches.{queues}
use Rattle.compile_timeline.specs.declared.step.Step.{Step}
use Rattle.frame.specs.Numbered.{NumberedFrame}
use Rattle.program.specs.declared.program.Program.{Program}

module _ (frame : NumberedFrame) (made : Compiled Program) (C : IsCompiled frame made) where
  abbrev pub heap : Heap
  heap = heap_with C.ordered made.placement

  abbrev pub list : List Step
  list = steps_of (script (grouping frame made.kept) (heap_with C.ordered made.placement))

  pub queues_are : made.program.queues ≡ queues (steps_of (script (grouping frame made.kept) (heap_with C.ordered made.placement))) (grouping frame made.kept).families
  queues_are = ap (λ (p : Program). p.queues) C.recorded
