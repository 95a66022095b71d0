-- A compiled program has an order of its nodes in which its commands stand as they are declared.
use Rattle.std.proofs.Common.{List, Bool, length, ap}
use Rattle.law_schedule.specs.Laws.{OfCut, OfScript, HasOrder}
use Rattle.law_schedule.specs.Standing.{IsCut, AllStand, AreThese}
use Rattle.law_meaning.proofs.Commands.{commands_declared}
use Rattle.law_meaning.specs.DeclaredLaws.{HasDeclaredOrder}
use Rattle.frame.specs.Valid.{IsValid}
use Rattle.frame.specs.Numbered.{NumberedFrame}
use Rattle.compile_groups.specs.Groups.{grouping}
use Rattle.compile_record.specs.Marks.{steps_of}
use Rattle.compile_record.specs.Recorded.{heap_with, IsCompiled}
use Rattle.compile_record.specs.declared.compiled.Compiled.{Compiled}
use Rattle.compile_record.specs.Script.{script}
use Rattle.compile_record.specs.Standing.{IsStanding}
use Rattle.program.specs.declared.program.Program.{Program}
use Rattle.compile_timeline.specs.Steps.{IsScript}
use Rattle.compile_barriers.specs.Under.{Heap}

module _ (stand : OfCut AllStand) (all : OfCut AreThese) (has_order : OfScript HasOrder) where
  -- of a program that is cut from what is recorded
  recorded_order : (frame : NumberedFrame) (kept : List Bool) (heap : Heap) (P : Program) → IsStanding (grouping frame kept) heap → IsScript (steps_of (script (grouping frame kept) heap)) (length frame.queues) → IsCut P (steps_of (script (grouping frame kept) heap)) frame.queues → HasDeclaredOrder frame kept P
  recorded_order frame kept heap P S K cut =
      let G = grouping frame kept in
      let by = has_order P (steps_of (script G heap)) frame.queues cut K in (
        by.0,
        record {
          order_is = by.1.order;
          declared = commands_declared P G heap (length frame.queues) S (stand P (steps_of (script G heap)) frame.queues cut) (all P (steps_of (script G heap)) frame.queues cut) K by.0 by.1;
        },
      )

  module _ (in_turn : (frame : NumberedFrame) (kept : List Bool) (heap : Heap) → IsValid frame → IsScript (steps_of (script (grouping frame kept) heap)) (length frame.queues)) (standing : (frame : NumberedFrame) (kept : List Bool) (heap : Heap) → IsStanding (grouping frame kept) heap) where
    pub compiled_order : (frame : NumberedFrame) (made : Compiled Program) → IsValid frame → IsCompiled frame made → HasDeclaredOrder frame made.kept made.program
    compiled_order frame made good compiled = let heap = heap_with compiled.ordered made.placement in recorded_order frame made.kept heap made.program (standing frame made.kept heap) (in_turn frame made.kept heap good) (ap (λ (p : Program). p.queues) compiled.recorded)
