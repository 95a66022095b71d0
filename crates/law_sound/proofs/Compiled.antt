-- What is known of each program that is compiled of a valid frame.
use Rattle.std.proofs.Common.{ℕ, Bool, List, length, refl}
use Rattle.base.specs.declared.shape.Family.{Family}
use Rattle.law_sound.proofs.Commands.{buffers_plain, imports_plain, sorts}
use Rattle.law_sound.proofs.Exports.{are_copied}
use Rattle.law_sound.proofs.Imported.{imported_pieces}
use Rattle.law_sound.proofs.Setting.{IsSet}
use Rattle.law_sound.specs.Nodes.{steps}
use Rattle.law_schedule.specs.Later.{AreSooner}
use Rattle.law_schedule.specs.Laws.{OfCut, OfScript}
use Rattle.law_schedule.specs.Standing.{AllStand, AreThese}
use Rattle.frame.specs.Valid.{IsValid}
use Rattle.frame.specs.Numbered.{NumberedFrame}
use Rattle.compile_groups.specs.Groups.{grouping}
use Rattle.compile_groups.specs.Laws.{IsGrouped, IsKnown}
use Rattle.compile_groups.specs.declared.grouping.Grouping.{Grouping}
use Rattle.compile_heap.specs.Placing.{Places}
use Rattle.compile_record.specs.Recorded.{heap_with, recorded}
use Rattle.compile_record.specs.Standing.{IsStanding}
use Rattle.program.specs.declared.program.Program.{Program}
use Rattle.compile_timeline.specs.Laws.{AreOfFamilies, Ends}
use Rattle.compile_timeline.specs.Steps.{IsScript}
use Rattle.compile_timeline.specs.declared.step.Step.{Step}
use Rattle.compile_barriers.specs.Under.{Heap}

module _ (frame : NumberedFrame) (kept : List Bool) (ordered : ℕ → ℕ → Bool) (places : Places) where
  abbrev G : Grouping
  G = grouping frame kept

  abbrev heap : Heap
  heap = heap_with ordered places

  abbrev P : Program
  P = recorded frame kept ordered places

  is_set : IsValid frame → IsGrouped G → IsKnown G → IsScript (steps G heap) (length G.families) → IsStanding G heap → AllStand P (steps G heap) (length G.families) → AreThese P (steps G heap) (length G.families) → AreSooner P (steps G heap) (length G.families) → Ends (steps G heap) (length G.families) → AreOfFamilies (steps G heap) G.families → IsSet G heap P
  is_set good grouped known script standing stand all sooner ends families = record {
    grouped = grouped;
    known = known;
    sorts = sorts frame kept good;
    copied = are_copied frame kept;
    imports = imports_plain frame kept good;
    buffers = buffers_plain frame kept good;
    imported = imported_pieces frame kept good known ordered places;
    script = script;
    standing = standing;
    stand = stand;
    all = all;
    sooner = sooner;
    ends = ends;
    families = families.each;
    pieces = refl;
    readbacks = refl;
  }

  -- by the laws of the crates below
  pub set_by : IsValid frame → ((f : NumberedFrame) (k : List Bool) → IsGrouped (grouping f k)) → ((f : NumberedFrame) (k : List Bool) → IsValid f → IsKnown (grouping f k)) → ((f : NumberedFrame) (k : List Bool) (h : Heap) → IsValid f → IsScript (steps (grouping f k) h) (length f.queues)) → ((f : NumberedFrame) (k : List Bool) (h : Heap) → IsStanding (grouping f k) h) → OfCut AllStand → OfCut AreThese → OfScript AreSooner → ((list : List Step) (count : ℕ) → Ends list count) → ((list : List Step) (families : List Family) → AreOfFamilies list families) → IsSet G heap P
  set_by good grouped known in_turn standing stand all sooner ends families =
      let script = in_turn frame kept heap good in
      is_set good (grouped frame kept) (known frame kept good) script (standing frame kept heap)
      (stand P (steps G heap) G.families refl) (all P (steps G heap) G.families refl) (sooner P (steps G heap) G.families refl script)
      (ends (steps G heap) (length G.families)) (families (steps G heap) G.families)
