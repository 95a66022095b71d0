-- From what was computed for a frame to what it is compiled to.
use Rattle.std.proofs.Common.{◌≡◌, ℕ, Bool, List, length, ap, ap₂, subst, ◌∙◌}
use Rattle.std.proofs.lemmas.List.{length-map}
use Rattle.base.specs.Shapes.{shape_at, bytes_of}
use Rattle.frame.specs.Numbered.{NumberedFrame}
use Rattle.compile_groups.specs.Groups.{grouping}
use Rattle.compile_groups.specs.Placed.{placed, sizes}
use Rattle.compile_groups.specs.declared.grouping.Grouping.{Grouping}
use Rattle.compile_lifetimes.specs.Ordered.{IsOrdered}
use Rattle.compile_heap.specs.Placing.{Places, IsLeast}
use Rattle.compile_record.specs.Internal.Folded.{all_steps, whole_program}
use Rattle.compile_record.specs.Internal.Laid.{IsLaid}
use Rattle.compile_record.specs.Marks.{steps_of}
use Rattle.compile_record.specs.Pieces.{memories, pieces, readbacks}
use Rattle.compile_record.specs.Recorded.{heap_with, program_of, IsCompiled}
use Rattle.compile_record.specs.Script.{script}
use Rattle.program.specs.declared.program.Memory.{Memory}
use Rattle.program.specs.declared.program.Piece.{Piece}
use Rattle.program.specs.declared.program.Program.{Program}
use Rattle.program.specs.declared.program.Queue.{Queue}
use Rattle.compile_timeline.specs.Batches.{queues}
use Rattle.compile_timeline.specs.declared.step.Step.{Step}
use Rattle.compile_barriers.specs.Under.{Heap}

-- a size for each placed unit
pub as_many : (G : Grouping) (list : List ℕ) → list ≡ sizes G → length list ≡ length (placed G)
as_many G list is = ap length is ∙ length-map (placed G) (λ unit. bytes_of (shape_at G.shapes unit))

-- and an offset
pub offsets_count : (G : Grouping) (list : List ℕ) (ordered : ℕ → ℕ → Bool) (places : Places) → list ≡ sizes G → IsLeast list ordered places → length places.offsets ≡ length (placed G)
offsets_count G list ordered places is least = least.count ∙ as_many G list is

pub steps_are : (G : Grouping) (heap : Heap) (steps : List Step) → steps ≡ steps_of (script G heap) → steps ≡ all_steps G heap
unfolding all_steps
steps_are G heap steps e = e

pub program_is : (frame : NumberedFrame) (G : Grouping) (ordered : ℕ → ℕ → Bool) (places : Places) (some : List Memory) (all : List Piece) (list : List Queue) (read : List ℕ) → some ≡ memories frame G places.heap → all ≡ pieces G places.offsets → list ≡ queues (all_steps G (heap_with ordered places)) G.families → read ≡ readbacks G → (let made : Program = record { memories = some; pieces = all; queues = list; readbacks = read } in made) ≡ whole_program frame G ordered places
unfolding all_steps whole_program
program_is frame G ordered places some all list read e f g h =
    ap₂ (λ (a : List Memory) (b : List Piece). let made : Program = record { memories = a; pieces = b; queues = list; readbacks = read } in made) e f
    ∙ ap₂ (λ (a : List Queue) (b : List ℕ). let made : Program = record { memories = memories frame G places.heap; pieces = pieces G places.offsets; queues = a; readbacks = b } in made) g h

pub laid : (frame : NumberedFrame) (G : Grouping) (ordered : ℕ → ℕ → Bool) (list : List ℕ) (places : Places) (program : Program) → IsOrdered G ordered → list ≡ sizes G → IsLeast list ordered places → program ≡ whole_program frame G ordered places → IsLaid frame G places program
laid frame G ordered list places program orders told least made = record {
  ordered = ordered;
  is_ordered = orders;
  least = subst (λ sizes. IsLeast sizes ordered places) told least;
  recorded = made;
}

pub of_grouping : (frame : NumberedFrame) (kept : List Bool) (G : Grouping) (places : Places) (program : Program) → G ≡ grouping frame kept → IsLaid frame G places program → IsCompiled frame (record { program = program; kept = kept; placement = places })
unfolding whole_program
of_grouping frame kept G places program is made = record {
  ordered = made.ordered;
  is_ordered = subst (λ H. IsOrdered H made.ordered) is made.is_ordered;
  least = subst (λ H. IsLeast (sizes H) made.ordered places) is made.least;
  recorded = made.recorded ∙ ap (λ H. program_of frame H made.ordered places) is;
}
