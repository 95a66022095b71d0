-- Bounds of a frame.
use Rattle.std.proofs.Common.{◌<◌, ℕ, List, Bool, length, ap, subst, ◌∙◌}
use Rattle.std.specs.List.{All}
use Rattle.cli.specs.declared.form.Form.{Form}
use Rattle.compile_bound.specs.Bounds.{Holds, IsBound, IsShown}
use Rattle.compile_bound.specs.declared.bound.Bound.{Bound as Certified}
use Rattle.frame.specs.Numbered.{numbered}
use Rattle.frame.specs.declared.frame.Frame.{Frame}
use Rattle.compile_groups.specs.Groups.{grouping}
use Rattle.compile_groups.specs.Placed.{placed, sizes}
use Rattle.compile_groups.specs.declared.grouping.Grouping.{Grouping}
use Rattle.compile_lifetimes.specs.Ordered.{IsOrdered}
use Rattle.compile_heap.specs.Placing.{IsLeast}
use Rattle.report.proofs.Places.{as_many}
use Rattle.report_json.specs.Told.{bound_told}
use Rattle.answer.specs.Answers.{BoundsFrame}
use Rattle.answer.specs.Internal.Stages.{AreBoundLines, AreGrouped, IsHeap}
use Rattle.answer.specs.Plain.{done}

-- the certificate names placed units
pub chosen_placed : (G : Grouping) (ordered : ℕ → ℕ → Bool) (bound : Certified) → IsShown (sizes G) ordered bound → All (λ k. k < length (placed G)) bound.chosen
chosen_placed G ordered bound shown = subst (λ n. All (λ k. k < n) bound.chosen) (as_many G) shown.within

-- the lines of a bound are what the command answers
pub bounded_frame : (form : Form) (frame : Frame) (G : Grouping) (ordered : ℕ → ℕ → Bool) (heap : ℕ) (text : List ℕ) → AreGrouped (numbered frame) G → IsOrdered G ordered → IsHeap G ordered heap → AreBoundLines form frame G ordered heap text → BoundsFrame form frame (done text)
bounded_frame form frame G ordered heap text grouped is_ordered H lines = record {
  kept = grouped.kept;
  are_kept = grouped.are_kept;
  ordered = ordered;
  is_ordered = subst (λ K. IsOrdered K ordered) grouped.groups is_ordered;
  places = H.places;
  least = subst (λ K. IsLeast (sizes K) ordered H.places) grouped.groups H.least;
  bound = lines.bound;
  is_bound = subst (λ K. IsBound (sizes K) ordered lines.bound) grouped.groups lines.is_bound;
  shown = subst (λ K. IsShown (sizes K) ordered lines.bound) grouped.groups lines.shown;
  holds = subst (λ K. Holds (sizes K) ordered lines.bound.least) grouped.groups lines.holds;
  whole = ap done (lines.lines ∙ ap (λ K. bound_told form frame K lines.bound.least heap lines.bound.chosen) grouped.groups ∙ ap (λ h. bound_told form frame (grouping (numbered frame) grouped.kept) lines.bound.least h lines.bound.chosen) H.is);
}
