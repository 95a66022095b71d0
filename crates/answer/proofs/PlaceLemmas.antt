-- Places of a frame.
use Rattle.std.proofs.Common.{◌≡◌, ◌≤◌, ℕ, Bool, List, length, ap, subst, ◌∙◌, arith, is_some}
use Rattle.std.proofs.lemmas.List.{length-map}
use Rattle.cli.specs.declared.form.Form.{Form}
use Rattle.base.specs.Shapes.{shape_at, bytes_of}
use Rattle.frame.specs.Numbered.{NumberedFrame, numbered}
use Rattle.frame.specs.declared.frame.Frame.{Frame}
use Rattle.compile_groups.specs.Groups.{grouping}
use Rattle.compile_groups.specs.Placed.{placed, sizes}
use Rattle.compile_groups.specs.declared.grouping.Grouping.{Grouping}
use Rattle.compile_lifetimes.specs.Ordered.{IsOrdered}
use Rattle.compile_heap.specs.Placing.{Places, IsLeast}
use Rattle.report_json.specs.Told.{place_told}
use Rattle.answer.specs.Answers.{PlacesFrame}
use Rattle.answer.specs.Plain.{done}
use Rattle.answer.specs.Internal.Stages.{AreGrouped, ArePlaced, ArePlaceLines}

-- the placed units have an offset each
pub as_many : (G : Grouping) (places : Places) → ArePlaced G places → length places.offsets ≡ length (placed G)
as_many G places are = are.least.count ∙ length-map (placed G) (λ unit. bytes_of (shape_at G.shapes unit))

-- they are units of the frame
pub known_units : (frame : NumberedFrame) (G : Grouping) → AreGrouped frame G → length G.imports ≤ length frame.units
known_units frame G are =
    let same : length (grouping frame are.kept).imports ≡ length frame.units = length-map frame.units (λ u. is_some u.imported) in
    let here : length G.imports ≡ length (grouping frame are.kept).imports = ap (λ (H : Grouping). length H.imports) are.groups in
    omega (arith, here, same)

-- the lines of least places are what the command answers
pub placed_frame : (form : Form) (frame : Frame) (G : Grouping) (text : List ℕ) → AreGrouped (numbered frame) G → ArePlaceLines form frame G text → PlacesFrame form frame (done text)
placed_frame form frame G text grouped are = let placed = are.are_placed in record {
  kept = grouped.kept;
  are_kept = grouped.are_kept;
  ordered = placed.ordered;
  is_ordered = subst (λ H. IsOrdered H placed.ordered) grouped.groups placed.is_ordered;
  places = are.places;
  least = subst (λ H. IsLeast (sizes H) placed.ordered are.places) grouped.groups placed.least;
  whole = ap done (are.lines ∙ ap (λ H. place_told form frame H are.places) grouped.groups);
}
