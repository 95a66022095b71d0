-- What the stages of a command on a valid frame come to, one after another.
use Rattle.std.specs.Prelude.{◌≡◌, ℕ, List, Bool, get_or}
use Rattle.cli.specs.declared.form.Form.{Form}
use Rattle.base.specs.Applied.{bytes_at}
use Rattle.compile_bound.specs.Bounds.{Holds, IsBound, IsShown}
use Rattle.compile_bound.specs.declared.bound.Bound.{Bound as Certified}
use Rattle.frame.specs.Numbered.{NumberedFrame, numbered}
use Rattle.frame.specs.declared.frame.Frame.{Frame}
use Rattle.compile_groups.specs.Groups.{grouping}
use Rattle.compile_groups.specs.Placed.{sizes}
use Rattle.compile_groups.specs.declared.grouping.Grouping.{Grouping}
use Rattle.compile_lifetimes.specs.Ordered.{IsOrdered}
use Rattle.compile_heap.specs.Placing.{Places, IsLeast}
use Rattle.report_json.specs.Told.{bound_told, place_told}
use Rattle.frame_cull.specs.Culled.{AreKept}

-- the groups of the passes that are kept
pub record AreGrouped (frame : NumberedFrame) (G : Grouping) : Type 0 where
  pub kept : List Bool
  pub are_kept : AreKept frame kept
  pub groups : G ≡ grouping frame kept

-- the least places of the transient units, where units that are ordered may share memory
pub record ArePlaced (G : Grouping) (places : Places) : Type 0 where
  pub ordered : ℕ → ℕ → Bool
  pub is_ordered : IsOrdered G ordered
  pub least : IsLeast (sizes G) ordered places

-- what the units hold that are exported: export k
abbrev pub bytes_in : Frame → List (List ℕ) → ℕ → List ℕ
bytes_in frame units k = bytes_at units (get_or (numbered frame).exports k 0)

-- the lines of such places
pub record ArePlaceLines (form : Form) (frame : Frame) (G : Grouping) (text : List ℕ) : Type 0 where
  pub places : Places
  pub are_placed : ArePlaced G places
  pub lines : text ≡ place_told form frame G places

-- the heap of the least places
pub record IsHeap (G : Grouping) (ordered : ℕ → ℕ → Bool) (heap : ℕ) : Type 0 where
  pub places : Places
  pub least : IsLeast (sizes G) ordered places
  pub is : heap ≡ places.heap

-- the lines of a bound beside this heap
pub record AreBoundLines (form : Form) (frame : Frame) (G : Grouping) (ordered : ℕ → ℕ → Bool) (heap : ℕ) (text : List ℕ) : Type 0 where
  pub bound : Certified
  pub is_bound : IsBound (sizes G) ordered bound
  pub shown : IsShown (sizes G) ordered bound
  pub holds : Holds (sizes G) ordered bound.least
  pub lines : text ≡ bound_told form frame G bound.least heap bound.chosen
