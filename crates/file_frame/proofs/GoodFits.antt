-- A frame that breaks no rule fits the format, where its parts are what their types say.
use Rattle.std.proofs.Common.{◌≡◌, ℕ, zero, suc, ◌+◌, ◌<◌, ◌≤◌, true, false, arith, List, [], ◌∷◌, length, get_or, slice_get, nat_lt, not, Option, Some, None, refl, if◌then◌else◌}
use Rattle.std.specs.Prelude.{◌&&◌, ◌==◌, IfSome}
use Rattle.std.specs.List.{All, AllByRecursion, position}
use Rattle.std.specs.Option.{option_or, option_map, option_map_or, option_and_then}
use Rattle.std.specs.Str.{bytes_eq}
use Rattle.std.proofs.lemmas.Bool.{false≢true, and_parts, ltb-true, eqb-true}
use Rattle.base.specs.Bounds.{is_between, sides_allowed, size_allowed}
use Rattle.base.specs.Names.{IsName}
use Rattle.base.specs.Operands.{operands_of}
use Rattle.base.specs.Shapes.{is_buffer}
use Rattle.base.specs.Walks.{first_in}
use Rattle.base.specs.declared.op.Op.{Op}
use Rattle.base.specs.declared.op.Op.TheVariants.{FillBuffer, ClearImage, CopyBuffer, CopyImage, BufferToImage, ImageToBuffer, Ramp, Map, Combine, Select, Convert, Box3, Halve, Histogram, Draw}
use Rattle.base.specs.declared.shape.Shape.{Shape}
use Rattle.base.specs.declared.shape.Shape.TheVariants.{Buffer, Image}
use Rattle.file_json.proofs.Ranges.{in_range}
use Rattle.file_json.specs.Leaves.{greatest}
use Rattle.base.proofs.Absence.{all_pass, or_first, or_second, map_none, first_none, has_it}
use Rattle.frame.specs.Valid.{IsDeclared}
use Rattle.frame.specs.Limits.{layers_allowed}
use Rattle.frame.specs.Members.{member_at}
use Rattle.frame.specs.Units.{Numbering, numbering, stretches, stretch_of}
use Rattle.frame.specs.Unknowns.{has_queue, has_layer, picks_one, is_known, is_known_unit, unknown_at, unknown_operand, unknown_in}
use Rattle.frame.specs.Uses.{import_fits}
use Rattle.frame.specs.declared.frame.Frame.{Frame}
use Rattle.frame.specs.declared.frame.Pass.{Pass}
use Rattle.frame.specs.declared.frame.Resource.{Resource}
use Rattle.frame.specs.declared.frame.Spot.{Spot}
use Rattle.frame.specs.declared.frame.Write.{Write}
use Rattle.frame.specs.declared.numbered.Stretch.{Stretch}
use Rattle.frame.specs.declared.location.Location.{Location}
use Rattle.frame.specs.declared.location.Location.TheVariants as at
use Rattle.file_frame.specs.Frames.{FitsFrame}
use Rattle.file_frame.specs.Passes.{FitsPass}
use Rattle.file_frame.specs.Resources.{FitsImport, FitsResource}
use Rattle.file_frame.specs.Spots.{FitsSpot}
use Rattle.file_frame.specs.Typed.{IsTypedSpot, IsTypedResource, IsTypedWrite, IsTypedOp, IsTypedPass, IsTypedFrame}
use Rattle.file_frame.specs.Writes.{FitsWrite}
use Rattle.file_ops.specs.OpFits.{FitsOp}
use Rattle.file_shapes.specs.Bodies.{FitsLayers}
use Rattle.hex.specs.Hex.{IsBytes}

-- RESOURCES

layers_fit : (shape : Shape) (layers : ℕ) → (if is_buffer shape then layers == 1 else is_between 1 8 layers) ≡ true → sides_allowed shape ≡ true → size_allowed shape ≡ true → FitsLayers shape layers
layers_fit (Buffer size) layers l sides bytes = (in_range 1 16777216 greatest size bytes (omega arith), eqb-true layers 1 l)
layers_fit (Image width height texel) layers l sides bytes = let s = and_parts (is_between 1 4096 width) (is_between 1 4096 height) sides in (in_range 1 4096 greatest width s.0 (omega arith), in_range 1 4096 greatest height s.1 (omega arith), in_range 1 8 8 layers l (omega arith))

few_layers : (shape : Shape) (layers : ℕ) → FitsLayers shape layers → layers ≤ 8
few_layers (Buffer size) layers fits = let one = fits.1 in omega (arith, one)
few_layers (Image width height texel) layers fits = let few = fits.2 in few.1

import_fit : (shape : Shape) (import : Option (List ℕ)) → import_fits shape import ≡ true → IfSome import IsBytes → FitsImport shape import
import_fit (Buffer size) import ok typed = typed
import_fit (Image width height texel) None ok typed = refl
import_fit (Image width height texel) (Some bytes) ok typed = absurd (false≢true ok)

resources_fit : (rs : List Resource) → All (λ r. layers_allowed r ≡ true) rs → All (λ r. sides_allowed r.shape ≡ true) rs → All (λ r. size_allowed r.shape ≡ true) rs → All (λ r. import_fits r.shape r.import ≡ true) rs → AllByRecursion IsTypedResource rs → AllByRecursion FitsResource rs
resources_fit [] layers sides bytes imports typed = tt
resources_fit (r ∷ rs) layers sides bytes imports typed =
    let first : 0 < length (r ∷ rs) = omega arith in (
      record {
        name = typed.0.name;
        layers = layers_fit r.shape r.layers (layers zero r first) (sides zero r first) (bytes zero r first);
        import = import_fit r.shape r.import (imports zero r first) typed.0.import;
      },
      resources_fit rs (λ k d lt. layers (suc k) d (omega arith)) (λ k d lt. sides (suc k) d (omega arith)) (λ k d lt. bytes (suc k) d (omega arith)) (λ k d lt. imports (suc k) d (omega arith)) typed.1,
    )

-- SPOTS

abbrev Few : Stretch → Type 0
Few s = s.layers ≤ 8

abbrev LayerFits : Spot → Type 0
LayerFits spot = IfSome spot.layer (λ layer. layer ≤ 7)

few_stretches : (n : ℕ) (rs : List Resource) → AllByRecursion FitsResource rs → AllByRecursion Few (stretches n rs)
few_stretches n [] fits = tt
few_stretches n (r ∷ rs) fits = (few_layers r.shape r.layers fits.0.layers, few_stretches (n + r.layers) rs fits.1)

got : (ss : List Stretch) (i : ℕ) → AllByRecursion Few ss → IfSome (slice_get ss i) Few
got [] zero few = tt
got [] (suc i) few = tt
got (s ∷ ss) zero few = few.0
got (s ∷ ss) (suc i) few = got ss i few.1

found : (ss : List Stretch) (o : Option ℕ) → AllByRecursion Few ss → IfSome (option_and_then (slice_get ss) o) Few
found ss None few = tt
found ss (Some i) few = got ss i few

small : (layer : ℕ) (s : Stretch) → Few s → (s.is_image && nat_lt layer s.layers) ≡ true → layer ≤ 7
small layer s few known = let lt : layer < s.layers = ltb-true layer s.layers (and_parts s.is_image (nat_lt layer s.layers) known).1 in omega (arith, few)

small_entry : (layer : Option ℕ) (o : Option Stretch) → IfSome o Few → option_map_or (has_layer layer) o false ≡ true → IfSome layer (λ l. l ≤ 7)
small_entry None o few known = tt
small_entry (Some layer) None few known = absurd (false≢true known)
small_entry (Some layer) (Some s) few known = small layer s few known

small_operand : (layer : Option ℕ) (o : Option Stretch) → IfSome o Few → option_map_or (picks_one layer) o false ≡ true → IfSome layer (λ l. l ≤ 7)
small_operand None o few known = tt
small_operand (Some layer) None few known = absurd (false≢true known)
small_operand (Some layer) (Some s) few known = small layer s few known

spot_fits : (spot : Spot) → IsName spot.name → LayerFits spot → FitsSpot spot
spot_fits spot name layer = record { name = name; layer = layer }

op_fits : (op : Op Spot) → IsTypedOp op → All LayerFits (operands_of op) → FitsOp FitsSpot op
op_fits (FillBuffer dst offset size word) t k = (spot_fits dst t.0 (k 0 dst (omega arith)), t.1, t.2, t.3)
op_fits (ClearImage dst value) t k = (spot_fits dst t.0 (k 0 dst (omega arith)), t.1)
op_fits (CopyBuffer src dst src_offset dst_offset size) t k = (spot_fits src t.0 (k 0 src (omega arith)), spot_fits dst t.1 (k 1 dst (omega arith)), t.2, t.3, t.4)
op_fits (CopyImage src dst src_x src_y dst_x dst_y width height) t k = (spot_fits src t.0 (k 0 src (omega arith)), spot_fits dst t.1 (k 1 dst (omega arith)), t.2, t.3, t.4, t.5, t.6, t.7)
op_fits (BufferToImage src dst offset) t k = (spot_fits src t.0 (k 0 src (omega arith)), spot_fits dst t.1 (k 1 dst (omega arith)), t.2)
op_fits (ImageToBuffer src dst offset) t k = (spot_fits src t.0 (k 0 src (omega arith)), spot_fits dst t.1 (k 1 dst (omega arith)), t.2)
op_fits (Ramp dst base dx dy) t k = (spot_fits dst t.0 (k 0 dst (omega arith)), t.1, t.2, t.3)
op_fits (Map src dst fun value) t k = (spot_fits src t.0 (k 0 src (omega arith)), spot_fits dst t.1 (k 1 dst (omega arith)), t.2)
op_fits (Combine a b dst fun) t k = (spot_fits a t.0 (k 0 a (omega arith)), spot_fits b t.1 (k 1 b (omega arith)), spot_fits dst t.2 (k 2 dst (omega arith)))
op_fits (Select mask a b dst) t k = (spot_fits mask t.0 (k 0 mask (omega arith)), spot_fits a t.1 (k 1 a (omega arith)), spot_fits b t.2 (k 2 b (omega arith)), spot_fits dst t.3 (k 3 dst (omega arith)))
op_fits (Convert src dst) t k = (spot_fits src t.0 (k 0 src (omega arith)), spot_fits dst t.1 (k 1 dst (omega arith)))
op_fits (Box3 src dst) t k = (spot_fits src t.0 (k 0 src (omega arith)), spot_fits dst t.1 (k 1 dst (omega arith)))
op_fits (Halve src dst) t k = (spot_fits src t.0 (k 0 src (omega arith)), spot_fits dst t.1 (k 1 dst (omega arith)))
op_fits (Histogram src dst) t k = (spot_fits src t.0 (k 0 src (omega arith)), spot_fits dst t.1 (k 1 dst (omega arith)))
op_fits (Draw dst clear rects) t k = (spot_fits dst t.0 (k 0 dst (omega arith)), t.1, t.2)

-- PASSES

-- over names whose resources have 8 layers at most
module _ (n : Numbering) (few : (name : List ℕ) → IfSome (stretch_of n name) Few) where
  spots_fit : (spots : List Spot) → All (λ spot. is_known n spot ≡ true) spots → AllByRecursion IsTypedSpot spots → AllByRecursion FitsSpot spots
  spots_fit [] known typed = tt
  spots_fit (spot ∷ spots) known typed = (
    spot_fits spot typed.0 (small_entry spot.layer (stretch_of n spot.name) (few spot.name) (known zero spot (omega arith))),
    spots_fit spots (λ k d lt. known (suc k) d (omega arith)) typed.1,
  )

  writes_fit : (writes : List (Write Spot)) → All (λ w. is_known n w.what ≡ true) writes → AllByRecursion IsTypedWrite writes → AllByRecursion FitsWrite writes
  writes_fit [] known typed = tt
  writes_fit (w ∷ ws) known typed = (
    spot_fits w.what typed.0 (small_entry w.what.layer (stretch_of n w.what.name) (few w.what.name) (known zero w (omega arith))),
    writes_fit ws (λ k d lt. known (suc k) d (omega arith)) typed.1,
  )

  operands_small : (p k : ℕ) (op : Op Spot) → unknown_operand n p k op ≡ None → All LayerFits (operands_of op)
  operands_small p k op none = λ j d lt.
      let spot = get_or (operands_of op) j d in
      small_operand spot.layer (stretch_of n spot.name) (few spot.name) (has_it (is_known_unit n spot) (at.Operand p k (member_at op (0 + j))) (first_none (unknown_at n p k op) 0 (operands_of op) none j d lt))

  ops_fit : (p k : ℕ) (ops : List (Op Spot)) → first_in (unknown_operand n p) k ops ≡ None → AllByRecursion IsTypedOp ops → AllByRecursion (FitsOp FitsSpot) ops
  ops_fit p k [] none typed = tt
  ops_fit p k (op ∷ ops) none typed = (
    op_fits op typed.0 (operands_small p k op (or_first (unknown_operand n p k op) (first_in (unknown_operand n p) (suc k) ops) none)),
    ops_fit p (suc k) ops (or_second (unknown_operand n p k op) (first_in (unknown_operand n p) (suc k) ops) none) typed.1,
  )

  pass_fits : (frame : Frame) (p : ℕ) (pass : Pass) → unknown_in frame n p pass ≡ None → IsTypedPass pass → FitsPass pass
  pass_fits frame p pass none typed =
      let queue : Option Location = if has_queue frame pass.queue then None else Some (at.PassQueue p) in
      let reads : Option Location = option_map (λ k. at.Read p k) (position (λ spot. not (is_known n spot)) pass.reads) in
      let writes : Option Location = option_map (λ k. at.Write p k) (position (λ w. not (is_known n w.what)) pass.writes) in
      let ops : Option Location = first_in (unknown_operand n p) 0 pass.ops in
      let none-1 = or_second queue (option_or reads (option_or writes ops)) none in
      let none-2 = or_second reads (option_or writes ops) none-1 in
      record {
        name = typed.name;
        queue = typed.queue;
        reads = spots_fit pass.reads (all_pass (is_known n) pass.reads (map_none (λ k. at.Read p k) (position (λ spot. not (is_known n spot)) pass.reads) (or_first reads (option_or writes ops) none-1))) typed.reads;
        writes = writes_fit pass.writes (all_pass (λ w. is_known n w.what) pass.writes (map_none (λ k. at.Write p k) (position (λ w. not (is_known n w.what)) pass.writes) (or_first writes ops none-2))) typed.writes;
        ops = ops_fit p 0 pass.ops (or_second writes ops none-2) typed.ops;
      }

  passes_fit : (frame : Frame) (p : ℕ) (passes : List Pass) → first_in (unknown_in frame n) p passes ≡ None → AllByRecursion IsTypedPass passes → AllByRecursion FitsPass passes
  passes_fit frame p [] none typed = tt
  passes_fit frame p (pass ∷ passes) none typed = (
    pass_fits frame p pass (or_first (unknown_in frame n p pass) (first_in (unknown_in frame n) (suc p) passes) none) typed.0,
    passes_fit frame (suc p) passes (or_second (unknown_in frame n p pass) (first_in (unknown_in frame n) (suc p) passes) none) typed.1,
  )

-- FRAMES

pub good_fits : (frame : Frame) → IsDeclared frame → IsTypedFrame frame → FitsFrame frame
good_fits frame declared typed =
    let n = numbering frame in
    let resources : AllByRecursion FitsResource frame.resources = resources_fit frame.resources declared.layers declared.sides declared.sizes declared.imports typed.resources in
    let few : (name : List ℕ) → IfSome (stretch_of n name) Few = λ name. found n.stretches (position (bytes_eq name) n.names) (few_stretches 0 frame.resources resources) in
    let passes : Option Location = first_in (unknown_in frame n) 0 frame.passes in
    let exports : Option Location = option_map (λ i. at.Export i) (position (λ spot. not (is_known n spot)) frame.exports) in
    record {
      queues = typed.queues;
      resources = resources;
      passes = passes_fit n few frame 0 frame.passes (or_first passes exports declared.known) typed.passes;
      exports = spots_fit n few frame.exports (all_pass (is_known n) frame.exports (map_none (λ i. at.Export i) (position (λ spot. not (is_known n spot)) frame.exports) (or_second passes exports declared.known))) typed.exports;
    }
