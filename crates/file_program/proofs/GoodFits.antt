-- A program that breaks no rule fits the format, where its parts are what their types say.
use Rattle.std.proofs.Common.{◌≡◌, ℕ, zero, suc, Bool, true, false, arith, List, [], ◌∷◌, length, take, slice_get, Option, Some, None, IfSome, if◌then◌else◌, refl, eqb-true, eq-eqb}
use Rattle.std.specs.Prelude.{not}
use Rattle.std.specs.List.{All, AllByRecursion}
use Rattle.std.specs.Int.RustNames.{bit_and, bit_or}
use Rattle.std.proofs.lemmas.Bool.{and_parts}
use Rattle.std.proofs.lemmas.List.Elements.{All-head, All-tail}
use Rattle.std.specs.Int.Bits.{and_zero_r}
use Rattle.base.specs.Bounds.{is_between, sides_allowed, size_allowed}
use Rattle.base.specs.declared.shape.Family.{Family}
use Rattle.base.specs.declared.shape.Family.TheVariants.{Graphics, Compute, Transfer}
use Rattle.base.specs.declared.shape.Shape.{Shape}
use Rattle.base.specs.declared.shape.Shape.TheVariants as shapes
use Rattle.vk.specs.Accesses.{Access, accesses, access_names}
use Rattle.vk.specs.Families.{family_number, stages_of, on_family}
use Rattle.vk.specs.Sets.{meets, union_from}
use Rattle.vk.specs.Stages.{expand, host, stage_names}
use Rattle.vk.specs.Support.{supported, supported_part, supports}
use Rattle.vk.specs.declared.masks.Masks.{Masks}
use Rattle.file_json.proofs.Ranges.{in_range}
use Rattle.file_json.specs.Leaves.{greatest}
use Rattle.file_shapes.specs.Bodies.{FitsLayers}
use Rattle.file_program.proofs.Bits.{has_union, has_part}
use Rattle.file_program.specs.BarrierMasks.{FitsMasks}
use Rattle.file_program.specs.Batches.{FitsBatch, FitsQueue}
use Rattle.file_program.specs.Items.{FitsItem}
use Rattle.file_program.specs.Masks.{known, IsNamed}
use Rattle.file_program.specs.Pieces.{FitsPiece}
use Rattle.file_program.specs.Programs.{FitsProgram}
use Rattle.file_program.specs.Timelines.{FitsWait, FitsSignal}
use Rattle.file_program.specs.Typed.{IsTypedPiece, IsTypedWait, IsTypedItem, IsTypedBatch, IsTypedQueue, IsTypedProgram}
use Rattle.program.specs.Barriers.{both_supported, both_on_family, on_queue}
use Rattle.program.specs.Obeys.{BatchObeys, BatchAt, IsSmall, Obeys}
use Rattle.program.specs.Rules.{wait_obeys, item_obeys, signal_obeys, shapes_of}
use Rattle.program.specs.Timelines.{highest}
use Rattle.program.specs.declared.program.Batch.{Batch}
use Rattle.program.specs.declared.program.Item.{Item}
use Rattle.program.specs.declared.program.Item.TheVariants as items
use Rattle.program.specs.declared.program.Piece.{Piece}
use Rattle.program.specs.declared.program.Program.{Program}
use Rattle.program.specs.declared.program.Queue.{Queue}
use Rattle.program.specs.declared.program.Signal.{Signal}
use Rattle.program.specs.declared.program.WaitFor.{WaitFor}
use Rattle.program.specs.declared.rule.Rule.{Rule}
use Rattle.program.specs.declared.rule.Rule.TheVariants as rules

-- LISTS

-- from what holds of each entry by two tests
module _ {X : Type 0} (Types : X → Type 0) (Passes : X → Type 0) (Fits : X → Type 0) (fits : (x : X) → Types x → Passes x → Fits x) where
  all_fit : (xs : List X) → AllByRecursion Types xs → All Passes xs → AllByRecursion Fits xs
  all_fit [] typed passes = tt
  all_fit (x ∷ xs) typed passes = (fits x typed.0 (All-head Passes x xs passes), all_fit xs typed.1 (All-tail Passes x xs passes))

-- from what holds of the entry at each place
module _ {X : Type 0} (Types : X → Type 0) (Fits : X → Type 0) where
  each_fits : (xs : List X) → ((k : ℕ) (x : X) → slice_get xs k ≡ Some x → Types x → Fits x) → AllByRecursion Types xs → AllByRecursion Fits xs
  each_fits [] fits typed = tt
  each_fits (x ∷ xs) fits typed = (fits zero x refl typed.0, each_fits xs (λ k y is. fits (suc k) y is) typed.1)

-- MASKS

-- stages that a family has are named
family_named : (family : Family) → bit_and (known stage_names) (stages_of (family_number family)) ≡ stages_of (family_number family)
family_named Graphics = refl
family_named Compute = refl
family_named Transfer = refl

stages_named : (family : Family) (set : ℕ) → on_family set (family_number family) ≡ true → IsNamed stage_names set
stages_named family set on =
    eq-eqb (bit_and (known stage_names) set) set (has_part (known stage_names) (stages_of (family_number family)) set (family_named family) (eqb-true (bit_and (stages_of (family_number family)) set) set on))

-- accesses that stages support are named
module _ (all : ℕ) (stages : ℕ) where
  part_named : (b : Bool) (bit : ℕ) → bit_and all bit ≡ bit → bit_and all (if b then bit else 0) ≡ (if b then bit else 0)
  part_named true bit is = is
  part_named false bit is = and_zero_r all

  parts_named : (rows : List Access) (set : ℕ) → AllByRecursion (λ row. bit_and all row.bit ≡ row.bit) rows → bit_and all set ≡ set → bit_and all (union_from set (supported_part stages) rows) ≡ union_from set (supported_part stages) rows
  parts_named [] set each is = is
  parts_named (row ∷ rows) set each is =
      parts_named rows (bit_or set (supported_part stages row)) each.1 (has_union all set (supported_part stages row) is (part_named (meets stages row.stages) row.bit each.0))

supported_named : (stages : ℕ) → bit_and (known access_names) (supported stages) ≡ supported stages
supported_named stages = parts_named (known access_names) stages accesses 0 (refl, (refl, (refl, (refl, (refl, (refl, (refl, (refl, (refl, (refl, (refl, (refl, tt)))))))))))) (and_zero_r (known access_names))

accesses_named : (stages set : ℕ) → supports stages set ≡ true → IsNamed access_names set
accesses_named stages set on =
    eq-eqb (bit_and (known access_names) set) set (has_part (known access_names) (supported (expand stages)) set (supported_named (expand stages)) (eqb-true (bit_and (supported (expand stages)) set) set on))

masks_fit : (family : Family) (masks : Masks) → both_on_family family masks ≡ true → both_supported masks ≡ true → FitsMasks masks
masks_fit family masks on supported =
    let stages = and_parts (on_family masks.src_stages.0 (family_number family)) (on_family masks.dst_stages.0 (family_number family)) on in
    let accesses = and_parts (supports masks.src_stages.0 masks.src_accesses.0) (supports masks.dst_stages.0 masks.dst_accesses.0) supported in
    record {
      src_stages = stages_named family masks.src_stages.0 stages.0;
      src_accesses = accesses_named masks.src_stages.0 masks.src_accesses.0 accesses.0;
      dst_stages = stages_named family masks.dst_stages.0 stages.1;
      dst_accesses = accesses_named masks.dst_stages.0 masks.dst_accesses.0 accesses.1;
    }

queue_stages : (family : Family) (set : ℕ) → on_queue family set ≡ true → IsNamed stage_names set
queue_stages family set on = stages_named family set (and_parts (on_family set (family_number family)) (not (meets set host)) on).0

-- PIECES

shape_fits : (shape : Shape) → sides_allowed shape ≡ true → size_allowed shape ≡ true → FitsLayers shape 1
shape_fits (shapes.Buffer size) sides bytes = (in_range 1 16777216 greatest size bytes (omega arith), refl)
shape_fits (shapes.Image width height texel) sides bytes = let s = and_parts (is_between 1 4096 width) (is_between 1 4096 height) sides in (in_range 1 4096 greatest width s.0 (omega arith), in_range 1 4096 greatest height s.1 (omega arith), (omega arith, omega arith))

pieces_fit : (pieces : List Piece) → All (λ piece. sides_allowed piece.shape ≡ true) pieces → All (λ piece. size_allowed piece.shape ≡ true) pieces → AllByRecursion IsTypedPiece pieces → AllByRecursion FitsPiece pieces
pieces_fit [] sides sizes typed = tt
pieces_fit (piece ∷ pieces) sides sizes typed = (
  record {
    shape = shape_fits piece.shape (All-head (λ p. sides_allowed p.shape ≡ true) piece pieces sides) (All-head (λ p. size_allowed p.shape ≡ true) piece pieces sizes);
    memory = typed.0.0;
    offset = typed.0.1;
  },
  pieces_fit pieces (All-tail (λ p. sides_allowed p.shape ≡ true) piece pieces sides) (All-tail (λ p. size_allowed p.shape ≡ true) piece pieces sizes) typed.1,
)

-- QUEUES

module _ (program : Program) (obeys : (rule : Rule) → Obeys rule program) where
  item_fits : (family : Family) (item : Item) → item_obeys rules.OnQueue (shapes_of program) family item ≡ true → item_obeys rules.Supported (shapes_of program) family item ≡ true → IsTypedItem item → FitsItem item
  item_fits family (items.Command op) on supported typed = typed
  item_fits family (items.Global masks) on supported typed = masks_fit family masks on supported
  item_fits family (items.BufferBarrier piece masks) on supported typed = (typed, masks_fit family masks on supported)
  item_fits family (items.ImageBarrier piece layouts masks) on supported typed = (typed, masks_fit family masks on supported)
  item_fits family (items.Release t) on supported typed = record { piece = typed; masks = masks_fit family t.masks on supported }
  item_fits family (items.Acquire t) on supported typed = record { piece = typed; masks = masks_fit family t.masks on supported }

  items_fit : (family : Family) (its : List Item) → All (λ item. item_obeys rules.OnQueue (shapes_of program) family item ≡ true) its → All (λ item. item_obeys rules.Supported (shapes_of program) family item ≡ true) its → AllByRecursion IsTypedItem its → AllByRecursion FitsItem its
  items_fit family [] on supported typed = tt
  items_fit family (item ∷ its) on supported typed = (
    item_fits family item (All-head (λ i. item_obeys rules.OnQueue (shapes_of program) family i ≡ true) item its on) (All-head (λ i. item_obeys rules.Supported (shapes_of program) family i ≡ true) item its supported) typed.0,
    items_fit family its (All-tail (λ i. item_obeys rules.OnQueue (shapes_of program) family i ≡ true) item its on) (All-tail (λ i. item_obeys rules.Supported (shapes_of program) family i ≡ true) item its supported) typed.1,
  )

  signal_fits : (family : Family) (reached : ℕ) (signal : Option Signal) → IfSome signal (λ s. signal_obeys rules.OnQueue family reached s ≡ true) → IfSome signal FitsSignal
  signal_fits family reached None on = tt
  signal_fits family reached (Some signal) on = queue_stages family signal.stages.0 on

  wait_fits : (count : ℕ) (family : Family) (wait : WaitFor) → IsTypedWait wait → wait_obeys rules.OnQueue count family wait ≡ true → FitsWait wait
  wait_fits count family wait typed on = record { queue = typed; stages = queue_stages family wait.stages.0 on }

  batch_fits : (queue : Queue) (b : ℕ) (batch : Batch) → BatchObeys rules.OnQueue program queue b batch → BatchObeys rules.Supported program queue b batch → IsTypedBatch batch → FitsBatch batch
  batch_fits queue b batch on supported typed = record {
    waits = all_fit IsTypedWait (λ wait. wait_obeys rules.OnQueue (length program.queues) queue.family wait ≡ true) FitsWait (wait_fits (length program.queues) queue.family) batch.waits typed.waits on.waits;
    items = items_fit queue.family batch.items on.items supported.items typed.items;
    signal = signal_fits queue.family (highest (take b queue.batches)) batch.signal on.signal;
  }

  queue_fits : (q : ℕ) (queue : Queue) → slice_get program.queues q ≡ Some queue → IsTypedQueue queue → FitsQueue queue
  queue_fits q queue at typed =
      each_fits IsTypedBatch FitsBatch queue.batches (λ b batch is.
      let there : BatchAt program q b queue batch = record { queue_is = at; batch_is = is } in
      batch_fits queue b batch ((obeys rules.OnQueue).batches q b queue batch there) ((obeys rules.Supported).batches q b queue batch there)) typed

pub good_fits : (program : Program) → IsSmall program → ((rule : Rule) → Obeys rule program) → IsTypedProgram program → FitsProgram program
good_fits program small obeys typed = record {
  memories = typed.memories;
  pieces = pieces_fit program.pieces small.sides small.sizes typed.pieces;
  queues = each_fits IsTypedQueue FitsQueue program.queues (queue_fits program obeys) typed.queues;
  readbacks = typed.readbacks;
}
