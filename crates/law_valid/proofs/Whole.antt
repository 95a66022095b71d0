-- A compiled program obeys each rule, and goes over no limit.
use Rattle.std.proofs.Common.{◌≡◌, ℕ, zero, suc, ◌<◌, ◌≤◌, Bool, true, List, [], ◌∷◌, length, take, map, slice_get, Some, None, IfSome, refl, sym, ap, ◌∙◌, subst, arith}
use Rattle.std.specs.List.{All, filter}
use Rattle.std.proofs.lemmas.List.{length-append, length-map}
use Rattle.std.proofs.lemmas.List.Elements.{All-map}
use Rattle.std.proofs.lemmas.Option.{slice_get_within, get_or_from_slice_get}
use Rattle.base.proofs.Lists.{entry_of}
use Rattle.base.specs.Bounds.{sides_allowed, size_allowed}
use Rattle.base.specs.Shapes.{shape_at}
use Rattle.base.specs.declared.shape.Family.TheVariants.{Graphics}
use Rattle.base.specs.declared.shape.Shape.{Shape}
use Rattle.base.specs.declared.shape.Shape.TheVariants.{Buffer}
use Rattle.frame.specs.Valid.{IsValid}
use Rattle.frame.specs.Numbered.{NumberedFrame}
use Rattle.compile_groups.specs.Groups.{family_of, grouping}
use Rattle.compile_groups.specs.Laws as groups
use Rattle.compile_groups.specs.Placed.{sizes}
use Rattle.compile_groups.specs.declared.grouping.Grouping.{Grouping}
use Rattle.compile_heap.specs.Placing.{Places, IsLeast}
use Rattle.compile_record.specs.Marks.{unmarked, steps_of}
use Rattle.compile_record.specs.Pieces.{resources, is_readback, has_piece, has_memory, piece_of, piece, imported, own_memory, memories, readbacks}
use Rattle.compile_record.specs.Recorded.{heap_with, program_of}
use Rattle.compile_record.specs.Script.{script}
use Rattle.compile_record.specs.declared.mark.Marked.{Marked}
use Rattle.compile_record.specs.declared.mark.Marked.TheVariants.{Does, Needs}
use Rattle.program.proofs.Few.{bytes_sum}
use Rattle.program.specs.Entries.{OfHost, entries_of}
use Rattle.program.specs.FirstFault.{first_fault}
use Rattle.program.specs.Obeys.{BatchObeys, BatchAt, Obeys, IsSmall}
use Rattle.program.specs.Rules.{item_obeys, wait_obeys, signal_obeys}
use Rattle.program.specs.Timelines.{highest}
use Rattle.program.specs.declared.program.Batch.{Batch}
use Rattle.program.specs.declared.program.Item as programs
use Rattle.program.specs.declared.program.Piece.{Piece}
use Rattle.program.specs.declared.program.Program.{Program}
use Rattle.program.specs.declared.program.Queue.{Queue}
use Rattle.program.specs.declared.rule.Rule.{Rule}
use Rattle.compile_timeline.specs.Batches.{cut}
use Rattle.compile_timeline.specs.Laws.{AreParts, AreOfFamilies, AreFor, AreRising}
use Rattle.compile_timeline.specs.Parts.{parts}
use Rattle.compile_timeline.specs.Places as spots
use Rattle.compile_timeline.specs.Steps.{IsScript}
use Rattle.compile_timeline.specs.declared.step.Step.{Step}
use Rattle.compile_timeline.specs.declared.step.Step.TheVariants as steps
use Rattle.compile_barriers.specs.Under.{Heap}
use Rattle.law_valid.proofs.Bytes.{total}
use Rattle.law_valid.proofs.Commands.{shapes_count}
use Rattle.law_valid.proofs.Faultless.{faultless}
use Rattle.law_valid.proofs.Limits.{all_rects, nodes_few}
use Rattle.law_valid.proofs.Numbers.{kept_numbers, kept_few, kept_late}
use Rattle.law_valid.proofs.Pieces.{piece_shapes, all_sizes, all_sides, imports_count, pieces_obey, readbacks_obey}
use Rattle.law_valid.proofs.Recorded.{script_right}
use Rattle.law_valid.proofs.Timelines.{IsCut, cut_queue, batch_right}
use Rattle.law_valid.proofs.Prologues.{MarkedObeys}

-- an item of the steps is one that is recorded
recorded_item : (marked all : List Marked) (i q : ℕ) (it : programs.Item) (P : ℕ → programs.Item → Type 0) → ((mark : Marked) → slice_get marked i ≡ Some mark → unmarked all mark ≡ steps.Item q it → P q it) → slice_get (map (unmarked all) marked) i ≡ Some (steps.Item q it) → P q it
recorded_item [] all i q it P h e = absurd cc
recorded_item (m ∷ marked) all zero q it P h e = h m refl cc
recorded_item (m ∷ marked) all (suc i) q it P h e = recorded_item marked all i q it P (λ mark. h mark) e

same_item : (G : Grouping) (shapes : List Shape) (all : List Marked) (q : ℕ) (it : programs.Item) (mark : Marked) → MarkedObeys G shapes mark → unmarked all mark ≡ steps.Item q it → (rule : Rule) → item_obeys rule shapes (family_of G.families q) it ≡ true
same_item G shapes all q it (Does p mark x) h e rule =
    let queue : p ≡ q = cc in
    let same : x ≡ it = cc in
    subst (λ n. item_obeys rule shapes (family_of G.families n) it ≡ true) queue (subst (λ y. item_obeys rule shapes (family_of G.families p) y ≡ true) same (h rule))
same_item G shapes all q it (Needs p mark) h e rule = absurd cc

module _ (frame : NumberedFrame) (kept : List Bool) (good : IsValid frame) (L : groups.IsGrouped (grouping frame kept)) (K : groups.IsKnown (grouping frame kept)) (ordered : ℕ → ℕ → Bool) (places : Places) (least : IsLeast (sizes (grouping frame kept)) ordered places) where
  abbrev G : Grouping
  G = grouping frame kept

  abbrev heap : Heap
  heap = heap_with ordered places

  abbrev marked : List Marked
  marked = script G heap

  abbrev list : List Step
  list = steps_of marked

  abbrev program : Program
  program = program_of frame G ordered places

  items_right : (i q : ℕ) (it : programs.Item) → slice_get list i ≡ Some (steps.Item q it) → (rule : Rule) → item_obeys rule (piece_shapes G places.offsets) (family_of G.families q) it ≡ true
  items_right i q it = recorded_item marked marked i q it (λ p x. (rule : Rule) → item_obeys rule (piece_shapes G places.offsets) (family_of G.families p) x ≡ true)
      (λ mark at is. same_item G (piece_shapes G places.offsets) marked q it mark (entry_of (MarkedObeys G (piece_shapes G places.offsets)) marked i mark (script_right frame kept good L K heap places.offsets) at) is)

  -- EACH RULE

  module _ (families : AreOfFamilies list G.families) (for : AreFor list (length G.families)) (rising : AreRising list (length G.families)) where
    batch_obeys : (rule : Rule) (q b : ℕ) (queue : Queue) (batch : Batch) → BatchAt program q b queue batch → BatchObeys rule program queue b batch
    batch_obeys rule q b queue batch there =
        let C : IsCut list (length G.families) q G.families q queue = cut_queue list G.families q queue there.queue_is in
        let low : q < length G.families = slice_get_within G.families q queue.family C.family in
        let family : family_of G.families q ≡ queue.family = get_or_from_slice_get G.families q queue.family Graphics C.family in
        let at : slice_get (cut (parts list (length G.families) q)) b ≡ Some batch = ap (λ l. slice_get l b) (sym C.batches) ∙ there.batch_is in
        let B = batch_right list (length G.families) q (piece_shapes G places.offsets) queue.family low for rising
        (λ i it is. λ r. subst (λ f. item_obeys r (piece_shapes G places.offsets) f it ≡ true) family (items_right i q it is r)) b batch at in
        record {
          waits = subst (λ n. All (λ wait. wait_obeys rule n queue.family wait ≡ true) batch.waits) (sym families.count) (B.waits rule);
          items = B.items rule;
          signal = subst (λ l. IfSome batch.signal (λ signal. signal_obeys rule queue.family (highest (take b l)) signal ≡ true)) (sym C.batches) (B.signal rule);
        }

    pub obeys : (rule : Rule) → Obeys rule program
    obeys rule = record {
      pieces = pieces_obey frame kept good ordered places least rule;
      batches = λ q b queue batch there. batch_obeys rule q b queue batch there;
      readbacks = readbacks_obey frame kept good places.offsets rule;
    }

    -- NO LIMIT

    resources_few : length G.shapes ≤ 288
    resources_few = let units = good.few_units in let exports = good.few_exports in omega (arith, shapes_count frame kept good, units, exports)

    readbacks_few : length (readbacks G) ≤ 32
    readbacks_few =
        let few = good.few_exports in
        let imports = imports_count frame kept good in
        let shapes = shapes_count frame kept good in
        let late = kept_late (length G.imports) (length G.shapes) (omega (arith, imports, shapes)) in
        omega (arith, few, shapes, imports, length-map (filter (is_readback G) (resources G)) (piece_of G), late)

    module _ (small : groups.IsSmall (grouping frame kept)) (S : IsScript list (length G.families)) (laid : AreParts list G.families) where
      entries_few : length (entries_of program) ≤ 20000
      entries_few = omega (
        arith,
        ap length (laid program refl),
        length-append (map spots.entry_of (spots.places list (length G.families))) (map OfHost (readbacks G)),
        length-map (spots.places list (length G.families)) spots.entry_of,
        length-map (readbacks G) OfHost,
        nodes_few frame kept good heap small S,
        readbacks_few,
      )

      is_small : IsSmall program
      is_small = record {
        some_queue = let some = good.some_queue in let count = families.count in omega (arith, some, count);
        queues = let few = good.few_queues in let count = families.count in omega (arith, few, count);
        memories = omega (arith, resources_few, length-map (filter (has_memory G) (resources G)) (λ r. own_memory G r (imported frame r)), kept_few (has_memory G) (length G.shapes));
        pieces = omega (arith, resources_few, length-map (filter (has_piece G) (resources G)) (piece G places.offsets), kept_few (has_piece G) (length G.shapes));
        entries = entries_few;
        readbacks = readbacks_few;
        sides = All-map (λ (p : Piece). sides_allowed p.shape ≡ true) (piece G places.offsets) (filter (has_piece G) (resources G)) (kept_numbers (λ r. sides_allowed (shape_at G.shapes r) ≡ true) (has_piece G) (length G.shapes) (λ r lt has. all_sides frame kept good r (Buffer 0) lt));
        sizes = All-map (λ (p : Piece). size_allowed p.shape ≡ true) (piece G places.offsets) (filter (has_piece G) (resources G)) (kept_numbers (λ r. size_allowed (shape_at G.shapes r) ≡ true) (has_piece G) (length G.shapes) (λ r lt has. all_sizes frame kept good r (Buffer 0) lt));
        bytes = let same = bytes_sum (memories frame G places.heap) in let few = total frame kept good ordered places least small.sizes in omega (arith, same, few);
      }

      pub whole : first_fault program ≡ None
      whole = faultless program is_small (all_rects frame kept good heap) obeys
