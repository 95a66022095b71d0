-- The commands of a program in declared order leave in each read-back what its frame means.
use Rattle.std.proofs.Common.{◌≡◌, ◌≢◌, ℕ, ◌+◌, ◌<◌, ◌≤◌, Bool, true, List, [], ◌∷◌, ◌++◌, length, map, get_or, slice_get, Option, Some, None, option_map, refl, sym, ap, ◌∙◌, subst, arith}
use Rattle.std.specs.List.{All, cons_option}
use Rattle.std.specs.Option.{option_map_or}
use Rattle.std.proofs.lemmas.List.{length-map, map-append}
use Rattle.std.proofs.lemmas.List.Elements.{All-map}
use Rattle.std.proofs.lemmas.Option.{slice_get_within, get_or_from_slice_get}
use Rattle.std.proofs.lemmas.Simd.{map-map}
use Rattle.base.proofs.Operands.{destination_mapped}
use Rattle.base.specs.Applied.{bytes_at, after_op}
use Rattle.base.specs.Operands.{operands_of, destination_of, mapped}
use Rattle.base.specs.Shapes.{bytes_of, shape_at}
use Rattle.base.specs.Wholes.{is_whole}
use Rattle.base.specs.declared.op.Op.{Op}
use Rattle.base.specs.declared.shape.Shape.{Shape}
use Rattle.check_program.specs.Apart.{op_at, after_nodes, apart, first_bytes as piece_bytes}
use Rattle.law_meaning.proofs.Copies.{Ready, AreExports, copies_run}
use Rattle.law_meaning.proofs.Exports.{kept_sized, kept_suffice}
use Rattle.law_meaning.proofs.Kept.{ops_of, kept_run, kept_within, all_left, all_right}
use Rattle.law_meaning.proofs.Mirrors.{Renumbers, Mirrors, ops_mirror}
use Rattle.law_meaning.proofs.Operations.{at_destination}
use Rattle.law_meaning.proofs.Pieces.{shape_of_unit, shape_of_readback, renumbers, begins_room, begins_alike, readback_long}
use Rattle.law_meaning.proofs.Readbacks.{readback_at}
use Rattle.law_meaning.proofs.States.{ops_keep, ops_count}
use Rattle.law_meaning.proofs.Touched.{Has, operands_have}
use Rattle.law_meaning.specs.Declared.{ops_in, declared_ops}
use Rattle.law_meaning.specs.Kept.{kept_bytes}
use Rattle.law_meaning.specs.Laws.{ReadsMeaning}
use Rattle.frame.specs.Valid.{IsValid, shapes_in}
use Rattle.frame.specs.Numbered.{NumberedFrame}
use Rattle.compile_groups.specs.Commands.{all_shapes, commands, kept_commands, export_commands}
use Rattle.compile_groups.specs.Groups.{imports_in}
use Rattle.compile_groups.specs.Laws.{IsGrouped, IsKnown}
use Rattle.compile_groups.specs.declared.command.Command.{Command}
use Rattle.compile_groups.specs.declared.grouping.Grouping.{Grouping}
use Rattle.frame_meaning.proofs.Remaining.{after_ops-append}
use Rattle.frame_meaning.specs.Meaning.{first_bytes, after_ops, meaning}
use Rattle.kernel.specs.Anew.{IgnoresOld}
use Rattle.compile_record.specs.Pieces.{piece_of, pieces, memories, readbacks}
use Rattle.program.specs.Rules.{shapes_of}
use Rattle.program.specs.declared.program.Program.{Program}
use Rattle.frame_cull.specs.Culled.{AreKept}

-- nodes that are no commands do nothing
nodes_run : (program : Program) (order : List ℕ) (bytes : List (List ℕ)) → after_nodes program bytes order ≡ after_ops (shapes_of program) bytes (ops_in program order)
nodes_run program [] bytes = refl
nodes_run program (n ∷ order) bytes = go (op_at program n) (nodes_run program order)
  where
    go : (o : Option (Op ℕ)) → ((bytes : List (List ℕ)) → after_nodes program bytes order ≡ after_ops (shapes_of program) bytes (ops_in program order)) → after_nodes program (option_map_or (after_op (shapes_of program) bytes) o bytes) order ≡ after_ops (shapes_of program) bytes (cons_option o (ops_in program order))
    go None more = more bytes
    go (Some op) more = more (after_op (shapes_of program) bytes op)

-- a program is made of these parts
pub record IsMade (frame : NumberedFrame) (kept : List Bool) (G : Grouping) (offsets : List ℕ) (heap : ℕ) (program : Program) : Type 0 where
  pub shapes_are : G.shapes ≡ all_shapes frame
  pub imports_are : G.imports ≡ imports_in frame
  pub commands_are : G.commands ≡ commands frame kept
  pub grouped : IsGrouped G
  pub known : IsKnown G
  pub pieces_are : program.pieces ≡ pieces G offsets
  pub memories_are : program.memories ≡ memories frame G heap
  pub readbacks_are : program.readbacks ≡ readbacks G

module _ (ignores : (op : Op Shape) → is_whole op ≡ true → IgnoresOld op) (frame : NumberedFrame) (kept : List Bool) (good : IsValid frame) (are : AreKept frame kept) (G : Grouping) (offsets : List ℕ) (heap : ℕ) (program : Program) (made : IsMade frame kept G offsets heap program) where
  abbrev start : List (List ℕ)
  start = map (piece_bytes program.memories) program.pieces

  abbrev kept_ops : List (Op ℕ)
  kept_ops = ops_of (kept_commands frame.passes kept)

  R : Renumbers (piece_of G) G.shapes (shapes_of program) (Has G)
  R = renumbers frame good G made.shapes_are made.imports_are offsets heap program made.pieces_are made.memories_are

  -- THE KEPT PASSES

  abbrev HasUnit : ℕ → Type 0
  HasUnit r = (r < length frame.units) × Has G r

  of_units : (r : ℕ) → r < length frame.units → shape_at G.shapes r ≡ shape_at (shapes_in frame) r
  of_units = shape_of_unit frame good G made.shapes_are made.imports_are

  unit_numbers : Renumbers (piece_of G) (shapes_in frame) (shapes_of program) HasUnit
  unit_numbers = record {
    apart = λ r s one other e. R.apart r s one.1 other.1 e;
    shape = λ r has. R.shape r has.1 ∙ of_units r has.0;
  }

  have : All (λ command. All (Has G) (operands_of command.op)) (kept_commands frame.passes kept ++ export_commands frame 0 frame.exports)
  have = subst (All (λ command. All (Has G) (operands_of command.op))) made.commands_are (operands_have G made.grouped made.known)

  kept_have : All (λ op. All HasUnit (operands_of op)) (ops_of (kept_commands frame.passes kept))
  kept_have = All-map (λ (op : Op ℕ). All HasUnit (operands_of op)) (λ (c : Command). c.op) (kept_commands frame.passes kept)
      (λ i d lt j e less. (
        kept_within (length frame.queues) (length frame.units) frame.passes kept good.within i d lt j e less,
        all_left (λ (c : Command). All (Has G) (operands_of c.op)) (kept_commands frame.passes kept) (export_commands frame 0 frame.exports) have i d lt j e less,
      ))

  begun : Mirrors (piece_of G) HasUnit (map first_bytes frame.units) (map (piece_bytes program.memories) program.pieces)
  begun = record {
    there = λ r has. subst (λ n. r < n) (sym (length-map frame.units first_bytes)) has.0;
    room = λ r has. begins_room frame good G made.shapes_are made.imports_are offsets heap program made.pieces_are made.memories_are r has.1;
    same = λ r has. begins_alike frame good G made.shapes_are made.imports_are offsets heap program made.pieces_are made.memories_are r has.0 has.1;
  }

  abbrev passed : List (List ℕ)
  passed = after_ops (shapes_of program) (map (piece_bytes program.memories) program.pieces) (map (mapped (piece_of G)) (ops_of (kept_commands frame.passes kept)))

  mirrored : Mirrors (piece_of G) HasUnit (kept_bytes frame kept) passed
  mirrored = subst (λ b. Mirrors (piece_of G) HasUnit b passed) (kept_run (shapes_in frame) frame.passes kept (map first_bytes frame.units)) (ops_mirror (piece_of G) (shapes_in frame) (shapes_of program) HasUnit unit_numbers kept_ops kept_have (map first_bytes frame.units) start begun)

  -- THE COPIES OF EXPORTS

  untouched : (r : ℕ) → length frame.units ≤ r → Has G r → All (λ op. piece_of G r ≢ destination_of op) (map (mapped (piece_of G)) (ops_of (kept_commands frame.passes kept)))
  untouched r past has = All-map (λ (op : Op ℕ). piece_of G r ≢ destination_of op) (mapped (piece_of G)) kept_ops (λ i d lt e. no (get_or kept_ops i d) (at_destination HasUnit (get_or kept_ops i d) (kept_have i d lt)) (e ∙ destination_mapped (piece_of G) (get_or kept_ops i d)))
    where
      no : (op : Op ℕ) → HasUnit (destination_of op) → piece_of G r ≡ piece_of G (destination_of op) → ⊥
      no op to e = let same : r ≡ destination_of op = R.apart r (destination_of op) has to.1 e in let lt = to.0 in omega (arith, same, lt, past)

  ready : Ready frame (piece_of G) G.shapes (shapes_of program) (Has G) R of_units (kept_bytes frame kept) (kept_sized frame good ignores kept are) (length-map frame.units (λ u. u.shape)) 0 passed
  ready = record {
    room = λ r has. subst (λ n. piece_of G r < n) (sym (ops_count (shapes_of program) (map (mapped (piece_of G)) kept_ops) start)) (begins_room frame good G made.shapes_are made.imports_are offsets heap program made.pieces_are made.memories_are r has);
    same = λ r lt has. mirrored.same r (lt, has);
    old = λ j le has.
        ap length (ops_keep (shapes_of program) (map (mapped (piece_of G)) kept_ops) (piece_of G (length frame.units + j)) (untouched (length frame.units + j) (omega arith) has) start)
        ∙ readback_long frame good G made.shapes_are made.imports_are offsets heap program made.pieces_are made.memories_are (length frame.units + j) (omega arith) has;
  }

  exports : AreExports frame (piece_of G) G.shapes (shapes_of program) (Has G) R of_units (kept_bytes frame kept) (kept_sized frame good ignores kept are) (length-map frame.units (λ u. u.shape)) 0 frame.exports
  exports = record {
    within = good.exports_within;
    have = all_right (λ (c : Command). All (Has G) (operands_of c.op)) (kept_commands frame.passes kept) (export_commands frame 0 frame.exports) have;
    sizes = λ i lt. let same : 0 + i ≡ i = omega arith in ap (λ m. bytes_of (shape_at G.shapes (length frame.units + m))) same ∙ ap bytes_of (shape_of_readback frame good G made.shapes_are made.imports_are i lt);
  }

  -- ALL COMMANDS

  split : declared_ops G ≡ map (mapped (piece_of G)) (ops_of (kept_commands frame.passes kept)) ++ map (mapped (piece_of G)) (ops_of (export_commands frame 0 frame.exports))
  split =
      sym (map-map (mapped (piece_of G)) (λ (c : Command). c.op) G.commands)
      ∙ ap (λ l. map (mapped (piece_of G)) (ops_of l)) made.commands_are
      ∙ ap (map (mapped (piece_of G))) (map-append (λ (c : Command). c.op) (kept_commands frame.passes kept) (export_commands frame 0 frame.exports))
      ∙ map-append (mapped (piece_of G)) (ops_of (kept_commands frame.passes kept)) (ops_of (export_commands frame 0 frame.exports))

  pub reads_meaning : (order : List ℕ) → ops_in program order ≡ declared_ops G → ReadsMeaning frame program order
  reads_meaning order declared k unit e =
      let lt : k < length frame.exports = slice_get_within frame.exports k unit e in
      let here : get_or frame.exports k unit ≡ unit = get_or_from_slice_get frame.exports k unit unit e in
      let end : apart program order ≡ after_ops (shapes_of program) passed (map (mapped (piece_of G)) (ops_of (export_commands frame 0 frame.exports))) =
      nodes_run program order start
      ∙ ap (after_ops (shapes_of program) start) (declared ∙ split)
      ∙ after_ops-append (shapes_of program) (map (mapped (piece_of G)) kept_ops) (map (mapped (piece_of G)) (ops_of (export_commands frame 0 frame.exports))) start in
      let none : k ≡ 0 + k = omega arith in
      let stored : bytes_at (apart program order) (piece_of G (length frame.units + k)) ≡ bytes_at (kept_bytes frame kept) unit =
      ap (λ l. bytes_at l (piece_of G (length frame.units + k))) end
      ∙ ap (λ m. bytes_at (after_ops (shapes_of program) passed (map (mapped (piece_of G)) (ops_of (export_commands frame 0 frame.exports)))) (piece_of G (length frame.units + m))) none
      ∙ copies_run frame (piece_of G) G.shapes (shapes_of program) (Has G) R of_units (kept_bytes frame kept) (kept_sized frame good ignores kept are) (length-map frame.units (λ u. u.shape)) 0 frame.exports exports passed ready k unit e in
      ap (option_map (bytes_at (apart program order))) (ap (λ l. slice_get l k) made.readbacks_are ∙ readback_at frame G made.imports_are made.shapes_are k lt)
      ∙ ap (λ b. Some b) stored
      ∙ sym (subst (λ u. meaning frame u ≡ Some (bytes_at (kept_bytes frame kept) u)) here (kept_suffice frame good ignores kept are k unit lt))
