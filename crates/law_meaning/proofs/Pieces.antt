-- The pieces of a frame's units, and what they hold before the first node.
use Rattle.std.proofs.Common.{◌≡◌, ℕ, suc, ◌+◌, ◌<◌, ◌≤◌, ◌&&◌, ◌||◌, ◌==◌, Bool, true, false, List, [], length, map, get_or, replicate, slice_get, slice_index_or, Option, Some, None, is_some, if◌then◌else◌, option_map, option_and_then, unwrap_or, refl, sym, ap, ap₂, ◌∙◌, subst, eqb-true, arith}
use Rattle.std.specs.List.{filter, count_by, range_with_len}
use Rattle.std.specs.Option.{option_map_or}
use Rattle.std.proofs.lemmas.Bool.{and_parts, lt-leb}
use Rattle.std.proofs.lemmas.List.{length-map, length-replicate, get_or-map, get_or_append_left, get_or-append-add}
use Rattle.std.proofs.lemmas.Option.{same_Some, slice_get-map, slice_get-get_or, slice_get_within, slice_get_past, get_or_from_slice_get}
use Rattle.base.specs.Applied.{bytes_at}
use Rattle.base.specs.Shapes.{bytes_of, shape_at, is_buffer}
use Rattle.base.specs.declared.shape.Shape.TheVariants.{Buffer}
use Rattle.check_program.specs.Apart.{zeros, begins_in, first_bytes as piece_bytes}
use Rattle.law_meaning.proofs.Copying.{whole_range}
use Rattle.law_meaning.proofs.Exports.{no_unit, unit_shape, unit_bytes}
use Rattle.law_meaning.proofs.Mirrors.{Renumbers}
use Rattle.law_meaning.proofs.Numbers.{stands_at}
use Rattle.law_meaning.proofs.Readbacks.{units_count, is_past}
use Rattle.law_meaning.proofs.Touched.{Has}
use Rattle.frame.specs.Valid.{IsValid, shapes_in}
use Rattle.frame.specs.Numbered.{NumberedFrame}
use Rattle.frame.specs.Units.{Unit as FrameUnit}
use Rattle.frame.specs.Uses.{import_fits}
use Rattle.compile_groups.specs.Commands.{all_shapes, readback_shape}
use Rattle.compile_groups.specs.Groups.{imports_in}
use Rattle.compile_groups.specs.Needs.{is_touched}
use Rattle.compile_groups.specs.Placed.{is_import}
use Rattle.compile_groups.specs.declared.grouping.Grouping.{Grouping}
use Rattle.frame_meaning.specs.Meaning.{first_bytes}
use Rattle.compile_heap.specs.Placing.{number_at}
use Rattle.compile_record.specs.Pieces.{resources, is_readback, has_piece, has_memory, piece_of, memory_of, offset_of, piece, pieces, imported, own_memory, memories}
use Rattle.program.specs.Rules.{shapes_of}
use Rattle.program.specs.declared.program.Memory.{Memory}
use Rattle.program.specs.declared.program.Memory.TheVariants.{Plain, Import}
use Rattle.program.specs.declared.program.Piece.{Piece}
use Rattle.program.specs.declared.program.Program.{Program}
use Rattle.compile_barriers.specs.Under.{place_of}

module _ (frame : NumberedFrame) (good : IsValid frame) (G : Grouping) (shapes_are : G.shapes ≡ all_shapes frame) (imports_are : G.imports ≡ imports_in frame) where
  shapes_count : length (shapes_in frame) ≡ length frame.units
  shapes_count = length-map frame.units (λ u. u.shape)

  pub shape_of_unit : (r : ℕ) → r < length frame.units → shape_at G.shapes r ≡ shape_at (shapes_in frame) r
  shape_of_unit r lt = ap (λ l. shape_at l r) shapes_are ∙ get_or_append_left (shapes_in frame) (map (readback_shape frame) frame.exports) (Buffer 0) r (subst (λ n. r < n) (sym shapes_count) lt)

  pub shape_of_readback : (k : ℕ) → k < length frame.exports → shape_at G.shapes (length frame.units + k) ≡ readback_shape frame (get_or frame.exports k 0)
  shape_of_readback k lt =
      ap (λ l. shape_at l (length frame.units + k)) shapes_are
      ∙ ap (λ n. shape_at (all_shapes frame) (n + k)) (sym shapes_count)
      ∙ get_or-append-add (shapes_in frame) (map (readback_shape frame) frame.exports) k (Buffer 0)
      ∙ get_or-map (readback_shape frame) frame.exports k 0 (Buffer 0) lt

  is_unit : (r : ℕ) → r < length frame.units → is_readback G r ≡ false
  is_unit r lt = lt-leb (length G.imports) r (omega (arith, lt, units_count frame G imports_are))

  -- THE PIECES

  module _ (offsets : List ℕ) (heap : ℕ) where
    piece_stands : (r : ℕ) → Has G r → slice_get (pieces G offsets) (piece_of G r) ≡ Some (piece G offsets r)
    piece_stands r has = slice_get-map (piece G offsets) (filter (has_piece G) (resources G)) (piece_of G r) ∙ ap (option_map (piece G offsets)) (stands_at (has_piece G) (length G.shapes) r has.0 has.1)

    apart : (r s : ℕ) → Has G r → Has G s → piece_of G r ≡ piece_of G s → r ≡ s
    apart r s one other e = same_Some r s (sym (stands_at (has_piece G) (length G.shapes) r one.0 one.1) ∙ ap (slice_get (filter (has_piece G) (resources G))) e ∙ stands_at (has_piece G) (length G.shapes) s other.0 other.1)

    memory_stands : (r : ℕ) → r < length G.shapes → has_memory G r ≡ true → slice_get (memories frame G heap) (memory_of G r) ≡ Some (own_memory G r (imported frame r))
    memory_stands r lt own =
        let number : memory_of G r ≡ suc (count_by (has_memory G) (range_with_len 0 r)) = ap (λ b. if b then 1 + count_by (has_memory G) (range_with_len 0 r) else 0) own ∙ omega arith in
        ap (slice_get (memories frame G heap)) number
        ∙ slice_get-map (λ x. own_memory G x (imported frame x)) (filter (has_memory G) (resources G)) (count_by (has_memory G) (range_with_len 0 r))
        ∙ ap (option_map (λ x. own_memory G x (imported frame x))) (stands_at (has_memory G) (length G.shapes) r lt own)

    -- a plain memory begins with zeros
    from_plain : (p : Piece) (size : ℕ) (o : Option Memory) → o ≡ Some (Plain size) → (if is_buffer p.shape then option_map_or (begins_in p) o (zeros p) else zeros p) ≡ zeros p
    from_plain p size o e = ap (λ x. if is_buffer p.shape then option_map_or (begins_in p) x (zeros p) else zeros p) e ∙ either (is_buffer p.shape)
      where
        either : (b : Bool) → (if b then zeros p else zeros p) ≡ zeros p
        either true = refl
        either false = refl

    -- what a read-back begins with
    pub readback_first : (r : ℕ) → length frame.units ≤ r → Has G r → piece_bytes (memories frame G heap) (piece G offsets r) ≡ replicate (bytes_of (shape_at G.shapes r)) 0
    readback_first r past has =
        let own : has_memory G r ≡ true = ap (λ b. b || (is_touched G r && is_import G r)) (is_past frame G imports_are r past) in
        let none : imported frame r ≡ None = ap (option_and_then (λ unit. unit.imported)) (slice_get_past frame.units r past) in
        from_plain (piece G offsets r) (bytes_of (shape_at G.shapes r)) (slice_get (memories frame G heap) (memory_of G r)) (memory_stands r has.0 own ∙ ap (λ o. Some (own_memory G r o)) none)

    module _ (r : ℕ) (lt : r < length frame.units) (has : Has G r) where
      abbrev unit : FrameUnit
      unit = get_or frame.units r no_unit

      its_shape : shape_at G.shapes r ≡ unit.shape
      its_shape = shape_of_unit r lt ∙ unit_shape frame good r lt

      its_import : imported frame r ≡ unit.imported
      its_import = ap (option_and_then (λ x. x.imported)) (slice_get-get_or frame.units r no_unit lt)

      import_told : is_import G r ≡ is_some unit.imported
      import_told = ap (λ l. slice_index_or l r false) imports_are ∙ get_or-map (λ u. is_some u.imported) frame.units r no_unit false lt

      is_used : is_touched G r ≡ true
      is_used = sym (ap (λ b. b || is_touched G r) (is_unit r lt)) ∙ has.1

      own_if : has_memory G r ≡ is_some unit.imported
      own_if = ap₂ (λ b t. b || (t && is_import G r)) (is_unit r lt) is_used ∙ import_told

      unit_first : piece_bytes (memories frame G heap) (piece G offsets r) ≡ first_bytes unit
      unit_first = go unit.imported refl
        where
          go : (o : Option (List ℕ)) → (get_or frame.units r no_unit).imported ≡ o → piece_bytes (memories frame G heap) (piece G offsets r) ≡ first_bytes (get_or frame.units r no_unit)
          go None e =
              let none : has_memory G r ≡ false = own_if ∙ ap is_some e in
              let first : slice_get (memories frame G heap) (memory_of G r) ≡ Some (Plain heap) = ap (λ b. slice_get (memories frame G heap) (if b then 1 + count_by (has_memory G) (range_with_len 0 r) else 0)) none in
              from_plain (piece G offsets r) heap (slice_get (memories frame G heap) (memory_of G r)) first
              ∙ ap (λ s. replicate (bytes_of s) 0) its_shape
              ∙ sym (ap (λ o. unwrap_or o (replicate (bytes_of unit.shape) 0)) e)
          go (Some bytes) e =
              let own : has_memory G r ≡ true = own_if ∙ ap is_some e in
              let fits = and_parts (is_buffer unit.shape) (length bytes == bytes_of unit.shape) (sym (ap (import_fits unit.shape) e) ∙ good.imports_fit r no_unit lt) in
              let buffer : is_buffer (shape_at G.shapes r) ≡ true = ap is_buffer its_shape ∙ fits.0 in
              let memory : slice_get (memories frame G heap) (memory_of G r) ≡ Some (Import bytes) = memory_stands r has.0 own ∙ ap (λ o. Some (own_memory G r o)) (its_import ∙ e) in
              let start : offset_of G offsets r ≡ 0 = ap (λ b. if b then 0 else number_at offsets (place_of G r)) own in
              let size : length bytes ≡ bytes_of (shape_at G.shapes r) = eqb-true (length bytes) (bytes_of unit.shape) fits.1 ∙ ap bytes_of (sym its_shape) in
              ap₂ (λ b o. if b then option_map_or (begins_in (piece G offsets r)) o (zeros (piece G offsets r)) else zeros (piece G offsets r)) buffer memory
              ∙ whole_range bytes (offset_of G offsets r) (bytes_of (shape_at G.shapes r)) start size
              ∙ sym (ap (λ o. unwrap_or o (replicate (bytes_of unit.shape) 0)) e)

    -- A PROGRAM OF THESE PIECES

    module _ (program : Program) (pieces_are : program.pieces ≡ pieces G offsets) (memories_are : program.memories ≡ memories frame G heap) where
      got : {X : Type 0} (f : Piece → X) (r : ℕ) → Has G r → slice_get (map f program.pieces) (piece_of G r) ≡ Some (f (piece G offsets r))
      got f r has =
          slice_get-map f program.pieces (piece_of G r)
          ∙ ap (λ ps. option_map f (slice_get ps (piece_of G r))) pieces_are
          ∙ ap (option_map f) (piece_stands r has)

      pub renumbers : Renumbers (piece_of G) G.shapes (shapes_of program) (Has G)
      renumbers = record {
        apart = apart;
        shape = λ r has. get_or_from_slice_get (shapes_of program) (piece_of G r) (shape_at G.shapes r) (Buffer 0) (got (λ p. p.shape) r has);
      }

      pub begins : (r : ℕ) → Has G r → slice_get (map (piece_bytes program.memories) program.pieces) (piece_of G r) ≡ Some (piece_bytes (memories frame G heap) (piece G offsets r))
      begins r has = got (piece_bytes program.memories) r has ∙ ap (λ m. Some (piece_bytes m (piece G offsets r))) memories_are

      pub begins_room : (r : ℕ) → Has G r → piece_of G r < length (map (piece_bytes program.memories) program.pieces)
      begins_room r has = slice_get_within (map (piece_bytes program.memories) program.pieces) (piece_of G r) (piece_bytes (memories frame G heap) (piece G offsets r)) (begins r has)

      pub begins_alike : (r : ℕ) → r < length frame.units → Has G r → bytes_at (map (piece_bytes program.memories) program.pieces) (piece_of G r) ≡ bytes_at (map first_bytes frame.units) r
      begins_alike r lt has =
          get_or_from_slice_get (map (piece_bytes program.memories) program.pieces) (piece_of G r) (piece_bytes (memories frame G heap) (piece G offsets r)) [] (begins r has)
          ∙ unit_first r lt has
          ∙ sym (unit_bytes frame good r lt)

      pub readback_long : (r : ℕ) → length frame.units ≤ r → Has G r → length (bytes_at (map (piece_bytes program.memories) program.pieces) (piece_of G r)) ≡ bytes_of (shape_at G.shapes r)
      readback_long r past has =
          ap length (get_or_from_slice_get (map (piece_bytes program.memories) program.pieces) (piece_of G r) (piece_bytes (memories frame G heap) (piece G offsets r)) [] (begins r has) ∙ readback_first r past has)
          ∙ length-replicate (bytes_of (shape_at G.shapes r)) 0
