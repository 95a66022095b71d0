-- The pieces of a compiled program: each has the shape of what it is of, and lies in its memory.
use Rattle.std.proofs.Common.{◌≡◌, ⊎_elim, ℕ, suc, ◌+◌, ◌-◌, ◌<◌, ◌≤◌, ◌%◌, ◌==◌, ◌&&◌, ◌||◌, nat_le, not, Bool, true, false, List, length, map, get_or, slice_get, if◌then◌else◌, Option, Some, None, is_some, refl, sym, ap, ◌∙◌, subst, eq-eqb, eqb-true, arith}
use Rattle.std.specs.List.{All, filter, count_by, range_with_len, position_or_len}
use Rattle.std.specs.Option.{option_map, option_map_or, option_and_then}
use Rattle.std.proofs.lemmas.Bool.{cases_lt, and_from, and_parts, lt-ltb, le-leb, leb-true, leb-false, or_left}
use Rattle.std.proofs.lemmas.List.{length-map, get_or-map, get_or-append_right}
use Rattle.std.proofs.lemmas.List.Elements.{All-map, All-append}
use Rattle.std.proofs.lemmas.List.Sums.{fails_before_first, passes_at_first}
use Rattle.std.proofs.lemmas.Option.{slice_get-map, slice_get_within, get_or_from_slice_get}
use Rattle.base.proofs.Booleans.{clash}
use Rattle.base.proofs.Lists.{entry_of}
use Rattle.base.specs.Bounds.{sides_allowed, size_allowed}
use Rattle.base.specs.Shapes.{shape_at, bytes_of, is_buffer}
use Rattle.base.specs.declared.shape.Shape.{Shape}
use Rattle.base.specs.declared.shape.Shape.TheVariants.{Buffer}
use Rattle.frame.specs.Valid.{IsValid, shapes_in}
use Rattle.frame.specs.Numbered.{NumberedFrame}
use Rattle.frame.specs.Units.{Unit}
use Rattle.frame.specs.Uses.{import_fits}
use Rattle.compile_groups.specs.Commands.{readback_shape}
use Rattle.compile_groups.specs.Groups.{grouping}
use Rattle.compile_groups.specs.Needs.{is_touched}
use Rattle.compile_groups.specs.Placed.{is_import, placed, unit_at, sizes}
use Rattle.compile_groups.specs.declared.grouping.Grouping.{Grouping}
use Rattle.compile_heap.specs.Placing.{Places, number_at, IsLeast}
use Rattle.compile_record.specs.Pieces.{resources, is_readback, has_piece, has_memory, piece_of, memory_of, offset_of, piece, pieces, imported, own_memory, memories, readbacks}
use Rattle.program.specs.Limits.{memory_bytes}
use Rattle.program.specs.Ranges.{lies_in}
use Rattle.program.specs.Rules.{piece_obeys, readback_obeys}
use Rattle.program.specs.declared.program.Memory.{Memory}
use Rattle.program.specs.declared.program.Memory.TheVariants.{Plain}
use Rattle.program.specs.declared.program.Piece.{Piece}
use Rattle.program.specs.declared.rule.Rule.{Rule}
use Rattle.program.specs.declared.rule.Rule.TheVariants as rules
use Rattle.compile_barriers.specs.Under.{place_of}
use Rattle.law_valid.proofs.Commands.{units_count, shapes_count, unit_shape}
use Rattle.law_valid.proofs.Items.{HasShape}
use Rattle.law_valid.proofs.Numbers.{counted, kept_numbers}

-- the shapes of pieces
abbrev pub piece_shapes : Grouping → List ℕ → List Shape
piece_shapes G offsets = map (λ piece. piece.shape) (pieces G offsets)

pub piece_there : (G : Grouping) (offsets : List ℕ) (r : ℕ) → r < length G.shapes → has_piece G r ≡ true → slice_get (pieces G offsets) (piece_of G r) ≡ Some (piece G offsets r)
piece_there G offsets r lt has =
    slice_get-map (piece G offsets) (filter (has_piece G) (resources G)) (piece_of G r)
    ∙ ap (option_map (piece G offsets)) (counted (has_piece G) (length G.shapes) r lt has)

-- a piece has the shape of what it is of
pub shaped : (G : Grouping) (offsets : List ℕ) (r : ℕ) → r < length G.shapes → has_piece G r ≡ true → HasShape (piece_shapes G offsets) (piece_of G r) (shape_at G.shapes r)
shaped G offsets r lt has = slice_get-map (λ (p : Piece). p.shape) (pieces G offsets) (piece_of G r) ∙ ap (option_map (λ (p : Piece). p.shape)) (piece_there G offsets r lt has)

-- AT A PLACE OF THE HEAP

-- a unit that passes has a place
module _ (p : ℕ → Bool) (n r : ℕ) (lt : r < n) (passes : p r ≡ true) where
  abbrev list : List ℕ
  list = filter p (range_with_len 0 n)

  abbrev place : ℕ
  place = position_or_len (λ u. u == r) (filter p (range_with_len 0 n))

  place_within : place < length list
  place_within = ⊎_elim (λ h. h) (λ le. absurd (late le)) (cases_lt place (length list))
    where
      late : length list ≤ place → ⊥
      late le =
          let at = counted p n r lt passes in
          let below = slice_get_within list (count_by p (range_with_len 0 r)) r at in
          clash (sym (fails_before_first (λ u. u == r) list (count_by p (range_with_len 0 r)) 0 (omega (arith, le, below))) ∙ eq-eqb (get_or list (count_by p (range_with_len 0 r)) 0) r (get_or_from_slice_get list (count_by p (range_with_len 0 r)) r 0 at))

  at_place : get_or list place 0 ≡ r
  at_place = eqb-true (get_or list place 0) r (passes_at_first (λ u. u == r) list 0 place_within)

module _ (frame : NumberedFrame) (kept : List Bool) (good : IsValid frame) where
  abbrev G : Grouping
  G = grouping frame kept

  pub imports_count : length G.imports ≡ length frame.units
  imports_count = length-map frame.units (λ u. is_some u.imported)

  -- THE SHAPES OF RESOURCES

  readbacks_plain : All (λ shape. is_buffer shape ≡ true) (map (readback_shape frame) frame.exports)
  readbacks_plain = All-map (λ shape. is_buffer shape ≡ true) (readback_shape frame) frame.exports (λ k d lt. refl)

  unit_sizes : All (λ shape. size_allowed shape ≡ true) (shapes_in frame)
  unit_sizes = All-map (λ shape. size_allowed shape ≡ true) (λ (u : Unit). u.shape) frame.units good.sized

  pub all_sizes : All (λ shape. size_allowed shape ≡ true) G.shapes
  all_sizes = All-append (λ shape. size_allowed shape ≡ true) (shapes_in frame) (map (readback_shape frame) frame.exports)
      unit_sizes
      (All-map (λ shape. size_allowed shape ≡ true) (readback_shape frame) frame.exports (λ k d lt. unit_sizes (get_or frame.exports k d) (Buffer 0) (let c = units_count frame kept good in let w = good.exports_within k d lt in omega (arith, c, w))))

  pub all_sides : All (λ shape. sides_allowed shape ≡ true) G.shapes
  all_sides = All-append (λ shape. sides_allowed shape ≡ true) (shapes_in frame) (map (readback_shape frame) frame.exports)
      (All-map (λ shape. sides_allowed shape ≡ true) (λ (u : Unit). u.shape) frame.units good.sides)
      (All-map (λ shape. sides_allowed shape ≡ true) (readback_shape frame) frame.exports (λ k d lt. refl))

  pub buffers_read : (r : ℕ) → r < length G.shapes → is_readback G r ≡ true → is_buffer (shape_at G.shapes r) ≡ true
  buffers_read r lt e =
      let units = units_count frame kept good in
      let count = shapes_count frame kept good in
      let imports = imports_count in
      let low = leb-true (length G.imports) r e in
      let past : length (shapes_in frame) ≤ r = omega (arith, units, imports, low) in
      ap is_buffer (get_or-append_right (shapes_in frame) (map (readback_shape frame) frame.exports) (length (shapes_in frame)) r (Buffer 0) refl past)
      ∙ readbacks_plain (r - length (shapes_in frame)) (Buffer 0) (omega (arith, length-map frame.exports (readback_shape frame), units, count, lt, past))

  -- MEMORIES OF THEIR OWN

  own_there : (heap r : ℕ) → r < length G.shapes → has_memory G r ≡ true → slice_get (memories frame G heap) (memory_of G r) ≡ Some (own_memory G r (imported frame r))
  own_there heap r lt has =
      let next : 1 + count_by (has_memory G) (range_with_len 0 r) ≡ suc (count_by (has_memory G) (range_with_len 0 r)) = omega arith in
      let number : memory_of G r ≡ suc (count_by (has_memory G) (range_with_len 0 r)) = ap (λ b. if b then 1 + count_by (has_memory G) (range_with_len 0 r) else 0) has ∙ next in
      ap (slice_get (memories frame G heap)) number
      ∙ slice_get-map (λ k. own_memory G k (imported frame k)) (filter (has_memory G) (resources G)) (count_by (has_memory G) (range_with_len 0 r))
      ∙ ap (option_map (λ k. own_memory G k (imported frame k))) (counted (has_memory G) (length G.shapes) r lt has)

  -- an import has as many bytes as its shape
  import_full : (r : ℕ) (unit : Unit) (bytes : List ℕ) → slice_get frame.units r ≡ Some unit → unit.imported ≡ Some bytes → length bytes ≡ bytes_of (shape_at G.shapes r)
  import_full r unit bytes at is =
      let within = slice_get_within frame.units r unit at in
      let fit : import_fits unit.shape unit.imported ≡ true = entry_of (λ (u : Unit). import_fits u.shape u.imported ≡ true) frame.units r unit good.imports_fit at in
      let full = (and_parts (is_buffer unit.shape) (length bytes == bytes_of unit.shape) (sym (ap (import_fits unit.shape) is) ∙ fit)).1 in
      let shape : shape_at G.shapes r ≡ unit.shape = unit_shape frame kept good r within ∙ get_or-map (λ (u : Unit). u.shape) frame.units r unit (Buffer 0) within ∙ ap (λ (u : Unit). u.shape) (get_or_from_slice_get frame.units r unit unit at) in
      eqb-true (length bytes) (bytes_of unit.shape) full ∙ ap bytes_of (sym shape)

  pub own_size : (r : ℕ) → memory_bytes (own_memory G r (imported frame r)) ≡ bytes_of (shape_at G.shapes r)
  own_size r = of_unit (slice_get frame.units r) refl
    where
      of_import : (unit : Unit) → slice_get frame.units r ≡ Some unit → (bytes : Option (List ℕ)) → unit.imported ≡ bytes → memory_bytes (own_memory G r bytes) ≡ bytes_of (shape_at G.shapes r)
      of_import unit at None is = refl
      of_import unit at (Some bytes) is = import_full r unit bytes at is

      of_unit : (o : Option Unit) → slice_get frame.units r ≡ o → memory_bytes (own_memory G r (option_and_then (λ (u : Unit). u.imported) o)) ≡ bytes_of (shape_at G.shapes r)
      of_unit None at = refl
      of_unit (Some unit) at = of_import unit at unit.imported refl

  -- EACH PIECE LIES IN ITS MEMORY

  record IsInside (memories : List Memory) (p : Piece) : Type 0 where
    memory : Memory
    is : slice_get memories p.memory ≡ Some memory
    lies : lies_in p memory ≡ true

  lies : (offset bytes room : ℕ) → offset % 256 ≡ 0 → offset + bytes ≤ room → (offset % 256 == 0 && nat_le (offset + bytes) room) ≡ true
  lies offset bytes room aligned within = and_from (offset % 256 == 0) (nat_le (offset + bytes) room) (eq-eqb (offset % 256) 0 aligned) (le-leb (offset + bytes) room within)

  module _ (ordered : ℕ → ℕ → Bool) (places : Places) (least : IsLeast (sizes G) ordered places) where
    inside_own : (r : ℕ) → r < length G.shapes → has_memory G r ≡ true → IsInside (memories frame G places.heap) (piece G places.offsets r)
    inside_own r lt has =
        let offset : offset_of G places.offsets r ≡ 0 = ap (λ b. if b then 0 else number_at places.offsets (place_of G r)) has in
        record {
          memory = own_memory G r (imported frame r);
          is = own_there places.heap r lt has;
          lies = lies (offset_of G places.offsets r) (bytes_of (shape_at G.shapes r)) (memory_bytes (own_memory G r (imported frame r))) (ap (λ n. n % 256) offset) (let size = own_size r in omega (arith, offset, size));
        }

    inside_heap : (r : ℕ) → r < length G.imports → (is_touched G r && not (is_import G r)) ≡ true → has_memory G r ≡ false → IsInside (memories frame G places.heap) (piece G places.offsets r)
    inside_heap r lt passes none =
        let place : ℕ = place_of G r in
        let low : place_of G r < length (placed G) = place_within (λ unit. is_touched G unit && not (is_import G unit)) (length G.imports) r lt passes in
        let unit : unit_at G (place_of G r) ≡ r = at_place (λ unit. is_touched G unit && not (is_import G unit)) (length G.imports) r lt passes in
        let count = length-map (placed G) (λ unit. bytes_of (shape_at G.shapes unit)) in
        let within : place_of G r < length (sizes G) = omega (arith, low, count) in
        let size : number_at (sizes G) (place_of G r) ≡ bytes_of (shape_at G.shapes r) = get_or-map (λ unit. bytes_of (shape_at G.shapes unit)) (placed G) (place_of G r) 0 0 low ∙ ap (λ u. bytes_of (shape_at G.shapes u)) unit in
        let offset : offset_of G places.offsets r ≡ number_at places.offsets (place_of G r) = ap (λ b. if b then 0 else number_at places.offsets (place_of G r)) none in
        let end = least.heap.within (place_of G r) within in
        record {
          memory = Plain places.heap;
          is = ap (λ b. slice_get (memories frame G places.heap) (if b then 1 + count_by (has_memory G) (range_with_len 0 r) else 0)) none;
          lies = lies (offset_of G places.offsets r) (bytes_of (shape_at G.shapes r)) places.heap (ap (λ n. n % 256) offset ∙ (least.each (place_of G r) within).aligned) (omega (arith, offset, end, size));
        }

    inside : (r : ℕ) → r < length G.shapes → has_piece G r ≡ true → IsInside (memories frame G places.heap) (piece G places.offsets r)
    inside r lt has = go (has_memory G r) refl
      where
        placed_one : (b t i : Bool) → (b || (t && i)) ≡ false → (b || t) ≡ true → (b ≡ false) × ((t && not i) ≡ true)
        placed_one false true false e h = (refl, refl)
        placed_one false true true e h = absurd cc
        placed_one false false i e h = absurd cc
        placed_one true t i e h = absurd cc

        go : (m : Bool) → has_memory G r ≡ m → IsInside (memories frame G places.heap) (piece G places.offsets r)
        go true e = inside_own r lt e
        go false e =
            let parts = placed_one (is_readback G r) (is_touched G r) (is_import G r) e has in
            inside_heap r (leb-false (length G.imports) r parts.0) parts.1 e

    obeys : (rule : Rule) (p : Piece) → IsInside (memories frame G places.heap) p → piece_obeys rule (memories frame G places.heap) p ≡ true
    obeys rules.Limits p I = refl
    obeys rules.Range p I = subst (λ o. option_map_or (lies_in p) o true ≡ true) (sym I.is) I.lies
    obeys rules.Known p I = lt-ltb p.memory (length (memories frame G places.heap)) (slice_get_within (memories frame G places.heap) p.memory I.memory I.is)
    obeys rules.Stages p I = refl
    obeys rules.Ignored p I = refl
    obeys rules.Supported p I = refl
    obeys rules.OnQueue p I = refl
    obeys rules.Runs p I = refl
    obeys rules.Timeline p I = refl

    pub pieces_obey : (rule : Rule) → All (λ p. piece_obeys rule (memories frame G places.heap) p ≡ true) (pieces G places.offsets)
    pieces_obey rule = All-map (λ p. piece_obeys rule (memories frame G places.heap) p ≡ true) (piece G places.offsets) (filter (has_piece G) (resources G))
        (kept_numbers (λ r. piece_obeys rule (memories frame G places.heap) (piece G places.offsets r) ≡ true) (has_piece G) (length G.shapes) (λ r lt has. obeys rule (piece G places.offsets r) (inside r lt has)))

  -- READBACKS

  read_obeys : (offsets : List ℕ) (rule : Rule) (r : ℕ) → r < length G.shapes → is_readback G r ≡ true → readback_obeys rule (piece_shapes G offsets) (piece_of G r) ≡ true
  read_obeys offsets rules.Limits r lt e = refl
  read_obeys offsets rules.Range r lt e = subst (λ o. option_map_or is_buffer o true ≡ true) (sym (shaped G offsets r lt (or_left (is_readback G r) (is_touched G r) e))) (buffers_read r lt e)
  read_obeys offsets rules.Known r lt e = lt-ltb (piece_of G r) (length (piece_shapes G offsets)) (slice_get_within (piece_shapes G offsets) (piece_of G r) (shape_at G.shapes r) (shaped G offsets r lt (or_left (is_readback G r) (is_touched G r) e)))
  read_obeys offsets rules.Stages r lt e = refl
  read_obeys offsets rules.Ignored r lt e = refl
  read_obeys offsets rules.Supported r lt e = refl
  read_obeys offsets rules.OnQueue r lt e = refl
  read_obeys offsets rules.Runs r lt e = refl
  read_obeys offsets rules.Timeline r lt e = refl

  pub readbacks_obey : (offsets : List ℕ) (rule : Rule) → All (λ p. readback_obeys rule (piece_shapes G offsets) p ≡ true) (readbacks G)
  readbacks_obey offsets rule = All-map (λ p. readback_obeys rule (piece_shapes G offsets) p ≡ true) (piece_of G) (filter (is_readback G) (resources G))
      (kept_numbers (λ r. readback_obeys rule (piece_shapes G offsets) (piece_of G r) ≡ true) (is_readback G) (length G.shapes) (λ r lt e. read_obeys offsets rule r lt e))
