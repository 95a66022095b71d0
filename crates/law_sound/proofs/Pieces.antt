-- Each resource that is used has a piece of its shape, and the host reads those of the buffers of exports.
use Rattle.std.proofs.Common.{◌≡◌, ℕ, zero, suc, ◌+◌, ◌-◌, ◌<◌, ◌≤◌, nat_le, true, List, ◌∷◌, length, map, slice_get, if◌then◌else◌, Some, refl, sym, ap, ◌∙◌, arith}
use Rattle.std.specs.List.{filter, range_with_len}
use Rattle.std.specs.Option.{option_map}
use Rattle.std.proofs.lemmas.Bool.{le-leb, lt-leb}
use Rattle.std.proofs.lemmas.List.FromFn.{length-range_with_len, get_or-map-range_with_len}
use Rattle.std.proofs.lemmas.List.{length-map}
use Rattle.std.proofs.lemmas.Option.{slice_get-map, slice_get-get_or, slice_get_within, get_or_from_slice_get}
use Rattle.base.specs.Shapes.{shape_at}
use Rattle.base.specs.declared.shape.Shape.{Shape}
use Rattle.base.specs.declared.shape.Shape.TheVariants.{Buffer}
use Rattle.compile_groups.specs.declared.grouping.Grouping.{Grouping}
use Rattle.compile_record.specs.Pieces.{resources, is_readback, has_piece, piece_of, piece, pieces, readbacks}
use Rattle.program.specs.declared.program.Piece.{Piece}
use Rattle.law_valid.proofs.Numbers.{counted}

-- NUMBERS

-- those from number m on
late_kept : (m a n : ℕ) → m ≤ a → filter (λ r. nat_le m r) (range_with_len a n) ≡ range_with_len a n
late_kept m a zero le = refl
late_kept m a (suc n) le =
    ap (λ b. if b then a ∷ filter (λ r. nat_le m r) (range_with_len (a + 1) n) else filter (λ r. nat_le m r) (range_with_len (a + 1) n)) (le-leb m a le)
    ∙ ap (λ l. a ∷ l) (late_kept m (a + 1) n (omega (arith, le)))

late_from : (m a d n : ℕ) → a + d ≡ m → filter (λ r. nat_le m r) (range_with_len a (d + n)) ≡ range_with_len m n
late_from m a zero n e =
    let same : a ≡ m = omega (arith, e) in
    let z : 0 + n ≡ n = omega arith in
    ap (λ k. filter (λ r. nat_le m r) (range_with_len a k)) z ∙ late_kept m a n (omega (arith, same)) ∙ ap (λ b. range_with_len b n) same
late_from m a (suc d) n e =
    let next : suc d + n ≡ suc (d + n) = omega arith in
    ap (λ k. filter (λ r. nat_le m r) (range_with_len a k)) next
    ∙ ap (λ b. if b then a ∷ filter (λ r. nat_le m r) (range_with_len (a + 1) (d + n)) else filter (λ r. nat_le m r) (range_with_len (a + 1) (d + n))) (lt-leb m a (omega (arith, e)))
    ∙ late_from m (a + 1) d n (omega (arith, e))

-- SHAPES

module _ (G : Grouping) (offsets : List ℕ) where
  abbrev pub piece_shapes : List Shape
  piece_shapes = map (λ piece. piece.shape) (pieces G offsets)

  pub piece_there : (r : ℕ) → r < length G.shapes → has_piece G r ≡ true → slice_get (pieces G offsets) (piece_of G r) ≡ Some (piece G offsets r)
  piece_there r lt has =
      slice_get-map (piece G offsets) (filter (has_piece G) (resources G)) (piece_of G r)
      ∙ ap (option_map (piece G offsets)) (counted (has_piece G) (length G.shapes) r lt has)

  pub piece_shape : (r : ℕ) → r < length G.shapes → has_piece G r ≡ true → shape_at piece_shapes (piece_of G r) ≡ shape_at G.shapes r
  piece_shape r lt has = get_or_from_slice_get piece_shapes (piece_of G r) (shape_at G.shapes r) (Buffer 0)
      (slice_get-map (λ (p : Piece). p.shape) (pieces G offsets) (piece_of G r) ∙ ap (option_map (λ (p : Piece). p.shape)) (piece_there r lt has))

-- READBACKS

-- what is read back as number k: the buffer of export k
pub record IsReadback (G : Grouping) (k piece : ℕ) : Type 0 where
  pub known : k < length G.shapes - length G.imports
  pub is : piece ≡ piece_of G (length G.imports + k)

module _ (G : Grouping) (fewer : length G.imports ≤ length G.shapes) where
  abbrev m : ℕ
  m = length G.imports

  abbrev n : ℕ
  n = length G.shapes - length G.imports

  buffers : filter (is_readback G) (resources G) ≡ range_with_len m n
  buffers = let all : length G.shapes ≡ m + n = omega (arith, fewer) in ap (λ k. filter (is_readback G) (range_with_len 0 k)) all ∙ late_from m 0 m n (omega arith)

  pub read_there : (k : ℕ) → k < n → slice_get (readbacks G) k ≡ Some (piece_of G (m + k))
  read_there k lt =
      let count = length-map (range_with_len m n) (piece_of G) in
      let range = length-range_with_len m n in
      ap (λ l. slice_get (map (piece_of G) l) k) buffers
      ∙ slice_get-get_or (map (piece_of G) (range_with_len m n)) k 0 (omega (arith, lt, count, range))
      ∙ ap (λ x. Some x) (get_or-map-range_with_len (piece_of G) m n k (m + k) 0 lt refl)

  pub read_back : (k piece : ℕ) → slice_get (readbacks G) k ≡ Some piece → IsReadback G k piece
  read_back k piece e = record { known = known; is = sym (get_or_from_slice_get (map (piece_of G) (range_with_len m n)) k piece 0 there) ∙ get_or-map-range_with_len (piece_of G) m n k (m + k) 0 known refl }
    where
      there : slice_get (map (piece_of G) (range_with_len m n)) k ≡ Some piece
      there = ap (λ l. slice_get (map (piece_of G) l) k) (sym buffers) ∙ e

      known : k < n
      known =
          let low = slice_get_within (map (piece_of G) (range_with_len m n)) k piece there in
          let count = length-map (range_with_len m n) (piece_of G) in
          let range = length-range_with_len m n in
          omega (arith, low, count, range)
