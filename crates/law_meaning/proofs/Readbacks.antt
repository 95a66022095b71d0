-- There is a read-back for each export, in their order.
use Rattle.std.proofs.Common.{◌≡◌, ℕ, ◌+◌, ◌<◌, ◌≤◌, nat_le, true, length, map, slice_get, Some, is_some, option_map, sym, ap, ap₂, ◌∙◌, le-leb, arith}
use Rattle.std.specs.List.{filter, count_by, range_with_len}
use Rattle.std.proofs.lemmas.List.{length-map, length-append}
use Rattle.std.proofs.lemmas.List.Sums.{length-filter}
use Rattle.std.proofs.lemmas.Option.{slice_get-map}
use Rattle.law_meaning.proofs.Numbers.{stands_at, count_past}
use Rattle.frame.specs.Valid.{shapes_in}
use Rattle.frame.specs.Numbered.{NumberedFrame}
use Rattle.compile_groups.specs.Commands.{all_shapes, readback_shape}
use Rattle.compile_groups.specs.Groups.{imports_in}
use Rattle.compile_groups.specs.declared.grouping.Grouping.{Grouping}
use Rattle.compile_record.specs.Pieces.{resources, is_readback, piece_of, readbacks}

module _ (frame : NumberedFrame) (G : Grouping) (imports_are : G.imports ≡ imports_in frame) where
  pub units_count : length G.imports ≡ length frame.units
  units_count = ap length imports_are ∙ length-map frame.units (λ u. is_some u.imported)

  pub is_past : (r : ℕ) → length frame.units ≤ r → is_readback G r ≡ true
  is_past r le = le-leb (length G.imports) r (omega (arith, le, units_count))

  module _ (shapes_are : G.shapes ≡ all_shapes frame) where
    all_count : length G.shapes ≡ length frame.units + length frame.exports
    all_count = omega (arith, ap length shapes_are, length-append (shapes_in frame) (map (readback_shape frame) frame.exports), length-map frame.units (λ u. u.shape), length-map frame.exports (readback_shape frame))

    pub readback_at : (k : ℕ) → k < length frame.exports → slice_get (readbacks G) k ≡ Some (piece_of G (length frame.units + k))
    readback_at k lt =
        let same : count_by (is_readback G) (range_with_len 0 (length frame.units + k)) ≡ k = ap (λ n. count_by (nat_le n) (range_with_len 0 (length frame.units + k))) units_count ∙ count_past (length frame.units) k in
        slice_get-map (piece_of G) (filter (is_readback G) (resources G)) k
        ∙ ap (λ n. option_map (piece_of G) (slice_get (filter (is_readback G) (resources G)) n)) (sym same)
        ∙ ap (option_map (piece_of G)) (stands_at (is_readback G) (length G.shapes) (length frame.units + k) (omega (arith, all_count, lt)) (is_past (length frame.units + k) (omega arith)))

    pub readback_count : length (readbacks G) ≡ length frame.exports
    readback_count =
        length-map (filter (is_readback G) (resources G)) (piece_of G)
        ∙ length-filter (is_readback G) (resources G)
        ∙ ap₂ (λ n m. count_by (nat_le n) (range_with_len 0 m)) units_count all_count
        ∙ count_past (length frame.units) (length frame.exports)
