-- In the bytes of an import lies nothing else.
use Rattle.std.proofs.Common.{◌≡◌, ⊎_elim, ℕ, ◌+◌, ◌<◌, ◌==◌, ◌&&◌, true, false, length, map, get_or, if◌then◌else◌, sym, ap, ◌∙◌, subst, eqb-true, arith}
use Rattle.std.specs.List.{count_by, filter, range_with_len}
use Rattle.std.specs.Option.{option_map_or}
use Rattle.std.specs.Prelude.{slice_get}
use Rattle.std.proofs.lemmas.Bool.{and_parts, cases_Bool, cases_eq, cases_lt, false≢true}
use Rattle.std.proofs.lemmas.List.{get_or-map, get_or_past, length-map}
use Rattle.base.specs.Shapes.{is_buffer}
use Rattle.law_sound.proofs.Counting.{IsKept, kept_at}
use Rattle.law_sound.proofs.Grouped.{resource_piece}
use Rattle.law_sound.proofs.Lying.{piece_there, resource_known, same_memory}
use Rattle.law_sound.specs.Plan.{group_count, resource_of}
use Rattle.frame.specs.Numbered.{NumberedFrame}
use Rattle.compile_groups.specs.Laws.{IsGrouped, IsKnown}
use Rattle.compile_groups.specs.declared.grouping.Grouping.{Grouping}
use Rattle.compile_heap.specs.Placing.{Places}
use Rattle.compile_record.specs.Pieces.{has_memory, has_piece, memories, memory_of, piece, piece_of, pieces, resources}
use Rattle.check_access.specs.Views.{is_before_end, is_import, no_piece, piece_imported, pieces_overlap}

module _ (G : Grouping) (L : IsGrouped G) (K : IsKnown G) (frame : NumberedFrame) (places : Places) where
  -- the heap is none
  own_memory_there : (s : ℕ) → piece_imported (memories frame G places.heap) (piece G places.offsets s) ≡ true → has_memory G s ≡ true
  own_memory_there s e = ⊎_elim (λ h. h) (λ none. absurd (false≢true (sym (ap (λ m. option_map_or is_import (slice_get (memories frame G places.heap) m) false) (ap (λ b. if b then 1 + count_by (has_memory G) (range_with_len 0 s) else 0) none)) ∙ there))) (cases_Bool (has_memory G s))
    where
      there : option_map_or is_import (slice_get (memories frame G places.heap) (memory_of G s)) false ≡ true
      there = (and_parts (is_buffer (piece G places.offsets s).shape) (option_map_or is_import (slice_get (memories frame G places.heap) (memory_of G s)) false) e).1

  -- a resource whose piece overlaps that of an import is the import
  same_import : (r s : ℕ) → has_memory G s ≡ true → pieces_overlap (piece G places.offsets r) (piece G places.offsets s) ≡ true → r ≡ s
  same_import r s own o = ⊎_elim
      (λ e. e)
      (λ differ. absurd (false≢true (sym (same_memory G places.offsets r s memory differ).1 ∙ own)))
      (cases_eq r s)
    where
      memory : memory_of G r ≡ memory_of G s
      memory = eqb-true (memory_of G r) (memory_of G s) (and_parts (memory_of G r == memory_of G s) (is_before_end (piece G places.offsets r) (piece G places.offsets s) && is_before_end (piece G places.offsets s) (piece G places.offsets r)) o).0

  pub import_alone : (g p : ℕ) → g < group_count G → get_or (map (piece_imported (memories frame G places.heap)) (pieces G places.offsets)) p false ≡ true → pieces_overlap (get_or (pieces G places.offsets) (piece_of G (resource_of G g)) no_piece) (get_or (pieces G places.offsets) p no_piece) ≡ true → piece_of G (resource_of G g) ≡ p
  import_alone g p lg imported over = ap (piece_of G) same ∙ R.place
    where
      count : length (pieces G places.offsets) ≡ length (filter (has_piece G) (resources G))
      count = length-map (filter (has_piece G) (resources G)) (piece G places.offsets)

      within : p < length (pieces G places.offsets)
      within = ⊎_elim
          (λ lt. lt)
          (λ le. absurd (false≢true (sym (get_or_past (map (piece_imported (memories frame G places.heap)) (pieces G places.offsets)) p false (let all = length-map (pieces G places.offsets) (piece_imported (memories frame G places.heap)) in omega (arith, all, le))) ∙ imported)))
          (cases_lt p (length (pieces G places.offsets)))

      R : IsKept (has_piece G) (length G.shapes) p
      R = kept_at (has_piece G) (length G.shapes) p (let lt = within in let all = count in omega (arith, lt, all))

      -- piece p
      there : get_or (pieces G places.offsets) p no_piece ≡ piece G places.offsets R.number
      there = get_or-map (piece G places.offsets) (filter (has_piece G) (resources G)) p 0 no_piece (let lt = within in let all = count in omega (arith, lt, all)) ∙ ap (piece G places.offsets) R.is

      own : has_memory G R.number ≡ true
      own = own_memory_there R.number (ap (piece_imported (memories frame G places.heap)) (sym there) ∙ sym (get_or-map (piece_imported (memories frame G places.heap)) (pieces G places.offsets) p no_piece false within) ∙ imported)

      same : resource_of G g ≡ R.number
      same = same_import (resource_of G g) R.number own
          (subst (λ x. pieces_overlap (piece G places.offsets (resource_of G g)) x ≡ true) there
          (subst (λ x. pieces_overlap x (get_or (pieces G places.offsets) p no_piece) ≡ true) (piece_there G places.offsets (resource_of G g) (resource_known G L K g lg) (resource_piece G L K g)) over))
