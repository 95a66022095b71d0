-- The pieces of imports begin with their bytes.
use Rattle.std.proofs.Common.{◌≡◌, ⊎_elim, ℕ, suc, ◌+◌, ◌<◌, ◌&&◌, Bool, true, false, List, length, map, slice_get, if◌then◌else◌, Option, Some, None, refl, sym, ap, ◌∙◌, arith}
use Rattle.std.specs.List.{count_by, filter, range_with_len}
use Rattle.std.specs.Option.{option_and_then, option_map, option_map_or}
use Rattle.std.specs.Prelude.{is_some}
use Rattle.std.proofs.lemmas.Bool.{and_from, false≢true, lt-leb, or_cases, or_right}
use Rattle.std.proofs.lemmas.List.{get_or-map}
use Rattle.std.proofs.lemmas.Option.{slice_get-map, get_or_from_slice_get}
use Rattle.base.specs.Shapes.{is_buffer, is_image, shape_at}
use Rattle.base.specs.declared.shape.Shape.{Shape}
use Rattle.base.specs.declared.shape.Shape.TheVariants.{Buffer, Image}
use Rattle.law_sound.proofs.Commands.{imports_count, imports_plain}
use Rattle.law_sound.proofs.Pieces.{piece_there}
use Rattle.frame.specs.Valid.{IsValid}
use Rattle.frame.specs.Numbered.{NumberedFrame}
use Rattle.frame.specs.Units.{Unit}
use Rattle.compile_groups.specs.Groups.{grouping}
use Rattle.compile_groups.specs.Laws.{IsKnown}
use Rattle.compile_groups.specs.Needs.{is_touched}
use Rattle.compile_groups.specs.Placed.{is_import}
use Rattle.compile_groups.specs.declared.grouping.Grouping.{Grouping}
use Rattle.compile_heap.specs.Placing.{Places}
use Rattle.compile_record.proofs.Entries.{entry_there}
use Rattle.compile_record.specs.Pieces.{has_memory, has_piece, imported, is_readback, memories, memory_of, own_memory, piece, piece_of, pieces, resources}
use Rattle.compile_record.specs.Recorded.{recorded}
use Rattle.law_valid.proofs.Numbers.{counted}
use Rattle.check_access.specs.Views as views

buffer_from : (shape : Shape) → is_image shape ≡ false → is_buffer shape ≡ true
buffer_from (Buffer size) e = refl
buffer_from (Image width height texel) e = absurd (false≢true (sym e))

some_own : (G : Grouping) (r : ℕ) (o : Option (List ℕ)) → is_some o ≡ true → views.is_import (own_memory G r o) ≡ true
some_own G r None e = absurd (false≢true e)
some_own G r (Some bytes) e = refl

module _ (frame : NumberedFrame) (kept : List Bool) (good : IsValid frame) where
  abbrev G : Grouping
  G = grouping frame kept

  own_there : (heap r : ℕ) → r < length G.shapes → has_memory G r ≡ true → slice_get (memories frame G heap) (memory_of G r) ≡ Some (own_memory G r (imported frame r))
  own_there heap r lt has =
      let next : 1 + count_by (has_memory G) (range_with_len 0 r) ≡ suc (count_by (has_memory G) (range_with_len 0 r)) = omega arith in
      let number : memory_of G r ≡ suc (count_by (has_memory G) (range_with_len 0 r)) = ap (λ b. if b then 1 + count_by (has_memory G) (range_with_len 0 r) else 0) has ∙ next in
      ap (slice_get (memories frame G heap)) number
      ∙ slice_get-map (λ k. own_memory G k (imported frame k)) (filter (has_memory G) (resources G)) (count_by (has_memory G) (range_with_len 0 r))
      ∙ ap (option_map (λ k. own_memory G k (imported frame k))) (counted (has_memory G) (length G.shapes) r lt has)

  -- a unit that is an import has bytes
  has_bytes : (r : ℕ) → r < length frame.units → is_import G r ≡ true → is_some (imported frame r) ≡ true
  has_bytes r lt e = go (entry_there frame.units r lt)
    where
      go : (u : Unit) × (slice_get frame.units r ≡ Some u) → is_some (imported frame r) ≡ true
      go (u, at) = ap (λ o. is_some (option_and_then (λ (x : Unit). x.imported) o)) at
          ∙ sym (get_or-map (λ (x : Unit). is_some x.imported) frame.units r u false lt ∙ ap (λ (x : Unit). is_some x.imported) (get_or_from_slice_get frame.units r u u at)) ∙ e

  pub imported_pieces : IsKnown G → (ordered : ℕ → ℕ → Bool) (places : Places) (r : ℕ) → r < length G.imports → is_import G r ≡ true → has_piece G r ≡ true → views.imported_at (views.view_of (recorded frame kept ordered places)) (piece_of G r) ≡ true
  imported_pieces K ordered places r lt e has =
      let fewer = K.shapes in
      let within : r < length G.shapes = omega (arith, lt, fewer) in
      let count = imports_count frame kept good in
      let heap = memories frame G places.heap in
      let no_readback : is_readback G r ≡ false = lt-leb (length G.imports) r lt in
      let touched : is_touched G r ≡ true = ⊎_elim (λ b. absurd (false≢true (sym no_readback ∙ b))) (λ t. t) (or_cases (is_readback G r) (is_touched G r) has) in
      let own : has_memory G r ≡ true = or_right (is_readback G r) (is_touched G r && is_import G r) (and_from (is_touched G r) (is_import G r) touched e) in
      let memory : option_map_or views.is_import (slice_get heap (memory_of G r)) false ≡ true = ap (λ o. option_map_or views.is_import o false) (own_there places.heap r within own) ∙ some_own G r (imported frame r) (has_bytes r (omega (arith, lt, count)) e) in
      let buffer : is_buffer (shape_at G.shapes r) ≡ true = buffer_from (shape_at G.shapes r) (imports_plain frame kept good r e) in
      get_or_from_slice_get (map (views.piece_imported heap) (pieces G places.offsets)) (piece_of G r) (views.piece_imported heap (piece G places.offsets r)) false
      (slice_get-map (views.piece_imported heap) (pieces G places.offsets) (piece_of G r) ∙ ap (option_map (views.piece_imported heap)) (piece_there G places.offsets r within has))
      ∙ and_from (is_buffer (shape_at G.shapes r)) (option_map_or views.is_import (slice_get heap (memory_of G r)) false) buffer memory
