-- The lines of places, one after another.
use Rattle.std.proofs.Common.{◌≡◌, ◌<◌, ◌≤◌, ◌+◌, ◌++◌, ◌&&◌, not, ℕ, suc, List, Some, length, get_or, slice_get, drop, sym, ap, ◌∙◌, arith, add-one, append_assoc}
use Rattle.std.specs.List.{All, range_with_len}
use Rattle.std.proofs.lemmas.List.{drop_more, length-map}
use Rattle.std.proofs.lemmas.List.Elements.{All-filter}
use Rattle.std.proofs.lemmas.List.FromFn.{length-range_with_len, get_or-range_with_len}
use Rattle.std.proofs.lemmas.Option.{get_or_from_slice_get}
use Rattle.base.specs.Shapes.{shape_at, bytes_of}
use Rattle.frame.specs.declared.frame.Frame.{Frame}
use Rattle.compile_groups.specs.Needs.{is_touched}
use Rattle.compile_groups.specs.Placed.{placed, sizes, is_import}
use Rattle.compile_groups.specs.declared.grouping.Grouping.{Grouping}
use Rattle.compile_heap.specs.Placing.{number_at}
use Rattle.report.specs.PlaceLines.{place_line, place_lines}

pub line_more : (frame : Frame) (sizes offsets units : List ℕ) (k offset : ℕ) (text new whole : List ℕ) → k < length units → slice_get offsets k ≡ Some offset → new ≡ text ++ place_line frame offset (get_or sizes k 0) (get_or units k 0) → text ++ place_lines frame sizes offsets k (drop k units) ≡ whole → new ++ place_lines frame sizes offsets (k + 1) (drop (k + 1) units) ≡ whole
line_more frame sizes offsets units k offset text new whole lt at is before =
    let line : List ℕ = place_line frame offset (get_or sizes k 0) (get_or units k 0) in
    let rest : List ℕ = place_lines frame sizes offsets (k + 1) (drop (k + 1) units) in
    let here : place_line frame (number_at offsets k) (get_or sizes k 0) (get_or units k 0) ≡ line = ap (λ o. place_line frame o (get_or sizes k 0) (get_or units k 0)) (get_or_from_slice_get offsets k offset 0 at) in
    let next : place_lines frame sizes offsets (suc k) (drop (k + 1) units) ≡ rest = ap (λ m. place_lines frame sizes offsets m (drop (k + 1) units)) (sym (add-one k)) in
    let all : place_lines frame sizes offsets k (drop k units) ≡ line ++ rest = ap (place_lines frame sizes offsets k) (drop_more units k 0 lt) ∙ ap (λ l. l ++ place_lines frame sizes offsets (suc k) (drop (k + 1) units)) here ∙ ap (λ l. line ++ l) next in
    ap (λ t. t ++ rest) is ∙ append_assoc text line rest ∙ sym (ap (λ l. text ++ l) all) ∙ before

pub placed_known : (G : Grouping) (units : ℕ) → length G.imports ≤ units → All (λ unit. unit < units) (placed G)
placed_known G units few = All-filter (λ unit. is_touched G unit && not (is_import G unit)) (λ unit. unit < units) (range_with_len 0 (length G.imports)) below
  where
    below : All (λ unit. unit < units) (range_with_len 0 (length G.imports))
    below k d lt =
        let size = length-range_with_len 0 (length G.imports) in
        let inside : k < length G.imports = omega (arith, size, lt) in
        let at = get_or-range_with_len 0 (length G.imports) k d inside in
        omega (arith, at, inside, few)

pub as_many : (G : Grouping) → length (sizes G) ≡ length (placed G)
as_many G = length-map (placed G) (λ unit. bytes_of (shape_at G.shapes unit))
