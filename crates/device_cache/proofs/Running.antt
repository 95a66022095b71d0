-- The addresses of one segment have one row.
use Rattle.std.proofs.Common.{◌≡◌, ℕ, ◌+◌, ◌-◌, ◌<◌, ◌≤◌, List, length, get_or, zero-add, Option, Some, None, refl, sym, ap, ◌∙◌, ⊎_elim, arith}
use Rattle.std.proofs.lemmas.Bool.{cases_lt}
use Rattle.std.specs.Prelude.{map}
use Rattle.std.specs.List.{range_with_len}
use Rattle.std.proofs.lemmas.List.FromFn.{get_or-range_with_len, length-range_with_len}
use Rattle.std.proofs.lemmas.List.{ext_get_or, length-map, get_or-map}
use Rattle.device_cache.specs.declared.part.Part.{Part}
use Rattle.device_cache.specs.declared.cell.Cell.{Cell}
use Rattle.device_cache.specs.declared.cell.Cell.TheVariants as cells
use Rattle.device_cache.specs.declared.row.Row.{Row}
use Rattle.device_cache.specs.declared.segment.Segment.{Segment}
use Rattle.device_cache.specs.Places.{line_by}
use Rattle.device_cache.specs.Internal.Rows.{part_or, seen_part}
use Rattle.device_cache.specs.Places.{segment_at, place, row_at}
use Rattle.device_cache.specs.Internal.Segments.{Ascending}
use Rattle.device_cache.specs.Lines.{seen, range}
use Rattle.device_cache.specs.Effects.{load, read_main}
use Rattle.device_cache.specs.Tables.{Table, size_of, address, byte_in, line_in, caches_of}
use Rattle.device_cache.specs.Internal.Kept.{PartFits, CellFits, RowFits, Knows}
use Rattle.device_cache.proofs.Placing.{place_is, before_place}
use Rattle.device_cache.proofs.Effects.{main_at, line_at}

part_fits : (slots : List (List ℕ)) (main : Part) (cell : Cell) (x : ℕ) → PartFits slots main x → CellFits slots cell x → PartFits slots (part_or main cell) x
part_fits slots main cells.Empty x m f = m
part_fits slots main (cells.Clean p) x m f = f
part_fits slots main (cells.Dirty p) x m f = f

pub seen_fits : (slots : List (List ℕ)) (r : Row) (agent : Option ℕ) (x : ℕ) → Knows 32 agent → RowFits slots r x → PartFits slots (seen_part r agent) x
seen_fits slots r None x k f = f.main
seen_fits slots r (Some g) x k f = part_fits slots r.main (line_by r g) x f.main (f.cells g k)

module _ (segments : List Segment) (k at : ℕ) (is : k ≡ place segments at) (inside : k < length segments) where
  pub run_place : (x : ℕ) → at ≤ x → x < (segment_at segments k).end → place segments x ≡ k
  run_place x low high = place_is segments k x (omega (arith, inside)) (λ j lt. omega (arith, before_place segments j at (rw (← is) lt), low)) (λ _. high)

  pub run_row : (x : ℕ) → at ≤ x → x < (segment_at segments k).end → row_at segments x ≡ (segment_at segments k).row
  unfolding row_at
  run_row x low high = ap (λ n. (segment_at segments n).row) (run_place x low high)

  pub next_place : Ascending segments → place segments (segment_at segments k).end ≡ k + 1
  next_place A = place_is segments (k + 1) (segment_at segments k).end (omega (arith, inside)) (λ j lt. ⊎_elim (λ less. let r = A.rising j k less inside in omega (arith, r)) (λ (ge : k ≤ j). let e : j ≡ k = omega (arith, ge, lt) in rw e (omega arith)) (cases_lt j k)) (λ lt. A.rising k (k + 1) (omega arith) lt)

seen_byte : (slots : List (List ℕ)) (main : Part) (cell : Cell) (x : ℕ) → byte_in slots (part_or main cell) x ≡ seen (line_in slots cell x) (byte_in slots main x)
seen_byte slots main cells.Empty x = refl
seen_byte slots main (cells.Clean p) x = refl
seen_byte slots main (cells.Dirty p) x = refl

-- a list with f k at each place k
listed : (f : ℕ → ℕ) (n : ℕ) (xs : List ℕ) → length xs ≡ n → ((k : ℕ) → k < n → get_or xs k 0 ≡ f k) → xs ≡ map f (range_with_len 0 n)
listed f n xs len each = ext_get_or 0 xs (map f (range_with_len 0 n)) (len ∙ sym (length-map (range_with_len 0 n) f ∙ length-range_with_len 0 n))
    (λ k lt. let small : k < n = omega (arith, lt, len) in each k small ∙ sym (get_or-map f (range_with_len 0 n) k 0 0 (omega (arith, small, length-range_with_len 0 n)) ∙ ap f (get_or-range_with_len 0 n k 0 small ∙ zero-add k)))

pub loaded : (t : Table) (agent memory start n : ℕ) (xs : List ℕ) → agent < t.agents → length xs ≡ n → ((k : ℕ) → k < n → start + k < size_of t memory) → ((k : ℕ) → k < n → get_or xs k 0 ≡ byte_in t.slots (seen_part (row_at t.segments (address t memory (start + k))) (Some agent)) (address t memory (start + k))) → xs ≡ load agent (range memory start n) (caches_of t)
loaded t agent memory start n xs known len inside each = listed (λ k. seen ((caches_of t).line agent memory (start + k)) ((caches_of t).main memory (start + k))) n xs len (λ k lt.
    let i = start + k in
    let x = address t memory i in
    let r = row_at t.segments x in
    each k lt ∙ seen_byte t.slots r.main (line_by r agent) x ∙ sym (rw (line_at t agent memory i known (inside k lt), main_at t memory i (inside k lt)) refl))

pub read : (t : Table) (memory start n : ℕ) (xs : List ℕ) → length xs ≡ n → ((k : ℕ) → k < n → start + k < size_of t memory) → ((k : ℕ) → k < n → get_or xs k 0 ≡ byte_in t.slots (seen_part (row_at t.segments (address t memory (start + k))) None) (address t memory (start + k))) → xs ≡ read_main (range memory start n) (caches_of t)
read t memory start n xs len inside each = listed (λ k. (caches_of t).main memory (start + k)) n xs len (λ k lt. each k lt ∙ sym (main_at t memory (start + k) (inside k lt)))
