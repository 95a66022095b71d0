-- Uses of slots, as parts come and go.
use Rattle.std.proofs.Common.{◌≡◌, ◌≢◌, ℕ, ◌+◌, ◌<◌, ◌≤◌, Bool, true, false, List, [], ◌∷◌, ◌++◌, length, take, drop, slice_set, sym, ap, ◌∙◌, subst, ⊎_elim, eq-eqb, ne_eqb, arith}
use Rattle.std.proofs.Math.Seq.{take-append_seam}
use Rattle.std.specs.Prelude.{◌==◌, if◌then◌else◌}
use Rattle.std.proofs.lemmas.Bool.{cases_Bool}
use Rattle.std.proofs.lemmas.List.Folds.{sum_by-replicate}
use Rattle.std.proofs.lemmas.List.Sums.{sum_by-set, sum_by_push}
use Rattle.device_cache.specs.declared.part.Part.{Part}
use Rattle.device_cache.specs.declared.cell.Cell.TheVariants as cells
use Rattle.device_cache.specs.declared.change.Change.{Change}
use Rattle.device_cache.specs.declared.row.Row.{Row}
use Rattle.device_cache.specs.declared.segment.Segment.{Segment}
use Rattle.device_cache.specs.Internal.Opened.{open_segment}
use Rattle.device_cache.specs.Internal.Rows.{changed, main_after, line_after}
use Rattle.device_cache.specs.Internal.Uses.{part_uses, cell_uses, row_uses, uses, Counts}
use Rattle.device_cache.specs.Places.{line_by, nowhere, segment_at}

pub own_part : (slot : ℕ) (p : Part) → p.slot ≡ slot → part_uses slot p ≡ 1
own_part slot p e = ap (λ (b : Bool). if b then 1 else 0) (eq-eqb p.slot slot e)

pub other_part : (slot : ℕ) (p : Part) → p.slot ≢ slot → part_uses slot p ≡ 0
other_part slot p ne = ap (λ (b : Bool). if b then 1 else 0) (ne_eqb p.slot slot ne)

-- fewer uses are counted too
pub fewer : (counts : List ℕ) (f g : ℕ → ℕ) → Counts counts f → ((slot : ℕ) → g slot ≤ f slot) → Counts counts g
fewer counts f g C le slot low = omega (arith, C slot low, le slot)

-- what comes and what goes with a change of a row
pub changed_uses : (slot g : ℕ) (change : Change) (r : Row) → g < length r.lines → row_uses slot (changed g change r) + part_uses slot r.main + cell_uses slot (line_by r g) ≡ row_uses slot r + part_uses slot (main_after change r.main (line_by r g)) + cell_uses slot (line_after change r.main (line_by r g))
changed_uses slot g change r lt = omega (arith, sum_by-set (cell_uses slot) r.lines g (line_after change r.main (line_by r g)) cells.Empty lt)

-- one segment in place of another
pub set_uses : (slot : ℕ) (segments : List Segment) (k : ℕ) (s : Segment) → k < length segments → uses slot (slice_set segments k s) + row_uses slot (segment_at segments k).row ≡ uses slot segments + row_uses slot s.row
set_uses slot segments k s lt = sum_by-set (λ (s : Segment). row_uses slot s.row) segments k s nowhere lt

-- a list written back over another of its length
pub whole : {X : Type 0} (n : ℕ) (new old : List X) → n ≡ length new → take n (new ++ drop (length new) old) ≡ new
whole n new old e = ap (λ n. take n (new ++ drop (length new) old)) e ∙ take-append_seam new (drop (length new) old)

-- A NEW TABLE

open_uses : (slot own start len : ℕ) → row_uses slot (open_segment own start len).row ≡ (if own == slot then 1 else 0)
open_uses slot own start len = omega (arith, sum_by-replicate (cell_uses slot) 32 cells.Empty)

-- another memory uses its own slot, if it has a byte
pub opened_uses : (segments : List Segment) (own start len slot : ℕ) (b : Bool) → (let next = if b then segments else segments ++ open_segment own start len ∷ [] in uses slot next ≤ uses slot segments + (if own == slot then 1 else 0))
opened_uses segments own start len slot b = ⊎_elim
    (λ (e : b ≡ true). subst P (sym e) (omega arith))
    (λ (e : b ≡ false). subst P (sym e) (omega (arith, sum_by_push (λ (s : Segment). row_uses slot s.row) segments (open_segment own start len), open_uses slot own start len)))
    (cases_Bool b)
  where
    P : Bool → Type 0
    P b = let next = if b then segments else segments ++ open_segment own start len ∷ [] in uses slot next ≤ uses slot segments + (if own == slot then 1 else 0)
