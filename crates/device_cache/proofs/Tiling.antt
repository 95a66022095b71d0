-- The table stays in order.
use Rattle.std.proofs.Common.{◌≡◌, ℕ, ◌-◌, ◌<◌, ◌≤◌, ◌≢◌, Bool, true, leb, ltb, List, length, sym, ◌∙◌, ⊎_elim, subst, arith}
use Rattle.std.specs.Prelude.{if◌then◌else◌}
use Rattle.std.proofs.lemmas.List.{length-set, get_or-set_same, get_or-set_other}
use Rattle.std.proofs.lemmas.Bool.{cases_Bool, cases_eq, lt-ltb, ltb-true, and_parts, leb-true}
use Rattle.device_cache.specs.declared.part.Part.{Part}
use Rattle.device_cache.specs.declared.cell.Cell.{Cell}
use Rattle.device_cache.specs.declared.cell.Cell.TheVariants as cells
use Rattle.device_cache.specs.declared.row.Row.{Row}
use Rattle.device_cache.specs.declared.segment.Segment.{Segment}
use Rattle.device_cache.specs.declared.change.Change.{Change}
use Rattle.device_cache.specs.declared.change.Change.TheVariants as changes
use Rattle.device_cache.specs.Places.{line_by}
use Rattle.device_cache.specs.Internal.Rows.{changed, main_after, line_after, CellIn, ChangeIn, RowIn}
use Rattle.device_cache.specs.Places.{segment_at, place, row_at, cut_in}
use Rattle.device_cache.specs.Internal.Segments.{covers, Ascending, IsLaid, within}
use Rattle.device_cache.specs.Internal.Kept.{PartFits, CellFits, RowFits, ChangeFits, IsTiled}
use Rattle.device_cache.proofs.Placing.{place_is}

-- the last address of a segment
last_place : (segments : List Segment) → Ascending segments → (k : ℕ) → k < length segments → place segments ((segment_at segments k).end - 1) ≡ k
last_place segments A k lt = place_is segments k ((segment_at segments k).end - 1) (omega (arith, lt)) (λ j less. let r = A.rising j k less lt in omega (arith, r)) (λ _. let r = A.some k lt in omega (arith, r))

cell_in : (slots : List (List ℕ)) (cell : Cell) (x : ℕ) → CellFits slots cell x → CellIn (length slots) cell
cell_in slots cells.Empty x f = tt
cell_in slots (cells.Clean p) x f = f.slot
cell_in slots (cells.Dirty p) x f = f.slot

row_in : (slots : List (List ℕ)) (r : Row) (x : ℕ) → RowFits slots r x → RowIn (length slots) r
row_in slots r x f = record { lines = f.lines; main = f.main.slot; cells = λ g lt. cell_in slots (line_by r g) x (f.cells g lt) }

pub laid : (total : ℕ) (slots : List (List ℕ)) (segments : List Segment) → IsTiled total slots segments → IsLaid (length slots) segments
unfolding row_at
laid total slots segments T k lt =
    let x = (segment_at segments k).end - 1 in
    let at = last_place segments T.ascending k lt in
    let covered : covers segments x ≡ true = lt-ltb (place segments x) (length segments) (omega (arith, at, lt)) in
    let P : ℕ → Type 0 = λ n. RowIn (length slots) (segment_at segments n).row in
    subst P at (row_in slots (row_at segments x) x (T.fits x (ltb-true x total (sym (T.covered x) ∙ covered))))

-- segments with the same rows at the same addresses
pub same_tiled : (total : ℕ) (slots : List (List ℕ)) (old new : List Segment) → IsTiled total slots old → Ascending new → ((x : ℕ) → covers new x ≡ covers old x) → ((x : ℕ) → row_at new x ≡ row_at old x) → ((x : ℕ) → cut_in old x ≡ true → cut_in new x ≡ true) → IsTiled total slots new
same_tiled total slots old new T A covers rows kept = record {
  ascending = A;
  covered = λ x. covers x ∙ T.covered x;
  whole = kept total T.whole;
  fits = λ x lt. let P : Row → Type 0 = λ r. RowFits slots r x in subst P (sym (rows x)) (T.fits x lt);
}

-- a part that a change of some address brings is of a slot that is there
pub part_there : (slots : List (List ℕ)) (change : Change) (from to : ℕ) → ChangeFits slots change from to → from < to → ChangeIn (length slots) change
part_there slots (changes.Put p) from to f lt = (f from (omega arith) lt).slot
part_there slots changes.WriteBack from to f lt = tt
part_there slots changes.DropClean from to f lt = tt
part_there slots changes.Fill from to f lt = tt
part_there slots (changes.Junk p) from to f lt = (f from (omega arith) lt).slot

main_fits : (slots : List (List ℕ)) (from to x : ℕ) (change : Change) (main : Part) (cell : Cell) → ChangeFits slots change from to → from ≤ x → x < to → PartFits slots main x → CellFits slots cell x → PartFits slots (main_after change main cell) x
main_fits slots from to x (changes.Put p) main cell f low high m l = m
main_fits slots from to x changes.WriteBack main cells.Empty f low high m l = m
main_fits slots from to x changes.WriteBack main (cells.Clean p) f low high m l = m
main_fits slots from to x changes.WriteBack main (cells.Dirty p) f low high m l = l
main_fits slots from to x changes.DropClean main cell f low high m l = m
main_fits slots from to x changes.Fill main cell f low high m l = m
main_fits slots from to x (changes.Junk p) main cell f low high m l = f x low high

line_fits : (slots : List (List ℕ)) (from to x : ℕ) (change : Change) (main : Part) (cell : Cell) → ChangeFits slots change from to → from ≤ x → x < to → PartFits slots main x → CellFits slots cell x → CellFits slots (line_after change main cell) x
line_fits slots from to x (changes.Put p) main cell f low high m l = f x low high
line_fits slots from to x changes.WriteBack main cells.Empty f low high m l = tt
line_fits slots from to x changes.WriteBack main (cells.Clean p) f low high m l = l
line_fits slots from to x changes.WriteBack main (cells.Dirty p) f low high m l = l
line_fits slots from to x changes.DropClean main cells.Empty f low high m l = tt
line_fits slots from to x changes.DropClean main (cells.Clean p) f low high m l = tt
line_fits slots from to x changes.DropClean main (cells.Dirty p) f low high m l = l
line_fits slots from to x changes.Fill main cells.Empty f low high m l = m
line_fits slots from to x changes.Fill main (cells.Clean p) f low high m l = l
line_fits slots from to x changes.Fill main (cells.Dirty p) f low high m l = l
line_fits slots from to x (changes.Junk p) main cell f low high m l = l

-- the changed agent's lines, and those of the others
pub changed_here : (g : ℕ) (change : Change) (r : Row) → g < length r.lines → line_by (changed g change r) g ≡ line_after change r.main (line_by r g)
changed_here g change r lt = get_or-set_same r.lines g (line_after change r.main (line_by r g)) cells.Empty lt

pub changed_other : (g h : ℕ) (change : Change) (r : Row) → h ≢ g → line_by (changed g change r) h ≡ line_by r h
changed_other g h change r ne = get_or-set_other r.lines g h (line_after change r.main (line_by r g)) cells.Empty ne

changed_fits : (slots : List (List ℕ)) (from to x g : ℕ) (change : Change) (r : Row) → ChangeFits slots change from to → from ≤ x → x < to → g < 32 → RowFits slots r x → RowFits slots (changed g change r) x
changed_fits slots from to x g change r f low high known R = record {
  lines = length-set r.lines g (line_after change r.main (line_by r g)) ∙ R.lines;
  main = main_fits slots from to x change r.main (line_by r g) f low high R.main (R.cells g known);
  cells = λ h lt. let P : Cell → Type 0 = λ c. CellFits slots c x in ⊎_elim
      (λ (e : h ≡ g). let Q : ℕ → Type 0 = λ n. CellFits slots (line_by (changed g change r) n) x in subst Q (sym e) (subst P (sym (changed_here g change r (omega (arith, R.lines, known)))) (line_fits slots from to x change r.main (line_by r g) f low high R.main (R.cells g known))))
      (λ ne. subst P (sym (changed_other g h change r ne)) (R.cells h lt))
      (cases_eq h g);
}

-- segments of which those of a range are changed
pub changed_tiled : (total : ℕ) (slots : List (List ℕ)) (old new : List Segment) (from to g : ℕ) (change : Change) → g < 32 → ChangeFits slots change from to → IsTiled total slots old → Ascending new → ((x : ℕ) → covers new x ≡ covers old x) → ((x : ℕ) → x < total → row_at new x ≡ (if within from to x then changed g change (row_at old x) else row_at old x)) → cut_in new total ≡ true → IsTiled total slots new
changed_tiled total slots old new from to g change known f T A covers rows whole = record {
  ascending = A;
  covered = λ x. covers x ∙ T.covered x;
  whole = whole;
  fits = λ x lt.
      let P : Row → Type 0 = λ r. RowFits slots r x in
      let Q : Bool → Type 0 = λ b. RowFits slots (if b then changed g change (row_at old x) else row_at old x) x in
      subst P (sym (rows x lt)) (⊎_elim
      (λ (e : within from to x ≡ true). let p = and_parts (leb from x) (ltb x to) e in subst Q (sym e) (changed_fits slots from to x g change (row_at old x) f (leb-true from x p.0) (ltb-true x to p.1) known (T.fits x lt)))
      (λ e. subst Q (sym e) (T.fits x lt))
      (cases_Bool (within from to x)));
}
