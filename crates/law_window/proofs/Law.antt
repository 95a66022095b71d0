-- A window does to all units of its frames what the frames do one after another.
use Rattle.std.proofs.Common.{◌≡◌, ℕ, ◌+◌, ◌<◌, ◌++◌, List, [], ◌∷◌, length, map, get_or, true, Option, Some, None, refl, sym, ap, ap₂, subst, ◌∙◌, append_assoc}
use Rattle.std.specs.List.{All, AllByRecursion}
use Rattle.std.proofs.lemmas.List.{length-append, length-map, map-append}
use Rattle.base.specs.Operands.{operands_of}
use Rattle.base.specs.Shapes.{bytes_of, shape_at}
use Rattle.base.specs.declared.shape.Family.{Family}
use Rattle.base.specs.declared.shape.Shape.{Shape}
use Rattle.frame.specs.Valid.{IsValid, is_import, shapes_in}
use Rattle.frame.specs.Numbered.{NumberedFrame}
use Rattle.frame.specs.Units.{Unit}
use Rattle.frame.specs.declared.numbered.NumberedPass.{NumberedPass}
use Rattle.frame_meaning.specs.Meaning.{after_ops, after_passes, all_bytes, first_bytes}
use Rattle.frame_meaning.specs.Internal.Sizes.{AreSized, IsRunnable}
use Rattle.law_window.proofs.Imports.{Fit, all_length, all_long, all_shapes, import_last, is_imported, same_shapes}
use Rattle.law_window.proofs.Joined.{imports_fit, joined}
use Rattle.law_window.proofs.Moves.{moved_passes}
use Rattle.law_window.proofs.Each.{each}
use Rattle.law_window.proofs.Sized.{passes_sized}
use Rattle.law_window.proofs.Sources.{AllPlaced, AreFrom, as_given, bytes_from, given_from, given_imports, start_from, start_held}
use Rattle.law_window.proofs.Steps.{from_after, kept_is}
use Rattle.law_window.specs.Flown.{Flown, holding, with_import, with_imports}
use Rattle.law_window.specs.Persisted.{flown_bytes, persisted_by}
use Rattle.law_window.specs.Joins.{Carry, carries, copy_of, joins}
use Rattle.law_window.specs.Moved.{moved}
use Rattle.law_window.specs.Sources.{given, Given, Left, Source, import_from, next, sources_after}
use Rattle.law_window.specs.Together.{ArePlaced, Flies}
use Rattle.law_window.specs.Window.{all_passes, all_units, units_in, window}

-- PASSES ONE AFTER ANOTHER

passes_on : (shapes : List Shape) (bytes : List (List ℕ)) (ps qs : List NumberedPass) → after_passes shapes bytes (ps ++ qs) ≡ after_passes shapes (after_passes shapes bytes ps) qs
passes_on shapes bytes [] qs = refl
passes_on shapes bytes (p ∷ ps) qs = passes_on shapes (after_ops shapes bytes p.ops) ps qs

joins_run : (shapes : List Shape) (bytes : List (List ℕ)) (all : List Carry) → after_passes shapes bytes (joins all) ≡ after_ops shapes bytes (map copy_of all)
joins_run shapes bytes [] = refl
joins_run shapes bytes (carry ∷ all) = refl

-- ONE FRAME

pub runnable : (frame : NumberedFrame) → IsValid frame → All (λ pass. All (IsRunnable (shapes_in frame)) pass.ops) frame.passes
runnable frame G = λ p d lt. λ k e less.
    let good = (G.passes_good p d lt).ops_good k e less in
    record {
      operands = subst (λ n. All (λ unit. unit < n) (operands_of (get_or (get_or frame.passes p d).ops k e))) (sym (length-map frame.units (λ u. u.shape))) ((G.within p d lt).ops k e less);
      fitting = good.fitting;
      not_in_place = good.not_in_place;
    }

pub operands_inside : (frame : NumberedFrame) → IsValid frame → All (λ pass. All (λ op. All (λ x. x < length (shapes_in frame)) (operands_of op)) pass.ops) frame.passes
operands_inside frame G = λ p d lt. λ k e less. (runnable frame G p d lt k e less).operands

-- the persisted bytes are imports
pub held_imported : (before : List (List ℕ)) (shapes : List Shape) (sizes : List ℕ) (places : List (Option ℕ)) (sources : List Source) (us : List Unit) → map (λ u. u.shape) us ≡ shapes → ArePlaced sizes places shapes → AreFrom before sizes sources → AllPlaced (λ x. is_import (with_imports places (map (λ bytes. Some bytes) (map (bytes_from before) sources)) us) x ≡ true) places
held_imported before shapes [] [] sources us is placed from = tt
held_imported before shapes [] (place ∷ places) sources us is placed from = absurd placed
held_imported before shapes (size ∷ sizes) [] sources us is placed from = absurd placed
held_imported before shapes (size ∷ sizes) (place ∷ places) [] us is placed from = absurd from
held_imported before shapes (size ∷ sizes) (None ∷ places) (Given bytes ∷ sources) us is placed from = held_imported before shapes sizes places sources us is placed from.1
held_imported before shapes (size ∷ sizes) (None ∷ places) (Left unit ∷ sources) us is placed from = held_imported before shapes sizes places sources us is placed from.2
held_imported before shapes (size ∷ sizes) (Some x ∷ places) (source ∷ sources) us is placed from =
    let bytes = bytes_from before source in
    let imports = map (λ b. Some b) (map (bytes_from before) sources) in
    let all = with_imports places imports us in
    let count : length all ≡ length shapes = all_length places imports us ∙ sym (length-map us (λ u. u.shape)) ∙ ap length is in (
      ap (λ v. is_import v x) (import_last places imports us x (Some bytes) placed.2) ∙ is_imported all x bytes (subst (λ n. x < n) (sym count) placed.0),
      held_imported before shapes sizes places sources (with_import us x (Some bytes)) (same_shapes us x (Some bytes) ∙ is) placed.3 (rest source from),
    )
  where
    rest : (source : Source) → AreFrom before (size ∷ sizes) (source ∷ sources) → AreFrom before sizes sources
    rest (Given given) from = from.1
    rest (Left unit) from = from.2

module _ (queues : List Family) (sizes : List ℕ) (flown : Flown) (F : Flies queues sizes flown) (before : List (List ℕ)) (sources : List Source) (from : AreFrom before sizes sources) where
  abbrev shapes : List Shape
  shapes = shapes_in flown.frame

  abbrev persisted : List (List ℕ)
  persisted = map (bytes_from before) sources

  abbrev ran : NumberedFrame
  ran = holding persisted flown

  abbrev begun : List (List ℕ)
  begun = map first_bytes ran.units

  pub ran_shapes : shapes_in ran ≡ shapes
  ran_shapes = all_shapes flown.places (map (λ b. Some b) persisted) flown.frame.units

  pub ran_fits : AllByRecursion Fit ran.units
  ran_fits = subst (λ i. AllByRecursion Fit (with_imports flown.places i flown.frame.units)) (given_imports before sources) (imports_fit sizes flown.places (map (as_given before) sources) flown.frame.units F.placed (given_from before sizes sources from) (each Fit flown.frame.units F.good.imports_fit))

  begun_count : length begun ≡ length shapes
  begun_count = length-map ran.units first_bytes ∙ all_length flown.places (map (λ b. Some b) persisted) flown.frame.units ∙ sym (length-map flown.frame.units (λ u. u.shape))

  begun_sized : AreSized shapes begun
  begun_sized = record {
    count = begun_count;
    sized = λ unit lt. subst (λ s. length (get_or begun unit []) ≡ bytes_of (shape_at s unit)) ran_shapes (all_long ran.units ran_fits unit (subst (λ n. unit < n) (sym (all_length flown.places (map (λ b. Some b) persisted) flown.frame.units ∙ sym (length-map flown.frame.units (λ u. u.shape)))) lt));
  }

  pub bytes_are : after_passes shapes begun flown.frame.passes ≡ all_bytes ran
  bytes_are = ap (λ s. after_passes s begun flown.frame.passes) (sym ran_shapes)

  pub bytes_sized : AreSized shapes (all_bytes ran)
  bytes_sized = subst (AreSized shapes) bytes_are (passes_sized shapes begun flown.frame.passes begun_sized (runnable flown.frame F.good))

  -- the frame's part of a window
  pub one_frame : (shapes-before shapes-after : List Shape) (after : List (List ℕ)) (qs : List NumberedPass) → length shapes-before ≡ length before → after_passes (shapes-before ++ (shapes ++ shapes-after)) (before ++ (map first_bytes (units_in sources flown) ++ after)) ((joins (carries (length before) shapes flown.places sources) ++ map (moved (length before)) flown.frame.passes) ++ qs) ≡ after_passes (shapes-before ++ (shapes ++ shapes-after)) (before ++ (all_bytes ran ++ after)) qs
  one_frame shapes-before shapes-after after qs same =
      let every = shapes-before ++ (shapes ++ shapes-after) in
      let all = carries (length before) shapes flown.places sources in
      let start = before ++ (map first_bytes (units_in sources flown) ++ after) in
      let own = map (moved (length before)) flown.frame.passes in
      let join : after_passes every start (joins all) ≡ before ++ (begun ++ after) = joins_run every start all ∙ joined shapes-before shapes shapes-after before after same sizes flown.places sources flown.frame.units refl F.placed from (each Fit flown.frame.units F.good.imports_fit) in
      let run : after_passes every (before ++ (begun ++ after)) own ≡ before ++ (all_bytes ran ++ after) = moved_passes shapes-before shapes shapes-after before after same begun flown.frame.passes begun_count (operands_inside flown.frame F.good) ∙ ap (λ b. before ++ (b ++ after)) bytes_are in
      passes_on every start (joins all ++ own) qs
      ∙ ap (λ b. after_passes every b qs) (passes_on every start (joins all) own ∙ ap (λ b. after_passes every b own) join ∙ run)

-- ALL FRAMES

law : (queues : List Family) (sizes : List ℕ) (frames : List Flown) → AllByRecursion (Flies queues sizes) frames → (shapes-before : List Shape) (before : List (List ℕ)) (sources : List Source) → length shapes-before ≡ length before → AreFrom before sizes sources → after_passes (shapes-before ++ map (λ u. u.shape) (all_units (length before) sources frames)) (before ++ map first_bytes (all_units (length before) sources frames)) (all_passes (length before) sources frames) ≡ before ++ flown_bytes frames (map (bytes_from before) sources)
law queues sizes [] fly shapes-before before sources same from = refl
law queues sizes (flown ∷ frames) fly shapes-before before sources same from =
    let n = length before in
    let persisted = map (bytes_from before) sources in
    let bytes = all_bytes (holding persisted flown) in
    let shapes = shapes_in flown.frame in
    let after = sources_after n flown.places sources in
    let rest = all_units (next n flown) after frames in
    let begins = units_in sources flown in
    let qs = all_passes (next n flown) after frames in
    let S = bytes_sized queues sizes flown fly.0 before sources from in
    let count : length bytes ≡ length flown.frame.units = S.count ∙ length-map flown.frame.units (λ u. u.shape) in
    let sum : length (before ++ bytes) ≡ n + length flown.frame.units = length-append before bytes ∙ ap (λ k. n + k) count in
    let shapes-sum : length (shapes-before ++ shapes) ≡ length (before ++ bytes) = length-append shapes-before shapes ∙ ap₂ (λ a b. a + b) same (sym S.count) ∙ sym (length-append before bytes) in
    let every : map (λ u. u.shape) (begins ++ rest) ≡ shapes ++ map (λ u. u.shape) rest = map-append (λ u. u.shape) begins rest ∙ ap (λ s. s ++ map (λ u. u.shape) rest) (all_shapes flown.places (map import_from sources) flown.frame.units) in
    let so_far = law queues sizes frames fly.1 (shapes-before ++ shapes) (before ++ bytes) after shapes-sum (from_after before bytes shapes sizes flown.places sources fly.0.placed from S) in
    let moved_on : after_passes ((shapes-before ++ shapes) ++ map (λ u. u.shape) rest) ((before ++ bytes) ++ map first_bytes rest) qs ≡ (before ++ bytes) ++ flown_bytes frames (map (bytes_from (before ++ bytes)) after) =
    subst (λ m. after_passes ((shapes-before ++ shapes) ++ map (λ u. u.shape) (all_units m after frames)) ((before ++ bytes) ++ map first_bytes (all_units m after frames)) (all_passes m after frames) ≡ (before ++ bytes) ++ flown_bytes frames (map (bytes_from (before ++ bytes)) after)) sum so_far in
    let next_held : map (bytes_from (before ++ bytes)) after ≡ persisted_by flown persisted = sym (kept_is before bytes (holding persisted flown) refl shapes sizes flown.places sources fly.0.placed from (held_imported before shapes sizes flown.places sources flown.frame.units refl fly.0.placed from)) in
    ap₂ (λ s b. after_passes (shapes-before ++ s) (before ++ b) (all_passes n sources (flown ∷ frames))) every (map-append first_bytes begins rest)
    ∙ one_frame queues sizes flown fly.0 before sources from shapes-before (map (λ u. u.shape) rest) (map first_bytes rest) qs same
    ∙ ap₂ (λ s b. after_passes s b qs) (sym (append_assoc shapes-before shapes (map (λ u. u.shape) rest))) (sym (append_assoc before bytes (map first_bytes rest)))
    ∙ moved_on
    ∙ append_assoc before bytes (flown_bytes frames (map (bytes_from (before ++ bytes)) after))
    ∙ ap (λ h. before ++ (bytes ++ flown_bytes frames h)) next_held

pub window_bytes : (queues : List Family) (sizes : List ℕ) (frames : List Flown) (persisted : List (List ℕ)) → AllByRecursion (Flies queues sizes) frames → map length persisted ≡ sizes → all_bytes (window queues frames persisted) ≡ flown_bytes frames persisted
window_bytes queues sizes frames persisted fly is = law queues sizes frames fly [] [] (given persisted) refl (start_from persisted sizes is) ∙ ap (flown_bytes frames) (start_held persisted)
