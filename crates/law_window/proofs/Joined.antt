-- What the join pass of a frame leaves: the persisted bytes in all persisting buffers.
use Rattle.std.proofs.Common.{◌≡◌, ℕ, ◌+◌, ◌-◌, ◌<◌, ◌++◌, List, [], ◌∷◌, length, map, take, drop, slice_set, true, Option, Some, None, refl, sym, ap, ap₂, subst, ◌∙◌, arith}
use Rattle.std.specs.List.{AllByRecursion}
use Rattle.std.proofs.lemmas.Bool.{eq-eqb}
use Rattle.std.proofs.lemmas.List.{get_or_append_left, drop_all, append-nil, length-map, take_all}
use Rattle.base.specs.Applied.{after_op, bytes_at, replaced}
use Rattle.base.specs.Shapes.{bytes_of, shape_at}
use Rattle.base.specs.declared.shape.Shape.{Shape}
use Rattle.base.specs.declared.shape.Shape.TheVariants.{Buffer}
use Rattle.frame.specs.Units.{Unit}
use Rattle.frame.specs.Uses.{import_fits}
use Rattle.frame_meaning.specs.Meaning.{after_ops, first_bytes}
use Rattle.law_window.proofs.Imports.{Fit, all_length, all_long, all_shapes, bytes_last, one_fits, same_shapes}
use Rattle.law_window.proofs.Moves.{at_middle, set_middle}
use Rattle.law_window.proofs.Sources.{AreFrom, AreGiven, bytes_from, from_given}
use Rattle.law_window.specs.Flown.{with_import, with_imports}
use Rattle.law_window.specs.Joins.{carries, copy_of}
use Rattle.law_window.specs.Sources.{Given, Left, Source, import_from}
use Rattle.law_window.specs.Together.{ArePlaced}

-- imports of the lengths of their buffers fit
given_fits : (shape : Shape) (size : ℕ) (bytes : List ℕ) → shape ≡ Buffer size → length bytes ≡ size → import_fits shape (Some bytes) ≡ true
given_fits shape size bytes is long = ap (λ s. import_fits s (Some bytes)) is ∙ eq-eqb (length bytes) size long

pub imports_fit : (sizes : List ℕ) (places : List (Option ℕ)) (sources : List Source) (us : List Unit) → ArePlaced sizes places (map (λ u. u.shape) us) → AreGiven sizes sources → AllByRecursion Fit us → AllByRecursion Fit (with_imports places (map import_from sources) us)
imports_fit [] [] [] us placed given fit = fit
imports_fit [] [] (source ∷ sources) us placed given fit = absurd given
imports_fit [] (place ∷ places) sources us placed given fit = absurd placed
imports_fit (size ∷ sizes) [] sources us placed given fit = absurd placed
imports_fit (size ∷ sizes) (place ∷ places) [] us placed given fit = absurd given
imports_fit (size ∷ sizes) (None ∷ places) (Given bytes ∷ sources) us placed given fit = imports_fit sizes places sources us placed given.1 fit
imports_fit (size ∷ sizes) (None ∷ places) (Left unit ∷ sources) us placed given fit = imports_fit sizes places sources us placed given fit
imports_fit (size ∷ sizes) (Some x ∷ places) (Given bytes ∷ sources) us placed given fit =
    imports_fit sizes places sources (with_import us x (Some bytes)) (subst (ArePlaced sizes places) (sym (same_shapes us x (Some bytes))) placed.3) given.1 (one_fits us x (Some bytes) fit (given_fits (shape_at (map (λ u. u.shape) us) x) size bytes placed.1 given.0))
imports_fit (size ∷ sizes) (Some x ∷ places) (Left unit ∷ sources) us placed given fit =
    imports_fit sizes places sources (with_import us x None) (subst (ArePlaced sizes places) (sym (same_shapes us x None)) placed.3) given (one_fits us x None fit refl)

-- a whole copy of as many bytes
whole_copy : (old bytes : List ℕ) (size : ℕ) → length bytes ≡ size → length old ≡ size → replaced old 0 size (take ((0 + size) - 0) (drop 0 bytes)) ≡ bytes
whole_copy old bytes size long is =
    let e : (0 + size) - 0 ≡ size = omega arith in
    let front : take size bytes ≡ bytes = take_all size bytes (omega arith) in
    let none : drop (0 + size) old ≡ [] = drop_all (0 + size) old (omega arith) in
    rw (e, front, none) (append-nil bytes)

module _ (shapes-before shapes shapes-after : List Shape) (before after : List (List ℕ)) (same : length shapes-before ≡ length before) where
  abbrev every : List Shape
  every = shapes-before ++ (shapes ++ shapes-after)

  one_copy : (bytes : List (List ℕ)) (unit x size : ℕ) → unit < length before → length (bytes_at before unit) ≡ size → x < length bytes → length (bytes_at bytes x) ≡ size → after_op every (before ++ (bytes ++ after)) (copy_of (record { from = unit; to = length before + x; size = size })) ≡ before ++ (slice_set bytes x (bytes_at before unit) ++ after)
  one_copy bytes unit x size lt long inside is =
      let all = before ++ (bytes ++ after) in
      let source : bytes_at all unit ≡ bytes_at before unit = get_or_append_left before (bytes ++ after) [] unit lt in
      let old : bytes_at all (length before + x) ≡ bytes_at bytes x = at_middle before bytes after x [] inside in
      ap₂ (λ o s. slice_set all (length before + x) (replaced o 0 size (take ((0 + size) - 0) (drop 0 s)))) old source
      ∙ ap (slice_set all (length before + x)) (whole_copy (bytes_at bytes x) (bytes_at before unit) size long is)
      ∙ set_middle before bytes after x (bytes_at before unit) inside

  pub joined : (sizes : List ℕ) (places : List (Option ℕ)) (sources : List Source) (us : List Unit) → map (λ u. u.shape) us ≡ shapes → ArePlaced sizes places shapes → AreFrom before sizes sources → AllByRecursion Fit us → after_ops every (before ++ (map first_bytes (with_imports places (map import_from sources) us) ++ after)) (map copy_of (carries (length before) shapes places sources)) ≡ before ++ (map first_bytes (with_imports places (map (λ bytes. Some bytes) (map (bytes_from before) sources)) us) ++ after)
  joined [] [] sources us is placed from fit = refl
  joined [] (place ∷ places) sources us is placed from fit = absurd placed
  joined (size ∷ sizes) [] sources us is placed from fit = absurd placed
  joined (size ∷ sizes) (place ∷ places) [] us is placed from fit = absurd from
  joined (size ∷ sizes) (None ∷ places) (Given bytes ∷ sources) us is placed from fit = joined sizes places sources us is placed from.1 fit
  joined (size ∷ sizes) (None ∷ places) (Left unit ∷ sources) us is placed from fit = joined sizes places sources us is placed from.2 fit
  joined (size ∷ sizes) (Some x ∷ places) (Given bytes ∷ sources) us is placed from fit =
      joined sizes places sources (with_import us x (Some bytes)) (same_shapes us x (Some bytes) ∙ is) placed.3 from.1 (one_fits us x (Some bytes) fit (given_fits (shape_at (map (λ u. u.shape) us) x) size bytes (ap (λ s. shape_at s x) is ∙ placed.1) from.0))
  joined (size ∷ sizes) (Some x ∷ places) (Left unit ∷ sources) us is placed from fit =
      let bare = with_import us x None in
      let begun = with_imports places (map import_from sources) bare in
      let rest = map copy_of (carries (length before) shapes places sources) in
      let bare_fit = one_fits us x None fit refl in
      let shaped : map (λ u. u.shape) bare ≡ shapes = same_shapes us x None ∙ is in
      let fitting = imports_fit sizes places sources bare (subst (ArePlaced sizes places) (sym shaped) placed.3) (from_given before sizes sources from.2) bare_fit in
      let count : length begun ≡ length shapes = all_length places (map import_from sources) bare ∙ sym (length-map bare (λ u. u.shape)) ∙ ap length shaped in
      let inside : x < length begun = subst (λ n. x < n) (sym count) placed.0 in
      let sized : bytes_of (shape_at shapes x) ≡ size = ap bytes_of placed.1 in
      let old : length (bytes_at (map first_bytes begun) x) ≡ size = all_long begun fitting x inside ∙ ap (λ s. bytes_of (shape_at s x)) (all_shapes places (map import_from sources) bare ∙ shaped) ∙ sized in
      let within : x < length (map first_bytes begun) = subst (λ n. x < n) (sym (length-map begun first_bytes)) inside in
      ap (λ n. after_ops every (after_op every (before ++ (map first_bytes begun ++ after)) (copy_of (record { from = unit; to = length before + x; size = n }))) rest) sized
      ∙ ap (λ b. after_ops every b rest) (one_copy (map first_bytes begun) unit x size from.0 from.1 within old)
      ∙ ap (λ b. after_ops every (before ++ (b ++ after)) rest) (bytes_last places (map import_from sources) us x None (bytes_at before unit) placed.2)
      ∙ joined sizes places sources (with_import us x (Some (bytes_at before unit))) (same_shapes us x (Some (bytes_at before unit)) ∙ is) placed.3 from.2 (one_fits us x (Some (bytes_at before unit)) fit (given_fits (shape_at (map (λ u. u.shape) us) x) size (bytes_at before unit) (ap (λ s. shape_at s x) is ∙ placed.1) from.1))
