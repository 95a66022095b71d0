-- Which units of a window have contents.
use Rattle.std.proofs.Common.{◌≡◌, ◌≢◌, ℕ, zero, suc, ◌+◌, ◌<◌, ◌≤◌, ◌==◌, ◌⊎◌, inl, inr, List, [], ◌∷◌, ◌++◌, length, map, true, Option, Some, None, refl, sym, ap, subst, ◌∙◌, eq-eqb, arith, ⊎_elim}
use Rattle.std.specs.List.{AllByRecursion}
use Rattle.std.proofs.lemmas.Bool.Decides.{eqb_tells}
use Rattle.std.proofs.lemmas.Bool.{or_left, or_right}
use Rattle.base.specs.Shapes.{bytes_of, shape_at}
use Rattle.base.specs.declared.shape.Shape.{Shape}
use Rattle.base.specs.declared.shape.Shape.TheVariants.{Buffer}
use Rattle.frame.specs.Valid.{is_import, shapes_in}
use Rattle.frame.specs.Numbered.{NumberedFrame}
use Rattle.frame.specs.Units.{Unit}
use Rattle.frame.specs.declared.numbered.NumberedPass.{NumberedPass}
use Rattle.law_window.proofs.GoodJoin.{Different, IsCarry, carried}
use Rattle.law_window.proofs.Imports.{all_length, import_last, is_as_before, is_imported, same_length}
use Rattle.law_window.proofs.Sources.{AllPlaced, AreLeft}
use Rattle.law_window.specs.Flown.{with_import, with_imports}
use Rattle.law_window.specs.Joins.{Carry, carries}
use Rattle.law_window.specs.Sources.{Given, Left, Source, import_from}
use Rattle.law_window.specs.Together.{Absent, ArePlaced}

-- A UNIT AMONG OTHERS

pub import_after : (before us : List Unit) (x : ℕ) → is_import (before ++ us) (length before + x) ≡ is_import us x
import_after [] us x = let e : 0 + x ≡ x = omega arith in ap (is_import us) e
import_after (u ∷ before) us x = let e : suc (length before) + x ≡ suc (length before + x) = omega arith in ap (is_import (u ∷ (before ++ us))) e ∙ import_after before us x

pub import_first : (us after : List Unit) (x : ℕ) → x < length us → is_import (us ++ after) x ≡ is_import us x
import_first [] after x lt = absurd (omega arith)
import_first (u ∷ us) after zero lt = refl
import_first (u ∷ us) after (suc x) lt = import_first us after x (omega arith)

pub import_inside : (us : List Unit) (x : ℕ) → is_import us x ≡ true → x < length us
import_inside [] x e = absurd cc
import_inside (u ∷ us) zero e = omega arith
import_inside (u ∷ us) (suc x) e = let lt : x < length us = import_inside us x e in omega arith

-- IMPORTS AND COPIES

pub import_kept : (us : List Unit) (x y : ℕ) (b : List ℕ) → is_import us y ≡ true → is_import (with_import us x (Some b)) y ≡ true
import_kept us x y b e = ⊎_elim (λ h. subst (λ z. is_import (with_import us z (Some b)) y ≡ true) h.1 (is_imported us y b (import_inside us y e))) (λ h. is_as_before us x y (Some b) (λ same. h.1 (sym same)) ∙ e) (eqb_tells y x)

-- an import of a frame is an import of the window, or is copied to
pub import_or_copy : (n : ℕ) (shapes : List Shape) (places : List (Option ℕ)) (sources : List Source) (us : List Unit) (y : ℕ) → is_import us y ≡ true → (is_import (with_imports places (map import_from sources) us) y ≡ true) ⊎ (carried (n + y) (carries n shapes places sources) ≡ true)
import_or_copy n shapes [] sources us y e = inl e
import_or_copy n shapes (place ∷ places) [] us y e = inl e
import_or_copy n shapes (None ∷ places) (source ∷ sources) us y e = import_or_copy n shapes places sources us y e
import_or_copy n shapes (Some x ∷ places) (Given b ∷ sources) us y e = import_or_copy n shapes places sources (with_import us x (Some b)) y (import_kept us x y b e)
import_or_copy n shapes (Some x ∷ places) (Left unit ∷ sources) us y e =
    ⊎_elim (λ h. inr (or_left (n + x == n + y) (carried (n + y) (carries n shapes places sources)) (eq-eqb (n + x) (n + y) (ap (λ k. n + k) (sym h.1)))))
    (λ h. ⊎_elim (λ i. inl i) (λ c. inr (or_right (n + x == n + y) (carried (n + y) (carries n shapes places sources)) c)) (import_or_copy n shapes places sources (with_import us x None) y (is_as_before us x y None (λ same. h.1 (sym same)) ∙ e)))
    (eqb_tells y x)

all_placed : (P Q : ℕ → Type 0) (places : List (Option ℕ)) → ((x : ℕ) → P x → Q x) → AllPlaced P places → AllPlaced Q places
all_placed P Q [] so all = tt
all_placed P Q (None ∷ places) so all = all_placed P Q places so all
all_placed P Q (Some x ∷ places) so all = (so x all.0, all_placed P Q places so all.1)

-- a persisting buffer is an import of the window, or is copied to
abbrev pub IsInitialized : ℕ → List Unit → List Carry → ℕ → Type 0
IsInitialized n us all y = (is_import us y ≡ true) ⊎ (carried (n + y) all ≡ true)

pub placed_initialized : (W : NumberedFrame) (earlier : List NumberedPass) (n : ℕ) (shapes : List Shape) (sizes : List ℕ) (places : List (Option ℕ)) (sources : List Source) (us : List Unit) → length us ≡ length shapes → ArePlaced sizes places shapes → AreLeft W earlier n sizes sources → AllPlaced (IsInitialized n (with_imports places (map import_from sources) us) (carries n shapes places sources)) places
placed_initialized W earlier n shapes [] [] sources us is placed left = tt
placed_initialized W earlier n shapes [] (place ∷ places) sources us is placed left = absurd placed
placed_initialized W earlier n shapes (size ∷ sizes) [] sources us is placed left = absurd placed
placed_initialized W earlier n shapes (size ∷ sizes) (place ∷ places) [] us is placed left = absurd left
placed_initialized W earlier n shapes (size ∷ sizes) (None ∷ places) (Given b ∷ sources) us is placed left = placed_initialized W earlier n shapes sizes places sources us is placed left.1
placed_initialized W earlier n shapes (size ∷ sizes) (None ∷ places) (Left unit ∷ sources) us is placed left = placed_initialized W earlier n shapes sizes places sources us is placed left.3
placed_initialized W earlier n shapes (size ∷ sizes) (Some x ∷ places) (Given b ∷ sources) us is placed left =
    let all = with_imports places (map import_from sources) us in
    let count : length all ≡ length shapes = all_length places (map import_from sources) us ∙ is in (
      inl (ap (λ v. is_import v x) (import_last places (map import_from sources) us x (Some b) placed.2) ∙ is_imported all x b (subst (λ k. x < k) (sym count) placed.0)),
      placed_initialized W earlier n shapes sizes places sources (with_import us x (Some b)) (same_length us x (Some b) ∙ is) placed.3 left.1,
    )
placed_initialized W earlier n shapes (size ∷ sizes) (Some x ∷ places) (Left unit ∷ sources) us is placed left =
    let rest = carries n shapes places sources in
    let all = with_imports places (map import_from sources) (with_import us x None) in (
      inr (or_left (n + x == n + x) (carried (n + x) rest) (eq-eqb (n + x) (n + x) refl)),
      all_placed (IsInitialized n all rest) (IsInitialized n all (record { from = unit; to = n + x; size = bytes_of (shape_at shapes x) } ∷ rest)) places (λ y initialized. ⊎_elim (λ i. inl i) (λ c. inr (or_right (n + x == n + y) (carried (n + y) rest) c)) initialized)
          (placed_initialized W earlier n shapes sizes places sources (with_import us x None) (same_length us x None ∙ is) placed.3 left.3),
    )

-- THE COPIES ARE THOSE OF A JOIN PASS

module _ (W : NumberedFrame) (earlier : List NumberedPass) (n : ℕ) (shapes : List Shape) (at : (x : ℕ) → x < length shapes → shape_at (shapes_in W) (n + x) ≡ shape_at shapes x) (some : (x : ℕ) → x < length shapes → 1 ≤ bytes_of (shape_at shapes x)) where
  pub all_carries : (sizes : List ℕ) (places : List (Option ℕ)) (sources : List Source) → ArePlaced sizes places shapes → AreLeft W earlier n sizes sources → AllByRecursion (IsCarry W earlier n) (carries n shapes places sources)
  all_carries [] [] sources placed left = tt
  all_carries [] (place ∷ places) sources placed left = absurd placed
  all_carries (size ∷ sizes) [] sources placed left = absurd placed
  all_carries (size ∷ sizes) (place ∷ places) [] placed left = absurd left
  all_carries (size ∷ sizes) (None ∷ places) (Given b ∷ sources) placed left = all_carries sizes places sources placed left.1
  all_carries (size ∷ sizes) (None ∷ places) (Left unit ∷ sources) placed left = all_carries sizes places sources placed left.3
  all_carries (size ∷ sizes) (Some x ∷ places) (Given b ∷ sources) placed left = all_carries sizes places sources placed.3 left.1
  all_carries (size ∷ sizes) (Some x ∷ places) (Left unit ∷ sources) placed left =
      let sized : bytes_of (shape_at shapes x) ≡ size = ap bytes_of placed.1 in (
        record {
          low = left.0;
          high = omega arith;
          there = left.2;
          from_shape = left.1 ∙ ap (λ k. Buffer k) (sym sized);
          to_shape = at x placed.0 ∙ placed.1 ∙ ap (λ k. Buffer k) (sym sized);
          some = some x placed.0;
        },
        all_carries sizes places sources placed.3 left.3,
      )

  absent_copy : (places : List (Option ℕ)) (sources : List Source) (x : ℕ) → Absent x places → AllByRecursion (λ carry. n + x ≢ carry.to) (carries n shapes places sources)
  absent_copy [] sources x absent = tt
  absent_copy (place ∷ places) [] x absent = tt
  absent_copy (None ∷ places) (source ∷ sources) x absent = absent_copy places sources x absent
  absent_copy (Some y ∷ places) (Given b ∷ sources) x absent = absent_copy places sources x absent.1
  absent_copy (Some y ∷ places) (Left unit ∷ sources) x absent = (λ e. absent.0 (omega (arith, e)), absent_copy places sources x absent.1)

  pub carries_differ : (sizes : List ℕ) (places : List (Option ℕ)) (sources : List Source) → ArePlaced sizes places shapes → Different (carries n shapes places sources)
  carries_differ [] [] sources placed = tt
  carries_differ [] (place ∷ places) sources placed = absurd placed
  carries_differ (size ∷ sizes) [] sources placed = absurd placed
  carries_differ (size ∷ sizes) (place ∷ places) [] placed = tt
  carries_differ (size ∷ sizes) (None ∷ places) (source ∷ sources) placed = carries_differ sizes places sources placed
  carries_differ (size ∷ sizes) (Some x ∷ places) (Given b ∷ sources) placed = carries_differ sizes places sources placed.3
  carries_differ (size ∷ sizes) (Some x ∷ places) (Left unit ∷ sources) placed = (absent_copy places sources x placed.2, carries_differ sizes places sources placed.3)
