-- A window within the limits is a valid frame.
use Rattle.std.proofs.Common.{◌≡◌, ℕ, ◌<◌, ◌≤◌, ◌==◌, List, [], ◌∷◌, zero, suc, length, map, true, Option, Some, None, refl}
use Rattle.std.specs.List.{All, AllByRecursion, list_any}
use Rattle.std.specs.Prelude.{not}
use Rattle.std.proofs.lemmas.List.Elements.{All-append, All-filter, All-nil}
use Rattle.base.specs.Bounds.{sides_allowed, size_allowed}
use Rattle.base.specs.declared.shape.Family.{Family}
use Rattle.base.specs.declared.shape.Shape.{Shape}
use Rattle.frame.specs.Valid.{IsValid, has_contents}
use Rattle.frame.specs.Numbered.{NumberedFrame}
use Rattle.frame.specs.Units.{Unit}
use Rattle.frame.specs.declared.numbered.NumberedPass.{NumberedPass}
use Rattle.law_window.proofs.Good.{Whole, all_frames}
use Rattle.law_window.proofs.Imports.{Fit}
use Rattle.law_window.proofs.Joined.{imports_fit}
use Rattle.law_window.proofs.Each.{all_of, each}
use Rattle.law_window.proofs.Once.{window_once}
use Rattle.frame.proofs.OneByOne.{at_once}
use Rattle.law_window.proofs.Sources.{AreGiven, AreLeft}
use Rattle.law_window.specs.Flown.{Flown, with_import, with_imports}
use Rattle.law_window.specs.Sources.{given, Given, Left, Source, import_from, last_sources, left_units, next, sources_after}
use Rattle.law_window.specs.Small.{IsSmall}
use Rattle.law_window.specs.Together.{Flies}
use Rattle.law_window.specs.Window.{all_passes, all_units, others, own_exports, units_in, window}

-- SHAPES AND IMPORTS

-- what holds of the shapes of all units holds whatever the imports are
one_shaped : (P : Shape → Type 0) (us : List Unit) (x : ℕ) (i : Option (List ℕ)) → AllByRecursion (λ u. P u.shape) us → AllByRecursion (λ u. P u.shape) (with_import us x i)
one_shaped P [] x i all = all
one_shaped P (u ∷ us) zero i all = all
one_shaped P (u ∷ us) (suc x) i all = (all.0, one_shaped P us x i all.1)

each_shaped : (P : Shape → Type 0) (places : List (Option ℕ)) (imports : List (Option (List ℕ))) (us : List Unit) → AllByRecursion (λ u. P u.shape) us → AllByRecursion (λ u. P u.shape) (with_imports places imports us)
each_shaped P [] imports us all = all
each_shaped P (place ∷ places) [] us all = all
each_shaped P (None ∷ places) (i ∷ imports) us all = each_shaped P places imports us all
each_shaped P (Some x ∷ places) (i ∷ imports) us all = each_shaped P places imports (with_import us x i) (one_shaped P us x i all)

all_shaped : (P : Shape → Type 0) (queues : List Family) (sizes : List ℕ) → ((flown : Flown) → Flies queues sizes flown → All (λ u. P u.shape) flown.frame.units) → (frames : List Flown) (n : ℕ) (sources : List Source) → AllByRecursion (Flies queues sizes) frames → All (λ u. P u.shape) (all_units n sources frames)
all_shaped P queues sizes of [] n sources fly = All-nil (λ u. P u.shape)
all_shaped P queues sizes of (flown ∷ frames) n sources fly =
    All-append (λ u. P u.shape) (units_in sources flown) (all_units (next n flown) (sources_after n flown.places sources) frames)
    (all_of (λ u. P u.shape) (units_in sources flown) (each_shaped P flown.places (map import_from sources) flown.frame.units (each (λ u. P u.shape) flown.frame.units (of flown fly.0))))
    (all_shaped P queues sizes of frames (next n flown) (sources_after n flown.places sources) fly.1)

given_after : (n : ℕ) (sizes : List ℕ) (places : List (Option ℕ)) (sources : List Source) → AreGiven sizes sources → AreGiven sizes (sources_after n places sources)
given_after n sizes [] sources sized = sized
given_after n [] (place ∷ places) [] sized = tt
given_after n [] (place ∷ places) (source ∷ sources) sized = absurd sized
given_after n (size ∷ sizes) (place ∷ places) [] sized = absurd sized
given_after n (size ∷ sizes) (None ∷ places) (Given bytes ∷ sources) sized = (sized.0, given_after n sizes places sources sized.1)
given_after n (size ∷ sizes) (None ∷ places) (Left unit ∷ sources) sized = given_after n sizes places sources sized
given_after n (size ∷ sizes) (Some x ∷ places) (Given bytes ∷ sources) sized = given_after n sizes places sources sized.1
given_after n (size ∷ sizes) (Some x ∷ places) (Left unit ∷ sources) sized = given_after n sizes places sources sized

fitting : (queues : List Family) (sizes : List ℕ) (frames : List Flown) (n : ℕ) (sources : List Source) → AllByRecursion (Flies queues sizes) frames → AreGiven sizes sources → All Fit (all_units n sources frames)
fitting queues sizes [] n sources fly sized = All-nil Fit
fitting queues sizes (flown ∷ frames) n sources fly sized = All-append Fit (units_in sources flown) (all_units (next n flown) (sources_after n flown.places sources) frames) (all_of Fit (units_in sources flown) (imports_fit sizes flown.places sources flown.frame.units fly.0.placed sized (each Fit flown.frame.units fly.0.good.imports_fit))) (fitting queues sizes frames (next n flown) (sources_after n flown.places sources) fly.1 (given_after n sizes flown.places sources sized))

start_given : (persisted : List (List ℕ)) (sizes : List ℕ) → map length persisted ≡ sizes → AreGiven sizes (given persisted)
start_given [] [] is = tt
start_given [] (size ∷ sizes) is = absurd cc
start_given (bytes ∷ persisted) [] is = absurd cc
start_given (bytes ∷ persisted) (size ∷ sizes) is = (cc, start_given persisted sizes cc)

start_left : (W : NumberedFrame) (persisted : List (List ℕ)) (sizes : List ℕ) → map length persisted ≡ sizes → AreLeft W [] 0 sizes (given persisted)
start_left W [] [] is = tt
start_left W [] (size ∷ sizes) is = absurd cc
start_left W (bytes ∷ persisted) [] is = absurd cc
start_left W (bytes ∷ persisted) (size ∷ sizes) is = (cc, start_left W persisted sizes cc)

-- THE WINDOW

left_inside : (W : NumberedFrame) (earlier : List NumberedPass) (n : ℕ) (sizes : List ℕ) (sources : List Source) → AreLeft W earlier n sizes sources → AllByRecursion (λ x. x < n) (left_units sources)
left_inside W earlier n [] [] left = tt
left_inside W earlier n [] (source ∷ sources) left = absurd left
left_inside W earlier n (size ∷ sizes) [] left = absurd left
left_inside W earlier n (size ∷ sizes) (Given bytes ∷ sources) left = left_inside W earlier n sizes sources left.1
left_inside W earlier n (size ∷ sizes) (Left unit ∷ sources) left = (left.0, left_inside W earlier n sizes sources left.3)

left_full : (W : NumberedFrame) (earlier : List NumberedPass) (n : ℕ) (sizes : List ℕ) (sources : List Source) → AreLeft W earlier n sizes sources → AllByRecursion (λ x. has_contents W.units earlier x ≡ true) (left_units sources)
left_full W earlier n [] [] left = tt
left_full W earlier n [] (source ∷ sources) left = absurd left
left_full W earlier n (size ∷ sizes) [] left = absurd left
left_full W earlier n (size ∷ sizes) (Given bytes ∷ sources) left = left_full W earlier n sizes sources left.1
left_full W earlier n (size ∷ sizes) (Left unit ∷ sources) left = (left.2, left_full W earlier n sizes sources left.3)

module _ (queues : List Family) (sizes : List ℕ) (frames : List Flown) (persisted : List (List ℕ)) (fly : AllByRecursion (Flies queues sizes) frames) (is : map length persisted ≡ sizes) (some : 0 < length queues) where
  abbrev W : NumberedFrame
  W = window queues frames persisted

  abbrev last : List Source
  last = last_sources 0 (given persisted) frames

  pub whole : Whole W [] 0 sizes (given persisted) frames
  whole = all_frames W queues sizes frames fly refl some [] [] (given persisted) refl (start_left W persisted sizes is)

  -- what holds of the exports of all frames, and of what is left, holds of what the window exports
  exported : (P : ℕ → Type 0) → All P (own_exports 0 frames) → AllByRecursion P (left_units last) → All P W.exports
  exported P own left =
      All-append P (own_exports 0 frames) (others (own_exports 0 frames) (left_units last)) own
      (All-filter (λ unit. not (list_any (λ x. x == unit) (own_exports 0 frames))) P (left_units last) (all_of P (left_units last) left))

  pub good_window : length queues ≤ 4 → IsSmall W → IsValid W
  good_window few small = record {
    some_queue = some;
    few_queues = few;
    few_passes = small.passes;
    few_units = small.units;
    few_exports = small.exports;
    few_ops = small.ops;
    few_rects = small.rects;
    few_bytes = small.bytes;
    sides = all_shaped (λ shape. sides_allowed shape ≡ true) queues sizes (λ flown F. F.good.sides) frames 0 (given persisted) fly;
    sized = all_shaped (λ shape. size_allowed shape ≡ true) queues sizes (λ flown F. F.good.sized) frames 0 (given persisted) fly;
    imports_fit = fitting queues sizes frames 0 (given persisted) fly (start_given persisted sizes is);
    within = whole.within;
    passes_good = at_once W [] (all_passes 0 (given persisted) frames) whole.good;
    exports_within = exported (λ x. x < length W.units) whole.inside (left_inside W (all_passes 0 (given persisted) frames) (length W.units) sizes last whole.left);
    exports_there = exported (λ x. has_contents W.units W.passes x ≡ true) whole.full (left_full W (all_passes 0 (given persisted) frames) (length W.units) sizes last whole.left);
    exports_once = window_once queues sizes frames persisted fly;
  }
