-- A window exports no unit twice.
use Rattle.std.proofs.Common.{◌≡◌, ◌≢◌, ℕ, ◌+◌, ◌<◌, ◌≤◌, ◌==◌, not, true, false, List, [], ◌∷◌, ◌++◌, length, map, get_or, Option, Some, None, sym, ap, subst, ◌∙◌, eq-eqb, arith}
use Rattle.std.specs.List.{All, AllByRecursion, list_any}
use Rattle.std.proofs.lemmas.List.{get_or-map, length-map}
use Rattle.std.proofs.lemmas.List.Elements.{All-append, All-map, All-nil, filter_passes}
use Rattle.std.proofs.lemmas.List.Folds.{list_any_at}
use Rattle.std.proofs.lemmas.List.Kept.{AllPairs-cons, AllPairs-filter}
use Rattle.std.proofs.lemmas.Bool.{not-true}
use Rattle.base.specs.declared.shape.Family.{Family}
use Rattle.base.specs.declared.shape.Shape.{Shape}
use Rattle.frame.proofs.Once.{Apart, Differ, differ_both}
use Rattle.frame.specs.Valid.{shapes_in}
use Rattle.law_window.proofs.Each.{all_of}
use Rattle.law_window.specs.Flown.{Flown}
use Rattle.law_window.specs.Sources.{Source, Given, Left, given, last_sources, left_units, next, sources_after}
use Rattle.law_window.specs.Together.{Absent, ArePlaced, Flies}
use Rattle.law_window.specs.Window.{others, own_exports}

-- LISTS WHOSE ENTRIES DIFFER

differ_moved : (n : ℕ) (xs : List ℕ) → Differ xs → Differ (map (λ x. n + x) xs)
differ_moved n xs one = λ i j d less lt.
    let count = length-map xs (λ x. n + x) in
    let first = get_or-map (λ x. n + x) xs i d d (omega (arith, count, less, lt)) in
    let second = get_or-map (λ x. n + x) xs j d d (omega (arith, count, lt)) in
    λ same. one i j d less (omega (arith, count, lt)) (omega (arith, first, second, same))

-- EXPORTS OF DIFFERENT FRAMES

own_after : (frames : List Flown) (n : ℕ) → All (λ x. n ≤ x) (own_exports n frames)
own_after [] n = All-nil (λ x. n ≤ x)
own_after (flown ∷ frames) n =
    All-append (λ x. n ≤ x) (map (λ unit. n + unit) flown.frame.exports) (own_exports (next n flown) frames)
    (All-map (λ x. n ≤ x) (λ unit. n + unit) flown.frame.exports (λ k d lt. omega arith))
    (λ k d lt. let after = own_after frames (next n flown) k d lt in omega (arith, after))

own_differ : (queues : List Family) (sizes : List ℕ) (frames : List Flown) → AllByRecursion (Flies queues sizes) frames → (n : ℕ) → Differ (own_exports n frames)
own_differ queues sizes [] fly n = λ i j d less lt. absurd (omega (arith, lt))
own_differ queues sizes (flown ∷ frames) fly n =
    let rest = own_exports (next n flown) frames in
    differ_both (map (λ unit. n + unit) flown.frame.exports) rest
    (differ_moved n flown.frame.exports fly.0.good.exports_once)
    (own_differ queues sizes frames fly.1 (next n flown))
    (All-map (λ x. All (λ y. x ≢ y) rest) (λ unit. n + unit) flown.frame.exports (λ k d lt. λ j e less.
    let inside = fly.0.good.exports_within k d lt in
    let after = own_after frames (next n flown) j e less in
    λ same. omega (arith, inside, after, same)))

-- UNITS OF DIFFERENT NAMES

abbrev Before : ℕ → List Source → Type 0
Before n sources = AllByRecursion (λ x. x < n) (left_units sources)

abbrev IsNew : ℕ → List Source → Type 0
IsNew unit sources = AllByRecursion (λ x. unit ≢ x) (left_units sources)

abbrev AllNew : List ℕ → Type 0
AllNew [] = Unit {0}
AllNew (x ∷ xs) = AllByRecursion (λ y. x ≢ y) xs × AllNew xs

new_differ : (xs : List ℕ) → AllNew xs → Differ xs
new_differ [] new = λ i j d less lt. absurd (omega (arith, lt))
new_differ (x ∷ xs) new = AllPairs-cons (λ a b. a ≢ b) x xs (all_of (λ y. x ≢ y) xs new.0) (new_differ xs new.1)

before_more : (n m : ℕ) (xs : List ℕ) → AllByRecursion (λ x. x < n) xs → AllByRecursion (λ x. x < n + m) xs
before_more n m [] before = tt
before_more n m (x ∷ xs) before = (omega (arith, before.0), before_more n m xs before.1)

before_new : (n y : ℕ) (xs : List ℕ) → AllByRecursion (λ x. x < n) xs → AllByRecursion (λ x. n + y ≢ x) xs
before_new n y [] before = tt
before_new n y (x ∷ xs) before = (λ same. omega (arith, before.0, same), before_new n y xs before.1)

before_after : (n : ℕ) (shapes : List Shape) (sizes : List ℕ) (places : List (Option ℕ)) (sources : List Source) → ArePlaced sizes places shapes → Before n sources → Before (n + length shapes) (sources_after n places sources)
before_after n shapes [] [] sources placed before = before_more n (length shapes) (left_units sources) before
before_after n shapes [] (place ∷ places) sources placed before = absurd placed
before_after n shapes (size ∷ sizes) [] sources placed before = absurd placed
before_after n shapes (size ∷ sizes) (place ∷ places) [] placed before = tt
before_after n shapes (size ∷ sizes) (None ∷ places) (Given bytes ∷ sources) placed before = before_after n shapes sizes places sources placed before
before_after n shapes (size ∷ sizes) (None ∷ places) (Left unit ∷ sources) placed before = (omega (arith, before.0), before_after n shapes sizes places sources placed before.1)
before_after n shapes (size ∷ sizes) (Some x ∷ places) (Given bytes ∷ sources) placed before = (omega (arith, placed.0), before_after n shapes sizes places sources placed.3 before)
before_after n shapes (size ∷ sizes) (Some x ∷ places) (Left unit ∷ sources) placed before = (omega (arith, placed.0), before_after n shapes sizes places sources placed.3 before.1)

-- a unit of an earlier frame
still_new : (n unit : ℕ) (places : List (Option ℕ)) (sources : List Source) → unit < n → IsNew unit sources → IsNew unit (sources_after n places sources)
still_new n unit [] sources lt new = new
still_new n unit (place ∷ places) [] lt new = tt
still_new n unit (None ∷ places) (Given bytes ∷ sources) lt new = still_new n unit places sources lt new
still_new n unit (None ∷ places) (Left other ∷ sources) lt new = (new.0, still_new n unit places sources lt new.1)
still_new n unit (Some x ∷ places) (Given bytes ∷ sources) lt new = (λ same. omega (arith, lt, same), still_new n unit places sources lt new)
still_new n unit (Some x ∷ places) (Left other ∷ sources) lt new = (λ same. omega (arith, lt, same), still_new n unit places sources lt new.1)

-- a unit of this frame
new_here : (n x : ℕ) (places : List (Option ℕ)) (sources : List Source) → Absent x places → Before n sources → IsNew (n + x) (sources_after n places sources)
new_here n x [] sources absent before = before_new n x (left_units sources) before
new_here n x (place ∷ places) [] absent before = tt
new_here n x (None ∷ places) (Given bytes ∷ sources) absent before = new_here n x places sources absent before
new_here n x (None ∷ places) (Left unit ∷ sources) absent before = (λ same. omega (arith, before.0, same), new_here n x places sources absent before.1)
new_here n x (Some y ∷ places) (Given bytes ∷ sources) absent before = (λ same. absent.0 (omega (arith, same)), new_here n x places sources absent.1 before)
new_here n x (Some y ∷ places) (Left unit ∷ sources) absent before = (λ same. absent.0 (omega (arith, same)), new_here n x places sources absent.1 before.1)

new_after : (n : ℕ) (shapes : List Shape) (sizes : List ℕ) (places : List (Option ℕ)) (sources : List Source) → ArePlaced sizes places shapes → Before n sources → AllNew (left_units sources) → AllNew (left_units (sources_after n places sources))
new_after n shapes [] [] sources placed before new = new
new_after n shapes [] (place ∷ places) sources placed before new = absurd placed
new_after n shapes (size ∷ sizes) [] sources placed before new = absurd placed
new_after n shapes (size ∷ sizes) (place ∷ places) [] placed before new = tt
new_after n shapes (size ∷ sizes) (None ∷ places) (Given bytes ∷ sources) placed before new = new_after n shapes sizes places sources placed before new
new_after n shapes (size ∷ sizes) (None ∷ places) (Left unit ∷ sources) placed before new = (still_new n unit places sources before.0 new.0, new_after n shapes sizes places sources placed before.1 new.1)
new_after n shapes (size ∷ sizes) (Some x ∷ places) (Given bytes ∷ sources) placed before new = (new_here n x places sources placed.2 before, new_after n shapes sizes places sources placed.3 before new)
new_after n shapes (size ∷ sizes) (Some x ∷ places) (Left unit ∷ sources) placed before new = (new_here n x places sources placed.2 before.1, new_after n shapes sizes places sources placed.3 before.1 new.1)

all_new : (queues : List Family) (sizes : List ℕ) (frames : List Flown) → AllByRecursion (Flies queues sizes) frames → (n : ℕ) (sources : List Source) → Before n sources → AllNew (left_units sources) → AllNew (left_units (last_sources n sources frames))
all_new queues sizes [] fly n sources before new = new
all_new queues sizes (flown ∷ frames) fly n sources before new =
    let shapes = shapes_in flown.frame in
    let after = sources_after n flown.places sources in
    let count : n + length shapes ≡ next n flown = ap (λ k. n + k) (length-map flown.frame.units (λ u. u.shape)) in
    all_new queues sizes frames fly.1 (next n flown) after
    (subst (λ k. Before k after) count (before_after n shapes sizes flown.places sources fly.0.placed before))
    (new_after n shapes sizes flown.places sources fly.0.placed before new)

start_new : (persisted : List (List ℕ)) → AllNew (left_units (given persisted))
start_new [] = tt
start_new (bytes ∷ persisted) = start_new persisted

start_before : (n : ℕ) (persisted : List (List ℕ)) → Before n (given persisted)
start_before n [] = tt
start_before n (bytes ∷ persisted) = start_before n persisted

-- BOTH

no_clash : true ≡ false → ⊥
no_clash e = cc

others_apart : (own more : List ℕ) → Apart own (others own more)
others_apart own more = λ k d lt. λ j e less. λ same.
    let x = get_or own k d in
    let y = get_or (others own more) j e in
    let none : list_any (λ z. z == y) own ≡ false = not-true (list_any (λ z. z == y) own) (filter_passes (λ unit. not (list_any (λ z. z == unit) own)) more j e less) in
    no_clash (sym (list_any_at (λ z. z == y) own k d lt (eq-eqb x y same)) ∙ none)

pub window_once : (queues : List Family) (sizes : List ℕ) (frames : List Flown) (persisted : List (List ℕ)) → AllByRecursion (Flies queues sizes) frames → Differ (own_exports 0 frames ++ others (own_exports 0 frames) (left_units (last_sources 0 (given persisted) frames)))
window_once queues sizes frames persisted fly =
    let own = own_exports 0 frames in
    let more = left_units (last_sources 0 (given persisted) frames) in
    differ_both own (others own more) (own_differ queues sizes frames fly 0)
    (AllPairs-filter (λ x y. x ≢ y) (λ unit. not (list_any (λ z. z == unit) own)) more (new_differ more (all_new queues sizes frames fly 0 (given persisted) (start_before 0 persisted) (start_new persisted))))
    (others_apart own more)
