-- The exports of a declared window have no clash.
use Rattle.std.proofs.Common.{◌≡◌, ℕ, suc, ◌<◌, ◌≤◌, ◌&&◌, ◌||◌, ◌++◌, List, [], ◌∷◌, length, map, not, Bool, true, false, None, unwrap_or, cond, refl, ap, arith}
use Rattle.std.specs.List.{AllByRecursion, filter, list_any, position}
use Rattle.std.specs.Str.{bytes_eq}
use Rattle.std.specs.Fmt.{decimal}
use Rattle.base.proofs.Lists.{all_append}
use Rattle.frame.specs.Clashes.{clash, first_clash, layers_clash}
use Rattle.frame.specs.Units.{numbering}
use Rattle.frame.specs.Unknowns.{is_known}
use Rattle.frame.specs.declared.frame.Frame.{Frame}
use Rattle.frame.specs.declared.frame.Spot.{Spot}
use Rattle.law_window.proofs.Clashless.{no_clash, wholes_apart}
use Rattle.law_window.proofs.Distinct.{IsAfter, IsOf, frames_apart}
use Rattle.law_window.proofs.Pairs.{NoPair, no_pair_on}
use Rattle.law_window.specs.Declared.{Declared}
use Rattle.law_window.specs.Exports.{declared_exports, named_others}
use Rattle.law_window.specs.NamedJoins.{whole}
use Rattle.law_window.specs.Names.{rename_in}
use Rattle.law_window.specs.Passes.{renamed_spot}

-- a frame whose exports are known and have no clash
pub record IsExporting (d : Declared) : Type 0 where
  pub few : length d.frame.resources ≤ 256
  pub known : AllByRecursion (λ spot. is_known (numbering d.frame) spot ≡ true) d.frame.exports
  pub clashless : first_clash d.frame.exports ≡ None

-- THE EXPORTS OF FRAMES

spots_of : (i : ℕ) (frame : Frame) (spots : List Spot) → AllByRecursion (λ spot. IsOf i spot.name) (map (renamed_spot (rename_in i frame)) spots)
spots_of i frame [] = tt
spots_of i frame (spot ∷ spots) = ((46 ∷ decimal (unwrap_or (position (bytes_eq spot.name) (map (λ r. r.name) frame.resources)) 0), refl), spots_of i frame spots)

later_spots : (j i : ℕ) (frame : Frame) (spots : List Spot) → j < i → AllByRecursion (λ spot. IsAfter j spot.name) (map (renamed_spot (rename_in i frame)) spots)
later_spots j i frame [] less = tt
later_spots j i frame (spot ∷ spots) less = ((i, less, (46 ∷ decimal (unwrap_or (position (bytes_eq spot.name) (map (λ r. r.name) frame.resources)) 0), refl)), later_spots j i frame spots less)

spots_after : (j i : ℕ) (ds : List Declared) → j < i → AllByRecursion (λ spot. IsAfter j spot.name) (declared_exports i ds)
spots_after j i [] less = tt
spots_after j i (d ∷ ds) less = all_append (λ spot. IsAfter j spot.name) (map (renamed_spot (rename_in i d.frame)) d.frame.exports) (declared_exports (suc i) ds) (later_spots j i d.frame d.frame.exports less) (spots_after j (suc i) ds (omega arith))

each_apart : (i : ℕ) (a : Spot) (spots : List Spot) → IsOf i a.name → AllByRecursion (λ spot. IsAfter i spot.name) spots → AllByRecursion (λ b. clash b a ≡ false) spots
each_apart i a [] of after = tt
each_apart i a (b ∷ spots) of after = (ap (λ c. c && layers_clash b.layer a.layer) (frames_apart i a.name b.name of after.0), each_apart i a spots of after.1)

between : (i : ℕ) (own spots : List Spot) → AllByRecursion (λ spot. IsOf i spot.name) own → AllByRecursion (λ spot. IsAfter i spot.name) spots → AllByRecursion (λ a. AllByRecursion (λ b. clash b a ≡ false) spots) own
between i [] spots of after = tt
between i (a ∷ own) spots of after = (each_apart i a spots of.0 after, between i own spots of.1 after)

pub own_apart : (i : ℕ) (ds : List Declared) → AllByRecursion IsExporting ds → NoPair clash (declared_exports i ds)
own_apart i [] exporting = tt
own_apart i (d ∷ ds) exporting =
    let E = exporting.0 in
    let own = map (renamed_spot (rename_in i d.frame)) d.frame.exports in
    let rest = declared_exports (suc i) ds in
    no_pair_on clash own rest (no_clash i d.frame E.few d.frame.exports E.known E.clashless) (own_apart (suc i) ds exporting.1) (between i own rest (spots_of i d.frame d.frame.exports) (spots_after i (suc i) ds (omega arith)))

-- THOSE OF PERSISTING NAMES

-- rows and columns of a test
heads : {X : Type 0} (test : X → X → Bool) (x : X) (xs list : List X) → AllByRecursion (λ b. AllByRecursion (λ a. test b a ≡ false) (x ∷ xs)) list → AllByRecursion (λ b. test b x ≡ false) list
heads test x xs [] e = tt
heads test x xs (y ∷ list) e = (e.0.0, heads test x xs list e.1)

tails : {X : Type 0} (test : X → X → Bool) (x : X) (xs list : List X) → AllByRecursion (λ b. AllByRecursion (λ a. test b a ≡ false) (x ∷ xs)) list → AllByRecursion (λ b. AllByRecursion (λ a. test b a ≡ false) xs) list
tails test x xs [] e = tt
tails test x xs (y ∷ list) e = (e.0.1, tails test x xs list e.1)

exchanged : {X : Type 0} (test : X → X → Bool) (xs ys : List X) → AllByRecursion (λ b. AllByRecursion (λ a. test b a ≡ false) xs) ys → AllByRecursion (λ a. AllByRecursion (λ b. test b a ≡ false) ys) xs
exchanged test [] ys all = tt
exchanged test (x ∷ xs) ys all = (heads test x xs ys all, exchanged test xs ys (tails test x xs ys all))

if_kept : {X : Type 0} (P : X → Type 0) (b : Bool) (y : X) (list : List X) → P y → AllByRecursion P list → AllByRecursion P (cond b (y ∷ list) list)
if_kept P true y list p all = (p, all)
if_kept P false y list p all = all

pub fewer : {X : Type 0} (P : X → Type 0) (keep : X → Bool) (xs : List X) → AllByRecursion P xs → AllByRecursion P (filter keep xs)
fewer P keep [] all = tt
fewer P keep (x ∷ xs) all = if_kept P (keep x) x (filter keep xs) all.0 (fewer P keep xs all.1)

if_apart : {X : Type 0} (test : X → X → Bool) (b : Bool) (x : X) (xs : List X) → AllByRecursion (λ y. test y x ≡ false) xs → NoPair test xs → NoPair test (cond b (x ∷ xs) xs)
if_apart test true x xs head none = (head, none)
if_apart test false x xs head none = none

filtered : {X : Type 0} (test : X → X → Bool) (keep : X → Bool) (xs : List X) → NoPair test xs → NoPair test (filter keep xs)
filtered test keep [] none = tt
filtered test keep (x ∷ xs) none = if_apart test (keep x) x (filter keep xs) (fewer (λ y. test y x ≡ false) keep xs none.0) (filtered test keep xs none.1)

none_of : {X : Type 0} (test : X → Bool) (xs : List X) → list_any test xs ≡ false → AllByRecursion (λ x. test x ≡ false) xs
none_of test [] e = tt
none_of test (x ∷ xs) e = (left (test x) (list_any test xs) e, none_of test xs (rest (test x) (list_any test xs) e))
  where
    left : (p q : Bool) → (p || q) ≡ false → p ≡ false
    left true q e = absurd cc
    left false q e = refl

    rest : (p q : Bool) → (p || q) ≡ false → q ≡ false
    rest true q e = absurd cc
    rest false q e = e

module _ (own : List Spot) where
  abbrev pub is_other : List ℕ → Bool
  is_other name = not (list_any (λ spot. bytes_eq name spot.name) own)

  no_clashes : (name : List ℕ) (spots : List Spot) → AllByRecursion (λ spot. bytes_eq name spot.name ≡ false) spots → AllByRecursion (λ spot. clash (whole name) spot ≡ false) spots
  no_clashes name [] all = tt
  no_clashes name (spot ∷ spots) all = (ap (λ b. b && true) all.0, no_clashes name spots all.1)

  others_apart : (names : List (List ℕ)) → AllByRecursion (λ b. AllByRecursion (λ a. clash b a ≡ false) own) (named_others own names)
  others_apart [] = tt
  others_apart (name ∷ names) = by_test (list_any (λ spot. bytes_eq name spot.name) own) refl (others_apart names)
    where
      by_test : (b : Bool) → list_any (λ spot. bytes_eq name spot.name) own ≡ b → AllByRecursion (λ b. AllByRecursion (λ a. clash b a ≡ false) own) (map whole (filter is_other names)) → AllByRecursion (λ b. AllByRecursion (λ a. clash b a ≡ false) own) (map whole (cond (not b) (name ∷ filter is_other names) (filter is_other names)))
      by_test true e more = more
      by_test false e more = (no_clashes name own (none_of (λ spot. bytes_eq name spot.name) own e), more)

-- exports of frames, and then those of other names
pub exports_apart : (own : List Spot) (names : List (List ℕ)) → NoPair clash own → NoPair bytes_eq names → NoPair clash (own ++ named_others own names)
exports_apart own names none apart =
    no_pair_on clash own (named_others own names) none
    (wholes_apart (filter (is_other own) names) (filtered bytes_eq (is_other own) names apart))
    (exchanged clash own (named_others own names) (others_apart own names))
