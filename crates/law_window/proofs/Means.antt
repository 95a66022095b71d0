-- What a window exports and leaves means what its frames mean one after another.
use Rattle.std.proofs.Common.{◌≡◌, ℕ, zero, suc, ◌+◌, ◌<◌, ◌==◌, ◌||◌, ◌++◌, not, List, [], ◌∷◌, length, map, take, get_or, slice_get, cond, is_some, Bool, true, false, Option, Some, None, if◌then◌else◌, refl, sym, ap, subst, ◌∙◌, eq-eqb, arith}
use Rattle.std.specs.List.{All, list_any}
use Rattle.std.specs.Option.{option_map}
use Rattle.std.proofs.lemmas.Bool.{eqb-true}
use Rattle.std.proofs.lemmas.List.{length-map}
use Rattle.std.proofs.lemmas.List.Folds.{Any-from_list_any, list_any-append, list_any_at}
use Rattle.std.proofs.lemmas.Option.{get_or_from_slice_get, slice_get-map, slice_get_within}
use Rattle.base.proofs.Booleans.{or_true}
use Rattle.base.proofs.Lists.{entry_of, got_front, got_back}
use Rattle.base.specs.Applied.{bytes_at}
use Rattle.base.specs.declared.shape.Family.{Family}
use Rattle.frame.specs.Valid.{IsValid, is_import}
use Rattle.frame.specs.Numbered.{NumberedFrame}
use Rattle.frame.specs.Units.{Unit}
use Rattle.frame_meaning.specs.Meaning.{all_bytes, has_picture, meaning, stores_to}
use Rattle.frame_meaning.proofs.Exported.{exported}
use Rattle.law_window.proofs.Contents.{import_kept}
use Rattle.law_window.proofs.Each.{each}
use Rattle.law_window.proofs.Frames.{at_frame, held_at_end}
use Rattle.law_window.proofs.Law.{window_bytes}
use Rattle.law_window.proofs.Sources.{bytes_from}
use Rattle.law_window.specs.Flown.{Flown, holding, with_import, with_imports}
use Rattle.law_window.specs.Persisted.{flown_bytes, persisted_after}
use Rattle.law_window.specs.Means.{ArePersisted, IsLeft, MeansTheSame, exports_before, units_before}
use Rattle.law_window.specs.Sources.{Source, Given, Left, given, last_sources, left_units, next}
use Rattle.law_window.specs.Together.{Flies}
use Rattle.law_window.specs.Window.{others, own_exports, window}

-- WHAT IS EXPORTED IS MEANT

some_if : {X : Type 0} (b : Bool) (x : X) → is_some (if b then Some x else None) ≡ true → b ≡ true
some_if true x e = refl
some_if false x e = absurd cc

pictured : (frame : NumberedFrame) → IsValid frame → (unit : ℕ) → list_any (λ x. x == unit) frame.exports ≡ true → has_picture frame unit ≡ true
pictured frame good unit e =
    let at = Any-from_list_any (λ x. x == unit) frame.exports e in
    let same : get_or frame.exports at.0 at.1 ≡ unit = at.3 ∙ eqb-true at.1 unit at.4 in
    subst (λ u. has_picture frame u ≡ true) same (some_if (has_picture frame (get_or frame.exports at.0 at.1)) (bytes_at (all_bytes frame) (get_or frame.exports at.0 at.1)) (exported frame good at.0 at.1 at.2))

shown : (frame : NumberedFrame) (unit : ℕ) → has_picture frame unit ≡ true → meaning frame unit ≡ Some (bytes_at (all_bytes frame) unit)
shown frame unit e = ap (λ b. if b then Some (bytes_at (all_bytes frame) unit) else None) e

-- what is got at a place is there
got_there : (xs : List ℕ) (p x : ℕ) → slice_get xs p ≡ Some x → list_any (λ y. y == x) xs ≡ true
got_there xs p x at = list_any_at (λ y. y == x) xs p x (slice_get_within xs p x at) (eq-eqb (get_or xs p x) x (get_or_from_slice_get xs p x x at))

import_stays : (places : List (Option ℕ)) (persisted : List (List ℕ)) (us : List Unit) (y : ℕ) → is_import us y ≡ true → is_import (with_imports places (map (λ bytes. Some bytes) persisted) us) y ≡ true
import_stays [] persisted us y e = e
import_stays (place ∷ places) [] us y e = e
import_stays (None ∷ places) (bytes ∷ persisted) us y e = import_stays places persisted us y e
import_stays (Some x ∷ places) (bytes ∷ persisted) us y e = import_stays places persisted (with_import us x (Some bytes)) y (import_kept us x y bytes e)

or_more : (a b c : Bool) → (a ≡ true → c ≡ true) → (a || b) ≡ true → (c || b) ≡ true
or_more true b c so e = ap (λ x. x || b) (so refl)
or_more false b true so e = refl
or_more false b false so e = e

-- what has a picture has one when bytes are persisted
picture_held : (flown : Flown) (persisted : List (List ℕ)) (unit : ℕ) → has_picture flown.frame unit ≡ true → has_picture (holding persisted flown) unit ≡ true
picture_held flown persisted unit e = or_more (is_import flown.frame.units unit) (list_any (stores_to unit) flown.frame.passes) (is_import (with_imports flown.places (map (λ bytes. Some bytes) persisted) flown.frame.units) unit) (import_stays flown.places persisted flown.frame.units unit) e

-- THE EXPORTS OF EACH FRAME

own_at : (frames : List Flown) (n i k : ℕ) (flown : Flown) (unit : ℕ) → slice_get frames i ≡ Some flown → slice_get flown.frame.exports k ≡ Some unit → slice_get (own_exports n frames) (exports_before frames i + k) ≡ Some ((n + units_before frames i) + unit)
own_at [] n i k flown unit at is = absurd cc
own_at (first ∷ frames) n zero k flown unit at is =
    let same : first ≡ flown = cc in
    let here : slice_get first.frame.exports k ≡ Some unit = subst (λ f. slice_get f.frame.exports k ≡ Some unit) (sym same) is in
    let z : 0 + k ≡ k = omega arith in
    let e : n + unit ≡ (n + 0) + unit = omega arith in
    ap (slice_get (own_exports n (first ∷ frames))) z
    ∙ got_front (map (λ u. n + u) first.frame.exports) (own_exports (next n first) frames) k (n + unit) (slice_get-map (λ u. n + u) first.frame.exports k ∙ ap (option_map (λ u. n + u)) here)
    ∙ ap (λ u. Some u) e
own_at (first ∷ frames) n (suc i) k flown unit at is =
    let own = map (λ u. n + u) first.frame.exports in
    let e : (length first.frame.exports + exports_before frames i) + k ≡ length own + (exports_before frames i + k) = omega (arith, length-map first.frame.exports (λ u. n + u)) in
    let f : ((n + length first.frame.units) + units_before frames i) + unit ≡ (n + (length first.frame.units + units_before frames i)) + unit = omega arith in
    ap (slice_get (own_exports n (first ∷ frames))) e
    ∙ got_back own (own_exports (next n first) frames) (exports_before frames i + k)
    ∙ own_at frames (next n first) i k flown unit at is
    ∙ ap (λ u. Some u) f

-- THE UNITS OF PERSISTING NAMES

-- what is not among these is among the others
kept_there : (own more : List ℕ) (u : ℕ) → list_any (λ x. x == u) own ≡ false → list_any (λ x. x == u) more ≡ true → list_any (λ x. x == u) (others own more) ≡ true
kept_there own [] u out there = there
kept_there own (y ∷ more) u out there = by_test (y == u) refl there (kept_there own more u out)
  where
    by_kept : (b : Bool) → list_any (λ x. x == u) (others own more) ≡ true → list_any (λ x. x == u) (cond b (y ∷ others own more) (others own more)) ≡ true
    by_kept true e = ap (λ b. (y == u) || b) e ∙ or_true (y == u)
    by_kept false e = e

    by_test : (b : Bool) → (y == u) ≡ b → (b || list_any (λ x. x == u) more) ≡ true → (list_any (λ x. x == u) more ≡ true → list_any (λ x. x == u) (others own more) ≡ true) → list_any (λ x. x == u) (others own (y ∷ more)) ≡ true
    by_test false is e rest = by_kept (not (list_any (λ x. x == y) own)) (rest e)
    by_test true is e rest =
        let passes : not (list_any (λ x. x == y) own) ≡ true = ap (λ z. not (list_any (λ x. x == z) own)) (eqb-true y u is) ∙ ap not out in
        ap (λ b. list_any (λ x. x == u) (cond b (y ∷ others own more) (others own more))) passes ∙ ap (λ b. b || list_any (λ x. x == u) (others own more)) is

among : (own more : List ℕ) (u : ℕ) → list_any (λ x. x == u) more ≡ true → list_any (λ x. x == u) (own ++ others own more) ≡ true
among own more u there = list_any-append (λ x. x == u) own (others own more) ∙ by_test (list_any (λ x. x == u) own) refl
  where
    by_test : (b : Bool) → list_any (λ x. x == u) own ≡ b → (b || list_any (λ x. x == u) (others own more)) ≡ true
    by_test true is = refl
    by_test false is = kept_there own more u is there

left_held : (P : ℕ → List ℕ → Type 0) (bytes : List (List ℕ)) (sources : List Source) → ((unit : ℕ) → list_any (λ x. x == unit) (left_units sources) ≡ true → P unit (bytes_at bytes unit)) → ArePersisted P sources (map (bytes_from bytes) sources)
left_held P bytes [] means = tt
left_held P bytes (Given b ∷ sources) means = (refl, left_held P bytes sources means)
left_held P bytes (Left unit ∷ sources) means = (
  means unit (ap (λ b. b || list_any (λ x. x == unit) (left_units sources)) (eq-eqb unit unit refl)),
  left_held P bytes sources (λ other e. means other (ap (λ b. (unit == other) || b) e ∙ or_true (unit == other))),
)

-- BOTH

pub means_the_same : (queues : List Family) (sizes : List ℕ) (frames : List Flown) (persisted : List (List ℕ)) → All (Flies queues sizes) frames → map length persisted ≡ sizes → IsValid (window queues frames persisted) → MeansTheSame queues frames persisted
means_the_same queues sizes frames persisted all is good =
    let W = window queues frames persisted in
    let own = own_exports 0 frames in
    let last = last_sources 0 (given persisted) frames in
    let fly = each (Flies queues sizes) frames all in
    let bytes : all_bytes W ≡ flown_bytes frames persisted = window_bytes queues sizes frames persisted fly is in
    let means : (unit : ℕ) → list_any (λ x. x == unit) W.exports ≡ true → meaning W unit ≡ Some (bytes_at (flown_bytes frames persisted) unit) = λ unit e. shown W unit (pictured W good unit e) ∙ ap (λ b. Some (bytes_at b unit)) bytes in
    record {
      exports = λ i k flown unit at here.
          let F = entry_of (Flies queues sizes) frames i flown all at in
          let z : (0 + units_before frames i) + unit ≡ units_before frames i + unit = omega arith in
          let place : slice_get W.exports (exports_before frames i + k) ≡ Some (units_before frames i + unit) = got_front own (others own (left_units last)) (exports_before frames i + k) (units_before frames i + unit) (own_at frames 0 i k flown unit at here ∙ ap (λ u. Some u) z) in
          let inside : unit < length flown.frame.units = entry_of (λ u. u < length flown.frame.units) flown.frame.exports k unit F.good.exports_within here in
          record {
            place = place;
            means =
                means (units_before frames i + unit) (got_there W.exports (exports_before frames i + k) (units_before frames i + unit) place)
                ∙ ap (λ b. Some b) (at_frame queues sizes frames fly persisted is i flown unit at inside)
                ∙ sym (shown (holding (persisted_after (take i frames) persisted) flown) unit (picture_held flown (persisted_after (take i frames) persisted) unit (pictured flown.frame F.good unit (got_there flown.frame.exports k unit here))));
          };
      left = subst (ArePersisted (IsLeft queues frames persisted) last) (sym (held_at_end queues sizes frames persisted fly is))
          (left_held (IsLeft queues frames persisted) (flown_bytes frames persisted) last (λ unit e.
          let there = among own (left_units last) unit e in
          record { exported = there; means = means unit there }));
    }
