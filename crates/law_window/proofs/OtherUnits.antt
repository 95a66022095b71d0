-- Spots of different names name different units.
use Rattle.std.proofs.Common.{◌≡◌, ℕ, ◌+◌, ◌-◌, ◌<◌, ◌≤◌, ◌==◌, ◌||◌, nat_lt, Bool, true, false, List, [], ◌∷◌, get_or, slice_get, if◌then◌else◌, Option, Some, None, refl, sym, ap, ap₂, ◌∙◌, subst, ne_eqb, eq-eqb, arith, ⊎_elim}
use Rattle.std.specs.Prelude.{option_and_then}
use Rattle.std.specs.List.{All, flat_map, list_any, position, range_with_len}
use Rattle.std.specs.Option.{option_map_or}
use Rattle.std.specs.Str.{bytes_eq}
use Rattle.std.proofs.lemmas.Bool.{and_parts, cases_lt, ltb-true}
use Rattle.std.proofs.lemmas.List.Elements.{All-head, All-tail}
use Rattle.std.proofs.lemmas.List.Folds.{list_any-append, list_any_none}
use Rattle.std.proofs.lemmas.List.FromFn.{get_or-range_with_len, length-range_with_len}
use Rattle.std.proofs.lemmas.List.Quantifiers.{position-Some}
use Rattle.std.proofs.lemmas.Slice.Eq.{bytes_eq-Decides}
use Rattle.base.proofs.Booleans.{clash}
use Rattle.frame.proofs.Once.{one_after}
use Rattle.frame.specs.Units.{Numbering, layer_unit, no_units, numbering, span_in, stretch_of, unit_of, units_in, units_of}
use Rattle.frame.specs.Unknowns.{has_layer, is_known}
use Rattle.frame.specs.declared.frame.Frame.{Frame}
use Rattle.frame.specs.declared.frame.Spot.{Spot}
use Rattle.frame.specs.declared.numbered.Stretch.{Stretch}
use Rattle.law_window.proofs.PassNumbers.{IsSingle}
use Rattle.law_window.specs.NamedJoins.{whole}

-- ONE SPOT

-- the resource that a name finds
record IsAt (n : Numbering) (name : List ℕ) (s : Stretch) : Type 0 where
  place : ℕ
  named : position (bytes_eq name) n.names ≡ Some place
  is : slice_get n.stretches place ≡ Some s

at_place : (n : Numbering) (name : List ℕ) (s : Stretch) → stretch_of n name ≡ Some s → IsAt n name s
at_place n name s found = by_place (position (bytes_eq name) n.names) refl found
  where
    by_place : (o : Option ℕ) → position (bytes_eq name) n.names ≡ o → option_and_then (slice_get n.stretches) o ≡ Some s → IsAt n name s
    by_place None e is = absurd cc
    by_place (Some p) e is = record { place = p; named = e; is = is }

record Known (n : Numbering) (spot : Spot) : Type 0 where
  stretch : Stretch
  stands : stretch_of n spot.name ≡ Some stretch
  layer : has_layer spot.layer stretch ≡ true

known : (n : Numbering) (spot : Spot) → is_known n spot ≡ true → Known n spot
known n spot e = by_found (stretch_of n spot.name) refl e
  where
    by_found : (o : Option Stretch) → stretch_of n spot.name ≡ o → option_map_or (has_layer spot.layer) o false ≡ true → Known n spot
    by_found None is e = absurd (clash e)
    by_found (Some s) is e = record { stretch = s; stands = is; layer = e }

layer_is : (s : Stretch) (layer : ℕ) → nat_lt layer s.layers ≡ true → layer_unit s layer ≡ s.first + layer
layer_is s layer e = ap (λ b. if b then s.first + layer else 0) e

-- its units are some of its resource's
within : (s : Stretch) (layer : Option ℕ) → has_layer layer s ≡ true → All (λ u. (s.first ≤ u) × (u < s.first + s.layers)) (units_in (span_in layer s))
within s None h = λ k d lt.
    let count = length-range_with_len s.first (s.first + s.layers - s.first) in
    let is = get_or-range_with_len s.first (s.first + s.layers - s.first) k d (omega (arith, count, lt)) in
    (omega (arith, is), omega (arith, is, count, lt))
within s (Some layer) h = λ k d lt.
    let layered = (and_parts s.is_image (nat_lt layer s.layers) h).1 in
    let unit = layer_unit s layer in
    let count = length-range_with_len unit (unit + 1 - unit) in
    let is = get_or-range_with_len unit (unit + 1 - unit) k d (omega (arith, count, lt)) in
    let here = layer_is s layer layered in
    let below = ltb-true layer s.layers layered in
    (omega (arith, is, here), omega (arith, is, here, below, count, lt))

-- where there is one layer, the unit is this
the_one : (s : Stretch) (layer : Option ℕ) → s.layers ≡ 1 → has_layer layer s ≡ true → list_any (λ x. x == s.first) (units_in (span_in layer s)) ≡ true
the_one s None one h =
    let size : s.first + s.layers - s.first ≡ 1 = omega (arith, one) in
    ap (λ m. list_any (λ x. x == s.first) (range_with_len s.first m)) size ∙ ap (λ b. b || false) (eq-eqb s.first s.first refl)
the_one s (Some layer) one h =
    let layered = (and_parts s.is_image (nat_lt layer s.layers) h).1 in
    let below = ltb-true layer s.layers layered in
    let here : layer_unit s layer ≡ s.first = layer_is s layer layered ∙ omega (arith, below, one) in
    let size : s.first + 1 - s.first ≡ 1 = omega arith in
    ap (λ u. list_any (λ x. x == s.first) (range_with_len u (u + 1 - u))) here
    ∙ ap (λ m. list_any (λ x. x == s.first) (range_with_len s.first m)) size ∙ ap (λ b. b || false) (eq-eqb s.first s.first refl)

-- BY UNITS AS BY NAMES

module _ (frame : Frame) (name : List ℕ) (S : IsSingle (numbering frame) name) where
  abbrev n : Numbering
  n = numbering frame

  abbrev unit : ℕ
  unit = unit_of n (whole name)

  first : unit_of n (whole name) ≡ S.stretch.first
  first =
      let found = ap (λ o. option_map_or (λ s. layer_unit s 0) o 0) S.stands in
      let here : layer_unit S.stretch 0 ≡ S.stretch.first + 0 = ap (λ m. if nat_lt 0 m then S.stretch.first + 0 else 0) S.single in
      found ∙ here ∙ omega arith

  units_are : (spot : Spot) (K : Known n spot) → units_of n spot ≡ units_in (span_in spot.layer K.stretch)
  units_are spot K = ap (λ o. units_in (option_map_or (span_in spot.layer) o no_units)) K.stands

  -- a place has one name
  same_name : (other : List ℕ) (s t : Stretch) (A : IsAt n name s) (B : IsAt n other t) → A.place ≡ B.place → name ≡ other
  same_name other s t A B place =
      let one = (bytes_eq-Decides name (get_or n.names A.place [])).0 (position-Some (bytes_eq name) n.names A.place [] A.named).1 in
      let two = (bytes_eq-Decides other (get_or n.names B.place [])).0 (position-Some (bytes_eq other) n.names B.place [] B.named).1 in
      one ∙ ap (λ p. get_or n.names p []) place ∙ sym two

  elsewhere : (spot : Spot) (K : Known n spot) → (name ≡ spot.name → ⊥) → All (λ u. (u == S.stretch.first) ≡ false) (units_in (span_in spot.layer K.stretch))
  elsewhere spot K other = λ k d lt.
      let A = at_place n name S.stretch S.stands in
      let B = at_place n spot.name K.stretch K.stands in
      let u = get_or (units_in (span_in spot.layer K.stretch)) k d in
      let range = within K.stretch spot.layer K.layer k d lt in
      ne_eqb u S.stretch.first
      (⊎_elim
      (λ less. let apart = one_after 0 frame.resources A.place B.place S.stretch K.stretch A.is B.is less in λ same. omega (arith, apart, range.0, S.single, same))
      (λ le. ⊎_elim
      (λ less. let apart = one_after 0 frame.resources B.place A.place K.stretch S.stretch B.is A.is less in λ same. omega (arith, apart, range.1, same))
      (λ ge. absurd (other (same_name spot.name S.stretch K.stretch A B (omega (arith, le, ge)))))
      (cases_lt B.place A.place))
      (cases_lt A.place B.place))

  spot_test : (spot : Spot) → is_known n spot ≡ true → list_any (λ x. x == unit) (units_of n spot) ≡ bytes_eq name spot.name
  spot_test spot e = ap₂ (λ u us. list_any (λ x. x == u) us) first (units_are spot (known n spot e)) ∙ by_test (bytes_eq name spot.name) refl
    where
      by_test : (b : Bool) → bytes_eq name spot.name ≡ b → list_any (λ x. x == S.stretch.first) (units_in (span_in spot.layer (known (numbering frame) spot e).stretch)) ≡ b
      by_test false f = list_any_none (λ x. x == S.stretch.first) (units_in (span_in spot.layer (known (numbering frame) spot e).stretch)) (elsewhere spot (known (numbering frame) spot e) (λ same. clash (sym f ∙ (bytes_eq-Decides name spot.name).1 same)))
      by_test true f =
          let K = known (numbering frame) spot e in
          let same : name ≡ spot.name = (bytes_eq-Decides name spot.name).0 f in
          let found : Some S.stretch ≡ Some K.stretch = sym S.stands ∙ ap (stretch_of (numbering frame)) same ∙ K.stands in
          let stretch : S.stretch ≡ K.stretch = cc in
          subst (λ s. list_any (λ x. x == S.stretch.first) (units_in (span_in spot.layer s)) ≡ true) stretch (the_one S.stretch spot.layer S.single (subst (λ s. has_layer spot.layer s ≡ true) (sym stretch) K.layer))

  pub same_test : (own : List Spot) → All (λ spot. is_known n spot ≡ true) own → list_any (λ x. x == unit_of n (whole name)) (flat_map (units_of n) own) ≡ list_any (λ spot. bytes_eq name spot.name) own
  same_test [] known_own = refl
  same_test (spot ∷ own) known_own =
      list_any-append (λ x. x == unit_of n (whole name)) (units_of n spot) (flat_map (units_of n) own)
      ∙ ap₂ (λ a b. a || b) (spot_test spot (All-head (λ s. is_known n s ≡ true) spot own known_own)) (same_test own (All-tail (λ s. is_known n s ≡ true) spot own known_own))
