-- A frame that breaks no rule exports each unit once: its exports name no unit twice.
use Rattle.std.proofs.Common.{◌≡◌, ◌≢◌, ◌⊎◌, inl, inr, ⊎_elim, ℕ, zero, suc, ◌+◌, ◌-◌, ◌<◌, ◌≤◌, ◌&&◌, nat_lt, not, Bool, true, false, List, [], ◌∷◌, ◌++◌, length, take, map, get_or, slice_get, if◌then◌else◌, Option, Some, None, refl, sym, ap, ◌∙◌, subst, eq-eqb, arith}
use Rattle.std.specs.List.{All, AllPairs, flat_map, list_any, position, range_with_len}
use Rattle.std.specs.Option.{option_or, option_map, option_map_or, option_and_then}
use Rattle.std.specs.Str.{bytes_eq}
use Rattle.std.proofs.lemmas.Bool.{cases_lt, and_parts, ltb-true}
use Rattle.std.proofs.lemmas.List.{get_or-take, length-take-le}
use Rattle.std.proofs.lemmas.List.Elements.{All-head, All-tail, All-append}
use Rattle.std.proofs.lemmas.List.Folds.{list_any_at}
use Rattle.std.proofs.lemmas.List.FromFn.{length-range_with_len, get_or-range_with_len}
use Rattle.std.proofs.lemmas.List.Kept.{AllPairs-cons}
use Rattle.std.proofs.lemmas.List.Quantifiers.{position-Some}
use Rattle.std.proofs.lemmas.Slice.Eq.{bytes_eq-Decides}
use Rattle.base.proofs.Absence.{or_second, map_none, first_none, not_none, all_pass}
use Rattle.base.proofs.Booleans.{clash}
use Rattle.base.proofs.Lists.{each_of}
use Rattle.base.specs.Walks.{first_in}
use Rattle.frame.proofs.Small.{repeated_none, unknown_none}
use Rattle.frame.specs.Clashes as clashes
use Rattle.frame.specs.FirstFault.{name_broken}
use Rattle.frame.specs.Numbered.{numbered}
use Rattle.frame.specs.Repeats.{first_repeat, repeats_in}
use Rattle.frame.specs.Units.{Numbering, numbering, stretches, stretch_of, layer_unit, units_in, no_units, span_in, span_of, units_of}
use Rattle.frame.specs.Unknowns.{has_layer, is_known, unknown_in}
use Rattle.frame.specs.declared.frame.Frame.{Frame}
use Rattle.frame.specs.declared.frame.Resource.{Resource}
use Rattle.frame.specs.declared.frame.Spot.{Spot}
use Rattle.frame.specs.declared.numbered.Stretch.{Stretch}
use Rattle.frame.specs.declared.location.Location.{Location}
use Rattle.frame.specs.declared.location.Location.TheVariants as at

-- LISTS WHOSE ENTRIES DIFFER

abbrev pub Apart : List ℕ → List ℕ → Type 0
Apart xs ys = All (λ x. All (λ y. x ≢ y) ys) xs

abbrev pub Differ : List ℕ → Type 0
Differ xs = AllPairs (λ x y. x ≢ y) xs

pub differ_both : (xs ys : List ℕ) → Differ xs → Differ ys → Apart xs ys → Differ (xs ++ ys)
differ_both [] ys one two across = two
differ_both (x ∷ xs) ys one two across =
    AllPairs-cons (λ a b. a ≢ b) x (xs ++ ys)
    (All-append (λ y. x ≢ y) xs ys (λ k d lt. one 0 (suc k) d (omega arith) (omega (arith, lt))) (All-head (λ a. All (λ y. a ≢ y) ys) x xs across))
    (differ_both xs ys (λ i j d less lt. one (suc i) (suc j) d (omega (arith, less)) (omega (arith, lt))) two (All-tail (λ a. All (λ y. a ≢ y) ys) x xs across))

apart_all : {X : Type 0} (f : X → List ℕ) (us : List ℕ) (xs : List X) → All (λ x. Apart us (f x)) xs → Apart us (flat_map f xs)
apart_all f us xs all = λ k d lt. each_of (λ y. get_or us k d ≢ y) f xs (λ i e l. all i e l k d lt)

differ_all : {X : Type 0} (f : X → List ℕ) (xs : List X) → All (λ x. Differ (f x)) xs → AllPairs (λ x y. Apart (f x) (f y)) xs → Differ (flat_map f xs)
differ_all f [] own across = λ i j d less lt. absurd (omega (arith, lt))
differ_all f (x ∷ xs) own across =
    differ_both (f x) (flat_map f xs) (All-head (λ y. Differ (f y)) x xs own)
    (differ_all f xs (All-tail (λ y. Differ (f y)) x xs own) (λ i j d less lt. across (suc i) (suc j) d (omega (arith, less)) (omega (arith, lt))))
    (apart_all f (f x) xs (λ k d lt. across 0 (suc k) d (omega arith) (omega (arith, lt))))

range_differs : (a n : ℕ) → Differ (range_with_len a n)
range_differs a n = λ i j d less lt.
    let count = length-range_with_len a n in
    let one = get_or-range_with_len a n i d (omega (arith, count, less, lt)) in
    let two = get_or-range_with_len a n j d (omega (arith, count, lt)) in
    λ same. omega (arith, one, two, same, less)

-- from a on, and below b
abbrev Between : ℕ → ℕ → ℕ → Type 0
Between a b u = (a ≤ u) × (u < b)

range_between : (a n : ℕ) → All (Between a (a + n)) (range_with_len a n)
range_between a n = λ k d lt.
    let count = length-range_with_len a n in
    let is = get_or-range_with_len a n k d (omega (arith, count, lt)) in
    (omega (arith, is), omega (arith, is, count, lt))

apart_between : (xs ys : List ℕ) (a b c d : ℕ) → All (Between a b) xs → All (Between c d) ys → (b ≤ c) ⊎ (d ≤ a) → Apart xs ys
apart_between xs ys a b c d one two (inl le) = λ i e lt. λ j f l. λ same. let low = (one i e lt).1 in let high = (two j f l).0 in omega (arith, low, high, le, same)
apart_between xs ys a b c d one two (inr le) = λ i e lt. λ j f l. λ same. let low = (one i e lt).0 in let high = (two j f l).1 in omega (arith, low, high, le, same)

-- STRETCHES

pub starts_after : (n : ℕ) (rs : List Resource) (q : ℕ) (t : Stretch) → slice_get (stretches n rs) q ≡ Some t → n ≤ t.first
starts_after n [] q t is = absurd cc
starts_after n (r ∷ rs) zero t is = let same : n ≡ t.first = ap (λ (o : Option Stretch). option_map_or (λ s. s.first) o 0) is in omega (arith, same)
starts_after n (r ∷ rs) (suc q) t is = let rest = starts_after (n + r.layers) rs q t is in omega (arith, rest)

pub one_after : (n : ℕ) (rs : List Resource) (p q : ℕ) (s t : Stretch) → slice_get (stretches n rs) p ≡ Some s → slice_get (stretches n rs) q ≡ Some t → p < q → s.first + s.layers ≤ t.first
one_after n [] p q s t is at lt = absurd cc
one_after n (r ∷ rs) p zero s t is at lt = absurd (omega (arith, lt))
one_after n (r ∷ rs) zero (suc q) s t is at lt =
    let start : n ≡ s.first = ap (λ (o : Option Stretch). option_map_or (λ x. x.first) o 0) is in
    let size : r.layers ≡ s.layers = ap (λ (o : Option Stretch). option_map_or (λ x. x.layers) o 0) is in
    let after = starts_after (n + r.layers) rs q t at in
    omega (arith, start, size, after)
one_after n (r ∷ rs) (suc p) (suc q) s t is at lt = one_after (n + r.layers) rs p q s t is at (omega (arith, lt))

-- SPOTS

-- the resource that a spot names, and its layer there
record IsAt (n : Numbering) (spot : Spot) : Type 0 where
  location : ℕ
  stretch : Stretch
  named : position (bytes_eq spot.name) n.names ≡ Some location
  is : slice_get n.stretches location ≡ Some stretch
  layer : has_layer spot.layer stretch ≡ true

located : (n : Numbering) (spot : Spot) → is_known n spot ≡ true → IsAt n spot
located n spot known = by_place (position (bytes_eq spot.name) n.names) refl known
  where
    by_stretch : (p : ℕ) → position (bytes_eq spot.name) n.names ≡ Some p → (o : Option Stretch) → slice_get n.stretches p ≡ o → option_map_or (has_layer spot.layer) o false ≡ true → IsAt n spot
    by_stretch p e None f k = absurd (clash k)
    by_stretch p e (Some s) f k = record { location = p; stretch = s; named = e; is = f; layer = k }

    by_place : (o : Option ℕ) → position (bytes_eq spot.name) n.names ≡ o → option_map_or (has_layer spot.layer) (option_and_then (slice_get n.stretches) o) false ≡ true → IsAt n spot
    by_place None e k = absurd (clash k)
    by_place (Some p) e k = by_stretch p e (slice_get n.stretches p) refl k

module _ (n : Numbering) where
  units_are : (spot : Spot) (A : IsAt n spot) → units_of n spot ≡ units_in (span_in spot.layer A.stretch)
  units_are spot A =
      let found : stretch_of n spot.name ≡ Some A.stretch = ap (option_and_then (slice_get n.stretches)) A.named ∙ A.is in
      ap (λ o. units_in (option_map_or (span_in spot.layer) o no_units)) found

  layer_is : (s : Stretch) (layer : ℕ) → has_layer (Some layer) s ≡ true → layer_unit s layer ≡ s.first + layer
  layer_is s layer h = ap (λ b. if b then s.first + layer else 0) (and_parts s.is_image (nat_lt layer s.layers) h).1

  span_between : (s : Stretch) (layer : Option ℕ) → has_layer layer s ≡ true → All (Between s.first (s.first + s.layers)) (units_in (span_in layer s))
  span_between s None h = subst (λ m. All (Between s.first (s.first + s.layers)) (range_with_len s.first m)) all (range_between s.first s.layers)
    where
      all : s.layers ≡ s.first + s.layers - s.first
      all = omega arith
  span_between s (Some layer) h = λ k d lt.
      let below = ltb-true layer s.layers (and_parts s.is_image (nat_lt layer s.layers) h).1 in
      let count = length-range_with_len (layer_unit s layer) (layer_unit s layer + 1 - layer_unit s layer) in
      let is = get_or-range_with_len (layer_unit s layer) (layer_unit s layer + 1 - layer_unit s layer) k d (omega (arith, count, lt)) in
      let unit = layer_is s layer h in
      (omega (arith, is, unit), omega (arith, is, unit, below, count, lt))

  between : (spot : Spot) (A : IsAt n spot) → All (Between A.stretch.first (A.stretch.first + A.stretch.layers)) (units_of n spot)
  between spot A = subst (All (Between A.stretch.first (A.stretch.first + A.stretch.layers))) (sym (units_are spot A)) (span_between A.stretch spot.layer A.layer)

  own_differ : (spot : Spot) → Differ (units_of n spot)
  own_differ spot = range_differs (span_of n spot).first ((span_of n spot).end - (span_of n spot).first)

  -- two layers of one resource
  layers_apart : (s : Stretch) (a b : Option ℕ) → has_layer a s ≡ true → has_layer b s ≡ true → clashes.layers_clash b a ≡ false → Apart (units_in (span_in a s)) (units_in (span_in b s))
  layers_apart s a None h k e = absurd (clash (sym e))
  layers_apart s None (Some l) h k e = absurd (clash (sym e))
  layers_apart s (Some m) (Some l) h k e = λ i d lt. λ j f less. λ same.
      let one = get_or-range_with_len (layer_unit s m) (layer_unit s m + 1 - layer_unit s m) i d (let count = length-range_with_len (layer_unit s m) (layer_unit s m + 1 - layer_unit s m) in omega (arith, count, lt)) in
      let two = get_or-range_with_len (layer_unit s l) (layer_unit s l + 1 - layer_unit s l) j f (let count = length-range_with_len (layer_unit s l) (layer_unit s l + 1 - layer_unit s l) in omega (arith, count, less)) in
      let low = length-range_with_len (layer_unit s m) (layer_unit s m + 1 - layer_unit s m) in
      let high = length-range_with_len (layer_unit s l) (layer_unit s l + 1 - layer_unit s l) in
      let first = layer_is s m h in
      let second = layer_is s l k in
      let equal : l ≡ m = omega (arith, one, two, low, high, lt, less, first, second, same) in
      clash (sym e ∙ eq-eqb l m equal)

  same_place : (a b : Spot) (A : IsAt n a) (B : IsAt n b) → a.name ≡ b.name → A.stretch ≡ B.stretch
  same_place a b A B names =
      let location : Some A.location ≡ Some B.location = sym A.named ∙ ap (λ name. position (bytes_eq name) n.names) names ∙ B.named in
      let found : Some A.stretch ≡ Some B.stretch = sym A.is ∙ ap (option_and_then (slice_get n.stretches)) location ∙ B.is in
      cc

  -- a location has one name
  same_name : (a b : Spot) (A : IsAt n a) (B : IsAt n b) → A.location ≡ B.location → b.name ≡ a.name
  same_name a b A B location =
      let one = (bytes_eq-Decides a.name (get_or n.names A.location [])).0 (position-Some (bytes_eq a.name) n.names A.location [] A.named).1 in
      let two = (bytes_eq-Decides b.name (get_or n.names B.location [])).0 (position-Some (bytes_eq b.name) n.names B.location [] B.named).1 in
      two ∙ ap (λ p. get_or n.names p []) (sym location) ∙ sym one

module _ (frame : Frame) where
  abbrev n : Numbering
  n = numbering frame

  spots_apart : (a b : Spot) → IsAt n a → IsAt n b → clashes.clash b a ≡ false → Apart (units_of n a) (units_of n b)
  spots_apart a b A B none = by_name (bytes_eq b.name a.name) refl none
    where
      other_place : (A.location ≡ B.location → ⊥) → Apart (units_of (numbering frame) a) (units_of (numbering frame) b)
      other_place differ = apart_between (units_of (numbering frame) a) (units_of (numbering frame) b) A.stretch.first (A.stretch.first + A.stretch.layers) B.stretch.first (B.stretch.first + B.stretch.layers) (between (numbering frame) a A) (between (numbering frame) b B)
          (⊎_elim
          (λ lt. inl (one_after 0 frame.resources A.location B.location A.stretch B.stretch A.is B.is lt))
          (λ le. inr (one_after 0 frame.resources B.location A.location B.stretch A.stretch B.is A.is (below le)))
          (cases_lt A.location B.location))
        where
          below : B.location ≤ A.location → B.location < A.location
          below le = ⊎_elim (λ h. h) (λ h. absurd (differ (omega (arith, le, h)))) (cases_lt B.location A.location)

      by_name : (t : Bool) → bytes_eq b.name a.name ≡ t → (t && clashes.layers_clash b.layer a.layer) ≡ false → Apart (units_of (numbering frame) a) (units_of (numbering frame) b)
      by_name true e layers =
          let name : b.name ≡ a.name = (bytes_eq-Decides b.name a.name).0 e in
          let location : A.stretch ≡ B.stretch = same_place (numbering frame) a b A B (sym name) in
          subst (λ us. Apart us (units_of (numbering frame) b)) (sym (units_are (numbering frame) a A))
          (subst (Apart (units_in (span_in a.layer A.stretch))) (sym (units_are (numbering frame) b B ∙ ap (λ s. units_in (span_in b.layer s)) (sym location)))
          (layers_apart (numbering frame) A.stretch a.layer b.layer A.layer (subst (λ s. has_layer b.layer s ≡ true) (sym location) B.layer) layers))
      by_name false e layers = other_place (λ location. clash (sym e ∙ (bytes_eq-Decides b.name a.name).1 (same_name (numbering frame) a b A B location)))

  module _ (named : name_broken frame ≡ None) where
    exports_known : All (λ spot. is_known (numbering frame) spot ≡ true) frame.exports
    exports_known =
        let passes : Option Location = first_in (unknown_in frame (numbering frame)) 0 frame.passes in
        let exports = position (λ spot. not (is_known (numbering frame) spot)) frame.exports in
        all_pass (is_known (numbering frame)) frame.exports (map_none (λ i. at.Export i) exports (or_second passes (option_map (λ i. at.Export i) exports) (unknown_none frame named)))

    exports_apart : clashes.first_clash frame.exports ≡ None
    exports_apart =
        let queues : Option Location = option_map (λ i. at.Queue i) (first_repeat (map (λ q. q.name) frame.queues)) in
        let resources : Option Location = option_map (λ i. at.Resource i) (first_repeat (map (λ r. r.name) frame.resources)) in
        let passes : Option Location = first_in (repeats_in (map (λ p. p.name) frame.passes)) 0 frame.passes in
        let exports : Option Location = option_map (λ i. at.Export i) (clashes.first_clash frame.exports) in
        map_none (λ i. at.Export i) (clashes.first_clash frame.exports)
        (or_second passes exports (or_second resources (option_or passes exports) (or_second queues (option_or resources (option_or passes exports)) (repeated_none frame named))))

    never_clash : (i j : ℕ) (d : Spot) → i < j → j < length frame.exports → clashes.clash (get_or frame.exports j d) (get_or frame.exports i d) ≡ false
    never_clash i j d less lt =
        let b : Spot = get_or frame.exports j d in
        let z : 0 + j ≡ j = omega arith in
        let here : clashes.clashes_at frame.exports j (get_or frame.exports j d) ≡ None = subst (λ k. clashes.clashes_at frame.exports k (get_or frame.exports j d) ≡ None) z (first_none (clashes.clashes_at frame.exports) 0 frame.exports exports_apart j d lt) in
        let never : list_any (clashes.clash b) (take j frame.exports) ≡ false = not_none (list_any (clashes.clash b) (take j frame.exports)) j here in
        go (clashes.clash b (get_or frame.exports i d)) refl never
      where
        go : (t : Bool) → clashes.clash (get_or frame.exports j d) (get_or frame.exports i d) ≡ t → list_any (clashes.clash (get_or frame.exports j d)) (take j frame.exports) ≡ false → t ≡ false
        go false e never = refl
        go true e never =
            let count = length-take-le j frame.exports (omega (arith, lt)) in
            let same : get_or (take j frame.exports) i d ≡ get_or frame.exports i d = get_or-take j frame.exports i d less in
            absurd (clash (sym never ∙ list_any_at (clashes.clash (get_or frame.exports j d)) (take j frame.exports) i d (omega (arith, count, less)) (ap (clashes.clash (get_or frame.exports j d)) same ∙ e)))

    pub exports_once : AllPairs (λ unit other. unit ≢ other) (numbered frame).exports
    exports_once = differ_all (units_of (numbering frame)) frame.exports
        (λ k d lt. own_differ (numbering frame) (get_or frame.exports k d))
        (λ i j d less lt. spots_apart (get_or frame.exports i d) (get_or frame.exports j d)
        (located (numbering frame) (get_or frame.exports i d) (exports_known i d (omega (arith, less, lt))))
        (located (numbering frame) (get_or frame.exports j d) (exports_known j d lt))
        (never_clash i j d less lt))
