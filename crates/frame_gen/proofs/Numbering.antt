-- A generated frame's names as numbers.
use Rattle.std.proofs.Common.{◌≡◌, ◌≢◌, ℕ, zero, suc, ◌+◌, ◌-◌, ◌/◌, ◌%◌, ◌==◌, ◌<◌, ◌≤◌, ◌^◌, ◌++◌, Bool, true, false, List, [], ◌∷◌, length, map, get_or, slice_get, replicate, Some, None, unwrap_or, if◌then◌else◌, refl, sym, ap, ap₂, ◌∙◌, subst, arith}
use Rattle.std.specs.List.{All, AllPairs, flat_map, position, range_with_len}
use Rattle.std.specs.Option.{option_map_or, option_and_then}
use Rattle.std.specs.Str.{bytes_eq}
use Rattle.std.proofs.lemmas.List.Elements.{All-head, All-tail}
use Rattle.std.proofs.lemmas.List.FromFn.{length-range_with_len, length-map-range_with_len, get_or-range_with_len, get_or-map-range_with_len}
use Rattle.std.proofs.lemmas.Option.{slice_get_read}
use Rattle.base.specs.Operands.{mapped}
use Rattle.frame.proofs.Lookups.{found_by}
use Rattle.frame.specs.Numbered.{numbered_pass, write_each}
use Rattle.frame.specs.Units.{Numbering, stretches, stretch_of, layer_unit, units_in, units_of, unit_of, units_from}
use Rattle.frame.specs.Unknowns.{is_known, is_known_unit, has_layer, picks_one}
use Rattle.frame.specs.declared.frame.Resource.{Resource}
use Rattle.frame.specs.declared.numbered.Stretch.{Stretch}
use Rattle.frame_gen.specs.Internal.Numbers.{image, queue_number_by, numbered_at}
use Rattle.frame_gen.specs.Generated.{resource_name, spot, resource, queues, queue_by, pass_by, generated}
use Rattle.frame_gen.specs.Operations.{drawn, kind_of, first_source, second_source, op_by, reads_by}
use Rattle.frame_gen.proofs.Apart.{names_once}
use Rattle.frame_gen.proofs.ByKind.{few_kinds, never_later, op_mapped, reads_all}

-- RESOURCES AND THEIR UNITS

abbrev all_of : ℕ → List ℕ
all_of n = range_with_len 0 n

abbrev resources : ℕ → List Resource
resources n = map resource (all_of n)

-- the units of resource i
abbrev only : ℕ → Stretch
only i = record { first = i; layers = 1; is_image = true }

pub names_are : (ns : List ℕ) → map (λ r. r.name) (map resource ns) ≡ map resource_name ns
names_are [] = refl
names_are (n ∷ ns) = ap (λ names. resource_name n ∷ names) (names_are ns)

stretches_are : (first n : ℕ) → stretches first (map resource (range_with_len first n)) ≡ map only (range_with_len first n)
stretches_are first zero = refl
stretches_are first (suc n) = ap (λ ss. only first ∷ ss) (stretches_are (first + 1) n)

pub units_are : (ns : List ℕ) → flat_map units_from (map resource ns) ≡ replicate (length ns) image
units_are [] = refl
units_are (n ∷ ns) = ap (λ us. image ∷ us) (units_are ns)

pub range_below : (n : ℕ) → All (λ x. x < n) (all_of n)
range_below n = λ k d lt.
    let size = length-range_with_len 0 n in
    let is = get_or-range_with_len 0 n k d (omega (arith, size, lt)) in
    omega (arith, is, size, lt)

pub range_small : (n : ℕ) → n ≤ 256 → All (λ x. x < 2 ^ 32) (all_of n)
range_small n few = λ k d lt. let below = range_below n k d lt in omega (arith, below, few)

pub range_differs : (n : ℕ) → AllPairs (λ x y. x ≢ y) (all_of n)
range_differs n = λ i j d less lt.
    let size = length-range_with_len 0 n in
    let a = get_or-range_with_len 0 n i d (omega (arith, size, less, lt)) in
    let b = get_or-range_with_len 0 n j d (omega (arith, size, lt)) in
    λ same. omega (arith, a, b, same, less)

module _ (n : ℕ) (few : n ≤ 256) where
  -- the numbering of a frame of so many passes
  abbrev pub N : Numbering
  N = record { names = map (λ r. r.name) (resources n); stretches = stretches 0 (resources n) }

  named_at : (i : ℕ) → i < n → position (bytes_eq (resource_name i)) N.names ≡ Some i
  named_at i lt =
      let once = names_once (all_of n) (range_small n few) (range_differs n) 114 in
      let size = length-map-range_with_len resource_name 0 n in
      let here = found_by (map resource_name (all_of n)) once i (omega (arith, size, lt)) in
      let name : get_or (map resource_name (all_of n)) i [] ≡ resource_name i = get_or-map-range_with_len resource_name 0 n i i [] lt (omega arith) in
      ap (position (bytes_eq (resource_name i))) (names_are (all_of n)) ∙ subst (λ name. position (bytes_eq name) (map resource_name (all_of n)) ≡ Some i) name here

  stretch_at : (i : ℕ) → i < n → slice_get N.stretches i ≡ Some (only i)
  stretch_at i lt =
      let size = length-map-range_with_len only 0 n in
      let is : get_or (map only (all_of n)) i (only i) ≡ only i = get_or-map-range_with_len only 0 n i i (only i) lt (omega arith) in
      ap (λ ss. slice_get ss i) (stretches_are 0 n) ∙ slice_get_read (map only (all_of n)) n i (only i) (sym size) lt (sym is)

  pub stretch_is : (i : ℕ) → i < n → stretch_of N (resource_name i) ≡ Some (only i)
  stretch_is i lt = ap (option_and_then (slice_get N.stretches)) (named_at i lt) ∙ stretch_at i lt

  pub known : (i : ℕ) → i < n → is_known N (spot i) ≡ true
  known i lt = ap (λ o. option_map_or (has_layer None) o false) (stretch_is i lt)

  pub known_unit : (i : ℕ) → i < n → is_known_unit N (spot i) ≡ true
  known_unit i lt = ap (λ o. option_map_or (picks_one None) o false) (stretch_is i lt)

  pub unit_is : (i : ℕ) → i < n → unit_of N (spot i) ≡ i
  unit_is i lt = ap (λ o. option_map_or (λ s. layer_unit s 0) o 0) (stretch_is i lt) ∙ (let e : i + 0 ≡ i = omega arith in e)

  pub units_is : (i : ℕ) → i < n → units_of N (spot i) ≡ i ∷ []
  units_is i lt = ap (λ o. units_in (option_map_or (λ s. record { first = s.first; end = s.first + s.layers }) o (record { first = 0; end = 0 }))) (stretch_is i lt) ∙ ap (range_with_len i) (let e : i + 1 - i ≡ 1 = omega arith in e)

  -- entries are the units of their numbers
  pub all_units : (ns : List ℕ) → All (λ x. x < n) ns → flat_map (units_of N) (map spot ns) ≡ ns
  all_units [] small = refl
  all_units (x ∷ xs) small = ap₂ (λ a b. a ++ b) (units_is x (All-head (λ y. y < n) x xs small)) (all_units xs (All-tail (λ y. y < n) x xs small))

  module _ (w i : ℕ) (lt : i < n) where
    abbrev kind : ℕ
    kind = kind_of w i

    abbrev a : ℕ
    a = first_source w i

    abbrev b : ℕ
    b = second_source w i

    pub a_small : a < n
    a_small = let le = never_later (w / 5) i in omega (arith, le, lt)

    pub b_small : b < n
    b_small = let le = never_later (w / 25) i in omega (arith, le, lt)

    pub reads_small : All (λ x. x < n) (reads_by kind a b)
    reads_small = reads_all (λ x. x < n) kind (few_kinds w i) a b (λ e. a_small) (λ e. b_small)

  queue_is : (kind w : ℕ) → unwrap_or (position (λ q. bytes_eq q.name (queue_by kind w)) queues) 0 ≡ queue_number_by kind w
  queue_is kind w = by_tests (kind == 4) (w / 125 % 2 == 0)
    where
      by_tests : (t u : Bool) → unwrap_or (position (λ q. bytes_eq q.name (if t then 116 ∷ [] else (if u then 103 ∷ [] else 99 ∷ []))) queues) 0 ≡ (if t then 2 else (if u then 0 else 1))
      by_tests true u = refl
      by_tests false true = refl
      by_tests false false = refl

  pass_is : (number w i : ℕ) → i < n → numbered_pass (generated number n) N (pass_by w i) ≡ numbered_at w i
  pass_is number w i lt =
      let k = kind_of w i in
      let reads = all_units (reads_by k (first_source w i) (second_source w i)) (reads_small w i lt) in
      let writes : map (write_each true) (units_of N (spot i)) ++ [] ≡ record { what = i; fresh = true } ∷ [] = ap (λ us. map (write_each true) us ++ []) (units_is i lt) in
      let op : mapped (unit_of N) (op_by k w (spot (first_source w i)) (spot (second_source w i)) (spot i)) ≡ op_by k w (first_source w i) (second_source w i) i =
      op_mapped (unit_of N) k w (spot (first_source w i)) (spot (second_source w i)) (spot i)
      ∙ ap (λ x. op_by k w x (unit_of N (spot (second_source w i))) (unit_of N (spot i))) (unit_is (first_source w i) (a_small w i lt))
      ∙ ap₂ (λ x y. op_by k w (first_source w i) x y) (unit_is (second_source w i) (b_small w i lt)) (unit_is i lt) in
      ap (λ q. record { queue = q; reads = flat_map (units_of N) (map spot (reads_by k (first_source w i) (second_source w i))); writes = map (write_each true) (units_of N (spot i)) ++ []; ops = mapped (unit_of N) (op_by k w (spot (first_source w i)) (spot (second_source w i)) (spot i)) ∷ []; side_effect = false }) (queue_is k w)
      ∙ ap₂ (λ rs ws. record { queue = queue_number_by k w; reads = rs; writes = ws; ops = mapped (unit_of N) (op_by k w (spot (first_source w i)) (spot (second_source w i)) (spot i)) ∷ []; side_effect = false }) reads writes
      ∙ ap (λ o. record { queue = queue_number_by k w; reads = reads_by k (first_source w i) (second_source w i); writes = record { what = i; fresh = true } ∷ []; ops = o ∷ []; side_effect = false }) op

  pub passes_are : (number : ℕ) (is : List ℕ) → All (λ i. i < n) is → map (numbered_pass (generated number n) N) (map (λ i. pass_by (drawn number i) i) is) ≡ map (λ i. numbered_at (drawn number i) i) is
  passes_are number [] small = refl
  passes_are number (i ∷ is) small = ap₂ (λ p ps. p ∷ ps) (pass_is number (drawn number i) i (All-head (λ j. j < n) i is small)) (passes_are number is (All-tail (λ j. j < n) i is small))
