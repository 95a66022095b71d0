-- A generated frame goes over no limit, and breaks no rule on names.
use Rattle.std.proofs.Common.{◌≡◌, ℕ, suc, ◌+◌, ◌-◌, ◌*◌, ◌/◌, ◌%◌, ◌==◌, ◌^◌, ◌<◌, ◌≤◌, nat_le, nat_lt, not, Bool, true, false, List, [], ◌∷◌, length, map, get_or, cond, Option, Some, None, Result, Ok, Err, is_some, if◌then◌else◌, refl, sym, ap, ap₂, ◌∙◌, subst, arith}
use Rattle.std.specs.List.{All, find, position, range_with_len, sum_by}
use Rattle.std.specs.Option.{option_or, option_map, option_map_or}
use Rattle.std.specs.Str.{bytes_eq}
use Rattle.std.proofs.Math.Nat.{suc-mul, zero-mul}
use Rattle.std.proofs.lemmas.Bool.{le-leb, le-ltb}
use Rattle.std.proofs.lemmas.List.Elements.{All-map}
use Rattle.std.proofs.lemmas.List.FromFn.{length-range_with_len, length-map-range_with_len, get_or-map-range_with_len}
use Rattle.std.proofs.lemmas.List.Sums.{sum_by-cons}
use Rattle.base.proofs.Absence.{first_none}
use Rattle.base.proofs.Lists.{one}
use Rattle.base.proofs.Rooms.{never_over}
use Rattle.base.specs.Bounds.{sides_allowed, size_allowed}
use Rattle.base.specs.Broken.{of_rule}
use Rattle.base.specs.Operands.{operands_of}
use Rattle.base.specs.Walks.{first_in}
use Rattle.base.specs.declared.limit.Limit.TheVariants as limits
use Rattle.frame.proofs.Sufficient.{none_found, none_in}
use Rattle.frame.specs.FirstFault.{name_broken}
use Rattle.frame.specs.Limits.{over, layers_allowed, all_bytes, op_count, spend_pass, exported as units_exported, limit_broken}
use Rattle.frame.specs.Members.{member_at}
use Rattle.base.specs.Rooms.{first_over, go_on, not_lasting, spend_in}
use Rattle.frame.specs.Repeats.{first_repeat, repeats_at, repeats_in, repeated}
use Rattle.frame.specs.Unknowns.{has_queue, is_known, is_known_unit, unknown_at, unknown_in, unknown_operand, unknown}
use Rattle.frame.specs.declared.frame.Frame.{Frame}
use Rattle.frame.specs.declared.frame.Pass.{Pass}
use Rattle.frame.specs.declared.frame.Resource.{Resource}
use Rattle.frame.specs.declared.frame.Spot.{Spot}
use Rattle.frame.specs.declared.frame.Write.{Write}
use Rattle.frame.specs.declared.location.Location.{Location}
use Rattle.frame.specs.declared.location.Location.TheVariants as at
use Rattle.frame.specs.declared.rule.Rule.TheVariants as rules
use Rattle.frame_gen.specs.Generated.{pass_name, spot, resource, resource_name, queues, queue_by, pass_by, exported, generated}
use Rattle.frame_gen.specs.Operations.{drawn, kind_of, first_source, second_source, op_by, reads_by}
use Rattle.frame_gen.proofs.Apart.{names_once, spots_once}
use Rattle.frame_gen.proofs.ByKind.{few_kinds, no_rects, operands_all, reads_differ}
use Rattle.frame_gen.proofs.Exported.{few_exported, exported_differ, exported_small}
use Rattle.frame_gen.proofs.Numbering.{N, a_small, b_small, reads_small, known, known_unit, range_small, range_differs, names_are}

-- SIZES

-- entries of one size
sum_equal : {X Y : Type 0} (size : Y → ℕ) (f : X → Y) (each : ℕ) (xs : List X) → ((x : X) → size (f x) ≡ each) → sum_by size (map f xs) ≡ length xs * each
sum_equal size f each [] is = sym (zero-mul each)
sum_equal size f each (x ∷ xs) is =
    let rest = sum_equal size f each xs is in
    let more : suc (length xs) * each ≡ length xs * each + each = suc-mul (length xs) each in
    let here = is x in
    sum_by-cons size (f x) (map f xs) ∙ omega (arith, rest, more, here)

one_layer : (test : Resource → Bool) (ns : List ℕ) → option_map_or (λ r. r.layers) (find test (map resource ns)) 1 ≡ 1
one_layer test [] = refl
one_layer test (i ∷ is) = by_test (test (resource i)) (one_layer test is)
  where
    by_test : (t : Bool) → option_map_or (λ r. r.layers) (find test (map resource is)) 1 ≡ 1 → option_map_or (λ r. r.layers) (cond t (Some (resource i)) (find test (map resource is))) 1 ≡ 1
    by_test true rest = refl
    by_test false rest = rest

rects_spent : (number room p : ℕ) (is : List ℕ) → spend_in spend_pass room p (map (λ i. pass_by (drawn number i) i) is) ≡ Ok room
rects_spent number room p [] = refl
rects_spent number room p (i ∷ is) =
    let w = drawn number i in
    let none = no_rects (kind_of w i) (few_kinds w i) w (spot (first_source w i)) (spot (second_source w i)) (spot i) in
    let left : ◌≡◌ {A = Result ℕ Location} (Ok (room - 0)) (Ok room) = (let same : room - 0 ≡ room = omega arith in ap (λ m. Ok m) same) in
    let step : Result ℕ Location → Result ℕ Location = λ r. go_on (λ m. spend_in spend_pass m (suc p) (map (λ i. pass_by (drawn number i) i) is)) (go_on (λ m. Ok m) r) in
    ap (λ k. step (if nat_lt room k then Err (at.Rects p 0) else Ok (room - k))) none
    ∙ ap (λ t. step (if t then Err (at.Rects p 0) else Ok (room - 0))) (le-ltb room 0 (omega arith))
    ∙ ap step left ∙ rects_spent number room (suc p) is

module _ (number n : ℕ) (few : n ≤ 256) where
  abbrev frame : Frame
  frame = generated number n

  abbrev all : List ℕ
  all = range_with_len 0 n

  abbrev pass_at : ℕ → Pass
  pass_at i = pass_by (drawn number i) i

  size_all : length all ≡ n
  size_all = length-range_with_len 0 n

  -- LIMITS

  of_resources : (size : Resource → ℕ) (each : ℕ) → ((i : ℕ) → size (resource i) ≡ each) → (room : ℕ) → n * each ≤ room → first_over size room 0 frame.resources ≡ None
  of_resources size each is room fits = never_over size frame.resources room 0 (subst (λ s. s ≤ room) (sym (sum_equal size resource each all is ∙ ap (λ m. m * each) size_all)) fits)

  all_resources : (test : Resource → Bool) → ((i : ℕ) → test (resource i) ≡ true) → position (λ r. not (test r)) frame.resources ≡ None
  all_resources test is = none_found (λ r. not (test r)) frame.resources (All-map (λ r. not (test r) ≡ false) resource all (λ k d lt. ap not (is (get_or all k d))))

  few_resources : first_over (λ r. r.layers) 256 0 frame.resources ≡ None
  few_resources = of_resources (λ r. r.layers) 1 (λ i. refl) 256 (omega (arith, few))

  few_bytes : first_over all_bytes 268435456 0 frame.resources ≡ None
  few_bytes = of_resources all_bytes 16384 (λ i. refl) 268435456 (omega (arith, few))

  few_ops : first_over op_count 256 0 frame.passes ≡ None
  few_ops = never_over op_count frame.passes 256 0 (let sum = sum_equal op_count pass_at 1 all (λ i. refl) in omega (arith, sum, size_all, few))

  few_exports : first_over (units_exported frame) 32 0 frame.exports ≡ None
  few_exports = never_over (units_exported frame) frame.exports 32 0 (
      let sum = sum_equal (units_exported frame) spot 1 (exported n) (λ i. one_layer (λ r. bytes_eq r.name (resource_name i)) all) in
      let size = few_exported n few in
      omega (arith, sum, size))

  few_passes : nat_le (length frame.passes) 256 ≡ true
  few_passes = let size = length-map-range_with_len pass_at 0 n in le-leb (length frame.passes) 256 (omega (arith, size, few))

  no_limit : limit_broken frame ≡ None
  no_limit =
      ap₂ option_or
      (ap₂ option_or (ap (option_map (λ i. over limits.Layers (at.Resource i))) (all_resources layers_allowed (λ i. refl)))
      (ap₂ option_or (ap (option_map (λ i. over limits.Resources at.Resources)) few_resources)
      (ap₂ option_or (ap (λ t. if t then None else Some (over limits.Passes at.Passes)) few_passes)
      (ap₂ option_or (ap (option_map (λ p. over limits.Ops (at.Ops p))) few_ops)
      (ap₂ option_or (ap (λ left. option_map (over limits.Rects) (not_lasting left)) (rects_spent number 4096 0 all)) (ap (option_map (λ i. over limits.Exports at.Exports)) few_exports))))))
      (ap₂ option_or (ap (option_map (λ i. over limits.Side (at.Resource i))) (all_resources (λ r. sides_allowed r.shape) (λ i. refl)))
      (ap₂ option_or (ap (option_map (λ i. over limits.Size (at.Resource i))) (all_resources (λ r. size_allowed r.shape) (λ i. refl))) (ap (option_map (λ i. over limits.Total (at.Resource i))) few_bytes)))

  -- NAMES

  pass_names : (is : List ℕ) → map (λ p. p.name) (map pass_at is) ≡ map pass_name is
  pass_names [] = refl
  pass_names (i ∷ is) = ap (λ names. pass_name i ∷ names) (pass_names is)

  -- a rule that gives nothing at any pass
  over_passes : {Y : Type 0} (rule : ℕ → Pass → Option Y) → ((i : ℕ) → i < n → rule i (pass_at i) ≡ None) → first_in rule 0 frame.passes ≡ None
  over_passes rule none = none_in rule frame.passes (λ p d lt.
      let size = length-map-range_with_len pass_at 0 n in
      let less : p < n = omega (arith, size, lt) in
      subst (λ pass. rule p pass ≡ None) (sym (get_or-map-range_with_len pass_at 0 n p p d less (omega arith))) (none p less))

  small_numbers : (ns : List ℕ) → All (λ x. x < n) ns → All (λ x. x < 2 ^ 32) ns
  small_numbers ns small = λ k d lt. let less = small k d lt in omega (arith, less, few)

  name_once : (i : ℕ) → i < n → repeats_at (map (λ p. p.name) frame.passes) i (pass_name i) ≡ None
  name_once i lt =
      let names = map pass_name all in
      let size = length-map-range_with_len pass_name 0 n in
      let at_i : get_or names i [] ≡ pass_name i = get_or-map-range_with_len pass_name 0 n i i [] lt (omega arith) in
      let here = first_none (repeats_at names) 0 names (names_once all (range_small n few) (range_differs n) 112) i [] (omega (arith, size, lt)) in
      let zero_on : 0 + i ≡ i = omega arith in
      ap (λ ns. repeats_at ns i (pass_name i)) (pass_names all) ∙ subst (λ name. repeats_at names i name ≡ None) at_i (subst (λ j. repeats_at names j (get_or names i []) ≡ None) zero_on here)

  entries_once : (i : ℕ) → i < n → repeats_in (map (λ p. p.name) frame.passes) i (pass_at i) ≡ None
  entries_once i lt =
      let w = drawn number i in
      let reads = reads_by (kind_of w i) (first_source w i) (second_source w i) in
      ap₂ option_or (ap (option_map (λ j. at.Pass j)) (name_once i lt))
      (ap (λ o. option_or (option_map (λ k. at.Read i k) o) None) (spots_once reads (small_numbers reads (reads_small n few w i lt)) (reads_differ (kind_of w i) (few_kinds w i) (first_source w i) (second_source w i))))

  nothing_repeated : repeated frame ≡ None
  nothing_repeated =
      ap₂ option_or (ap (option_map (λ i. at.Resource i)) (ap first_repeat (names_are all) ∙ names_once all (range_small n few) (range_differs n) 114))
      (ap₂ option_or (over_passes (repeats_in (map (λ p. p.name) frame.passes)) entries_once)
      (ap (option_map (λ i. at.Export i)) (spots_once (exported n) (small_numbers (exported n) (exported_small n)) (exported_differ n))))

  queue_known : (kind w : ℕ) → has_queue frame (queue_by kind w) ≡ true
  queue_known kind w = by_tests (kind == 4) (w / 125 % 2 == 0)
    where
      by_tests : (t u : Bool) → is_some (position (λ q. bytes_eq q.name (if t then 116 ∷ [] else (if u then 103 ∷ [] else 99 ∷ []))) queues) ≡ true
      by_tests true u = refl
      by_tests false true = refl
      by_tests false false = refl

  spots_known : (ns : List ℕ) → All (λ x. x < n) ns → position (λ s. not (is_known (N n few) s)) (map spot ns) ≡ None
  spots_known ns small = none_found (λ s. not (is_known (N n few) s)) (map spot ns) (All-map (λ s. not (is_known (N n few) s) ≡ false) spot ns (λ k d lt. ap not (known n few (get_or ns k d) (small k d lt))))

  operands_known : (i : ℕ) → i < n → unknown_operand (N n few) i 0 (op_by (kind_of (drawn number i) i) (drawn number i) (spot (first_source (drawn number i) i)) (spot (second_source (drawn number i) i)) (spot i)) ≡ None
  operands_known i lt =
      let w = drawn number i in
      let a = first_source w i in
      let b = second_source w i in
      let op = op_by (kind_of w i) w (spot a) (spot b) (spot i) in
      let each = operands_all (λ s. is_known_unit (N n few) s ≡ true) (kind_of w i) (few_kinds w i) w (spot a) (spot b) (spot i) (known_unit n few a (a_small n few w i lt)) (known_unit n few b (b_small n few w i lt)) (known_unit n few i lt) in
      none_in (unknown_at (N n few) i 0 op) (operands_of op) (λ j d less. ap (λ t. if t then None else Some (at.Operand i 0 (member_at op j))) (each j d less))

  pass_known : (i : ℕ) → i < n → unknown_in frame (N n few) i (pass_at i) ≡ None
  pass_known i lt =
      let w = drawn number i in
      let reads = reads_by (kind_of w i) (first_source w i) (second_source w i) in
      ap₂ option_or (ap (λ t. if t then None else Some (at.PassQueue i)) (queue_known (kind_of w i) w))
      (ap₂ option_or (ap (option_map (λ k. at.Read i k)) (spots_known reads (reads_small n few w i lt)))
      (ap₂ option_or (ap (option_map (λ k. at.Write i k)) (none_found (λ (x : Write Spot). not (is_known (N n few) x.what)) (record { what = spot i; fresh = true } ∷ []) (one (λ (x : Write Spot). not (is_known (N n few) x.what) ≡ false) (record { what = spot i; fresh = true }) (ap not (known n few i lt)))))
      (ap (λ o. option_or o None) (operands_known i lt))))

  nothing_unknown : unknown frame ≡ None
  nothing_unknown =
      ap₂ option_or (over_passes (unknown_in frame (N n few)) pass_known)
      (ap (option_map (λ i. at.Export i)) (spots_known (exported n) (exported_small n)))

  pub names_good : name_broken frame ≡ None
  names_good =
      ap₂ option_or no_limit
      (ap₂ option_or (ap (option_map (of_rule rules.Repeated)) nothing_repeated) (ap (option_map (of_rule rules.Unknown)) nothing_unknown))
