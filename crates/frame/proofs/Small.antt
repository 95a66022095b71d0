-- What the limits and the rules on names leave.
use Rattle.std.proofs.Common.{subst, zero, suc, if◌then◌else◌, map, ◌≡◌, ℕ, ◌+◌, ◌-◌, ◌^◌, ◌<◌, ◌≤◌, ◌==◌, ◌&&◌, nat_le, List, [], ◌∷◌, length, get_or, slice_get, not, is_some, Bool, true, false, Option, None, Some, refl, sym, ap, ap₂, ◌∙◌, arith, replicate}
use Rattle.std.specs.List.{position, All, flat_map, range_with_len, sum_by}
use Rattle.std.specs.Option.{option_or, option_map}
use Rattle.std.proofs.lemmas.Bool.{leb-true, eqb-true}
use Rattle.std.proofs.lemmas.List.{length-append, length-map, length-replicate}
use Rattle.std.proofs.lemmas.List.Elements.{All-map}
use Rattle.std.proofs.lemmas.List.FromFn.{length-map-range_with_len}
use Rattle.std.proofs.lemmas.List.Sums.{sum_by-cons}
use Rattle.std.proofs.lemmas.Option.{slice_get_read}
use Rattle.base.proofs.Rooms.{all_fit}
use Rattle.base.specs.Bounds.{is_between, sides_allowed, size_allowed}
use Rattle.base.specs.Broken.{of_rule}
use Rattle.base.specs.Shapes.{is_buffer}
use Rattle.base.specs.declared.broken.Broken.{Broken}
use Rattle.base.specs.declared.limit.Limit.TheVariants as limits
use Rattle.base.specs.declared.shape.Shape.{Shape}
use Rattle.vk.specs.declared.sharing.Sharing.{Sharing}
use Rattle.frame.proofs.Known.{uses_within}
use Rattle.base.proofs.Absence.{all_pass, or_first, or_second, map_none, has_it}
use Rattle.frame.specs.FirstFault.{shapes_of, sharings_of, imports_of, name_broken, use_broken, first_broken, first_fault, AllWithin}
use Rattle.frame.specs.Limits.{over, layers_allowed, all_bytes, op_count, rects_over, exported, count_broken, size_broken, limit_broken}
use Rattle.frame.specs.Numbered.{IsWithin, numbered, numbered_pass, uses_of, all_uses, export_units}
use Rattle.frame.specs.Resolved.{resolved_of}
use Rattle.frame.specs.Paths.{fault_of}
use Rattle.base.specs.Rooms.{first_over}
use Rattle.frame.specs.Repeats.{repeated}
use Rattle.frame.specs.Units.{Numbering, numbering, span_of, layers_of, units, units_from, unit_from, owners, spots_of, layer_spot, unit_spots}
use Rattle.frame.specs.Unknowns.{unknown}
use Rattle.frame.specs.declared.frame.Frame.{Frame}
use Rattle.frame.specs.declared.frame.Pass.{Pass}
use Rattle.frame.specs.declared.frame.QueueDecl.{QueueDecl}
use Rattle.frame.specs.declared.frame.Resource.{Resource}
use Rattle.frame.specs.declared.frame.Spot.{Spot}
use Rattle.frame.specs.declared.valid.Resolved.{Resolved}
use Rattle.frame.specs.declared.numbered.NumberedPass.{NumberedPass}
use Rattle.frame.specs.declared.numbered.Span.{Span}
use Rattle.frame.specs.declared.numbered.Uses.{Uses}
use Rattle.frame.specs.declared.location.Location.{Location}
use Rattle.frame.specs.declared.location.Location.TheVariants as at
use Rattle.frame.specs.declared.rule.Rule.{Rule}
use Rattle.frame.specs.declared.rule.Rule.TheVariants as rules

-- LIMITS

no_fault : {A : Type 0} (x : A) → ◌≡◌ {A = Option A} (Some x) None → ⊥
no_fault x e = cc

layers_sum : (rs : List Resource) → sum_by (λ r. r.layers) rs ≡ layers_of rs
layers_sum [] = refl
layers_sum (r ∷ rs) = sum_by-cons (λ r. r.layers) r rs ∙ ap (λ n. r.layers + n) (layers_sum rs)

-- the limits one after another
module _ (frame : Frame) (none : limit_broken frame ≡ None) where
  abbrev layers : Option (Broken Rule Location)
  layers = option_map (λ i. over limits.Layers (at.Resource i)) (position (λ r. not (layers_allowed r)) frame.resources)

  abbrev queues : Option (Broken Rule Location)
  queues = if is_between 1 4 (length frame.queues) then None else Some (over limits.Queues at.Queues)

  abbrev resources : Option (Broken Rule Location)
  resources = option_map (λ i. over limits.Resources at.Resources) (first_over (λ r. r.layers) 256 0 frame.resources)

  abbrev passes : Option (Broken Rule Location)
  passes = if nat_le (length frame.passes) 256 then None else Some (over limits.Passes at.Passes)

  abbrev ops : Option (Broken Rule Location)
  ops = option_map (λ p. over limits.Ops (at.Ops p)) (first_over op_count 256 0 frame.passes)

  abbrev rects : Option (Broken Rule Location)
  rects = option_map (over limits.Rects) (rects_over frame.passes)

  abbrev exports : Option (Broken Rule Location)
  exports = option_map (λ i. over limits.Exports at.Exports) (first_over (exported frame) 32 0 frame.exports)

  abbrev others : Option (Broken Rule Location)
  others = option_or ops (option_or rects exports)

  abbrev rest : Option (Broken Rule Location)
  rest = option_or passes others

  counts : count_broken frame ≡ None
  counts = or_first (count_broken frame) (size_broken frame.resources) none

  layers_none : layers ≡ None
  layers_none = or_first layers (option_or queues (option_or resources rest)) counts

  after_layers : option_or queues (option_or resources rest) ≡ None
  after_layers = or_second layers (option_or queues (option_or resources rest)) counts

  queues_none : queues ≡ None
  queues_none = or_first queues (option_or resources rest) after_layers

  after_queues : option_or resources rest ≡ None
  after_queues = or_second queues (option_or resources rest) after_layers

  resources_none : resources ≡ None
  resources_none = or_first resources rest after_queues

  pub passes_few : length frame.passes ≤ 256
  passes_few = leb-true (length frame.passes) 256 (has_it (nat_le (length frame.passes) 256) (over limits.Passes at.Passes) (or_first passes others (or_second resources rest after_queues)))

  pub exports_none : first_over (exported frame) 32 0 frame.exports ≡ None
  exports_none = map_none (λ i. over limits.Exports at.Exports) (first_over (exported frame) 32 0 frame.exports) (or_second rects exports (or_second ops (option_or rects exports) (or_second passes others (or_second resources rest after_queues))))

  pub ops_none : first_over op_count 256 0 frame.passes ≡ None
  ops_none = map_none (λ p. over limits.Ops (at.Ops p)) (first_over op_count 256 0 frame.passes) (or_first ops (option_or rects exports) (or_second passes others (or_second resources rest after_queues)))

  pub rects_none : rects_over frame.passes ≡ None
  rects_none = map_none (over limits.Rects) (rects_over frame.passes) (or_first rects exports (or_second ops (option_or rects exports) (or_second passes others (or_second resources rest after_queues))))

  abbrev sides : Option (Broken Rule Location)
  sides = option_map (λ i. over limits.Side (at.Resource i)) (position (λ r. not (sides_allowed r.shape)) frame.resources)

  abbrev sizes : Option (Broken Rule Location)
  sizes = option_map (λ i. over limits.Size (at.Resource i)) (position (λ r. not (size_allowed r.shape)) frame.resources)

  abbrev total : Option (Broken Rule Location)
  total = option_map (λ i. over limits.Total (at.Resource i)) (first_over all_bytes 268435456 0 frame.resources)

  pub layers_good : All (λ r. layers_allowed r ≡ true) frame.resources
  layers_good = all_pass layers_allowed frame.resources (map_none (λ i. over limits.Layers (at.Resource i)) (position (λ r. not (layers_allowed r)) frame.resources) layers_none)

  pub sides_good : All (λ r. sides_allowed r.shape ≡ true) frame.resources
  sides_good = all_pass (λ r. sides_allowed r.shape) frame.resources (map_none (λ i. over limits.Side (at.Resource i)) (position (λ r. not (sides_allowed r.shape)) frame.resources) (or_first sides (option_or sizes total) (or_second (count_broken frame) (size_broken frame.resources) none)))

  pub total_none : first_over all_bytes 268435456 0 frame.resources ≡ None
  total_none = map_none (λ i. over limits.Total (at.Resource i)) (first_over all_bytes 268435456 0 frame.resources) (or_second sizes total (or_second sides (option_or sizes total) (or_second (count_broken frame) (size_broken frame.resources) none)))

  pub sizes_allowed : All (λ r. size_allowed r.shape ≡ true) frame.resources
  sizes_allowed = all_pass (λ r. size_allowed r.shape) frame.resources (map_none (λ i. over limits.Size (at.Resource i)) (position (λ r. not (size_allowed r.shape)) frame.resources) (or_first sizes total (or_second sides (option_or sizes total) (or_second (count_broken frame) (size_broken frame.resources) none))))

  pub few_units : layers_of frame.resources ≤ 256
  few_units =
      let fits = all_fit (λ r. r.layers) frame.resources 256 0 (map_none (λ i. over limits.Resources at.Resources) (first_over (λ r. r.layers) 256 0 frame.resources) resources_none) in
      let same = layers_sum frame.resources in
      omega (arith, same, fits)

  pub queues_few : length frame.queues ≤ 4
  queues_few = leb-true (length frame.queues) 4 (right (nat_le 1 (length frame.queues)) (nat_le (length frame.queues) 4) (has_it (is_between 1 4 (length frame.queues)) (over limits.Queues at.Queues) queues_none))
    where
      right : (a b : Bool) → (a && b) ≡ true → b ≡ true
      right true b e = e
      right false b e = absurd cc

  pub queues_some : 0 < length frame.queues
  queues_some = let least : 1 ≤ length frame.queues = leb-true 1 (length frame.queues) (left (nat_le 1 (length frame.queues)) (nat_le (length frame.queues) 4) (has_it (is_between 1 4 (length frame.queues)) (over limits.Queues at.Queues) queues_none)) in omega arith
    where
      left : (a b : Bool) → (a && b) ≡ true → a ≡ true
      left true b e = refl
      left false b e = absurd cc

  pub some_layers : All (λ r. 0 < r.layers) frame.resources
  some_layers = λ k d lt. allowed (get_or frame.resources k d) (is_buffer (get_or frame.resources k d).shape) (layers_good k d lt)
    where
      left : (a b : Bool) → (a && b) ≡ true → a ≡ true
      left true b e = refl
      left false b e = absurd cc

      allowed : (r : Resource) (b : Bool) → (if b then r.layers == 1 else is_between 1 8 r.layers) ≡ true → 0 < r.layers
      allowed r true e = let one : r.layers ≡ 1 = eqb-true r.layers 1 e in omega arith
      allowed r false e = let least : 1 ≤ r.layers = leb-true 1 r.layers (left (nat_le 1 r.layers) (nat_le r.layers 8) e) in omega arith

-- as many resources as units at most
count_few : (rs : List Resource) → All (λ r. 0 < r.layers) rs → length rs ≤ layers_of rs
count_few [] some = omega arith
count_few (r ∷ rs) some = let here : 0 < r.layers = some zero r (omega arith) in let more = count_few rs (λ k d lt. some (suc k) d (omega arith)) in omega arith

-- NAMES

pub limits_none : (frame : Frame) → name_broken frame ≡ None → limit_broken frame ≡ None
limits_none frame none = or_first (limit_broken frame) (option_or (option_map (of_rule rules.Repeated) (repeated frame)) (option_map (of_rule rules.Unknown) (unknown frame))) none

pub unknown_none : (frame : Frame) → name_broken frame ≡ None → unknown frame ≡ None
unknown_none frame none = map_none (of_rule rules.Unknown) (unknown frame) (or_second (option_map (of_rule rules.Repeated) (repeated frame)) (option_map (of_rule rules.Unknown) (unknown frame)) (or_second (limit_broken frame) (option_or (option_map (of_rule rules.Repeated) (repeated frame)) (option_map (of_rule rules.Unknown) (unknown frame))) none))

pub repeated_none : (frame : Frame) → name_broken frame ≡ None → repeated frame ≡ None
repeated_none frame none = map_none (of_rule rules.Repeated) (repeated frame) (or_first (option_map (of_rule rules.Repeated) (repeated frame)) (option_map (of_rule rules.Unknown) (unknown frame)) (or_second (limit_broken frame) (option_or (option_map (of_rule rules.Repeated) (repeated frame)) (option_map (of_rule rules.Unknown) (unknown frame))) none))

pub few_layers : (frame : Frame) → name_broken frame ≡ None → layers_of frame.resources ≤ 256
few_layers frame none = few_units frame (limits_none frame none)

pub never_repeated : (frame : Frame) (location : Location) → name_broken frame ≡ None → repeated frame ≡ Some location → ⊥
never_repeated frame location none is = no_fault location (sym is ∙ repeated_none frame none)

pub some_queue : (frame : Frame) → name_broken frame ≡ None → 0 < length frame.queues
some_queue frame none = queues_some frame (limits_none frame none)

pub few_queues : (frame : Frame) → name_broken frame ≡ None → length frame.queues ≤ 4
few_queues frame none = queues_few frame (limits_none frame none)

pub few_resources : (frame : Frame) → name_broken frame ≡ None → length frame.resources ≤ 256
few_resources frame none =
    let few = few_units frame (limits_none frame none) in
    let less = count_few frame.resources (some_layers frame (limits_none frame none)) in
    omega arith

pub length_units : (rs : List Resource) → length (flat_map units_from rs) ≡ layers_of rs
length_units [] = refl
length_units (r ∷ rs) = length-append (units_from r) (flat_map units_from rs) ∙ ap₂ (λ a b. a + b) (length-replicate r.layers (unit_from r)) (length_units rs)

pub length_shapes : (frame : Frame) → length (shapes_of frame) ≡ layers_of frame.resources
length_shapes frame = length-map (units frame) (λ u. u.shape) ∙ length_units frame.resources

pub as_many : (frame : Frame) → length (imports_of frame) ≡ length (shapes_of frame)
as_many frame = length-map (units frame) (λ u. is_some u.imported) ∙ sym (length-map (units frame) (λ u. u.shape))

pub shapes_within : (frame : Frame) → name_broken frame ≡ None → AllWithin (length frame.queues) (length (shapes_of frame)) (all_uses frame)
shapes_within frame none = subst (λ n. AllWithin (length frame.queues) n (all_uses frame)) (sym (length_shapes frame)) (uses_within frame (some_layers frame (limits_none frame none)) (unknown_none frame none))

passes_same : (frame : Frame) (passes : List Pass) → map (λ u. u.pass) (map (uses_of frame (numbering frame)) passes) ≡ map (numbered_pass frame (numbering frame)) passes
passes_same frame [] = refl
passes_same frame (pass ∷ passes) = ap (λ ps. numbered_pass frame (numbering frame) pass ∷ ps) (passes_same frame passes)

-- of each numbered pass
pub passes_within : (frame : Frame) → name_broken frame ≡ None → All (IsWithin (length (numbered frame).queues) (length (units frame))) (numbered frame).passes
passes_within frame none =
    let within = shapes_within frame none in
    let queues = sym (length-map frame.queues (λ q. q.family)) in
    let count = length-map (units frame) (λ u. u.shape) in
    subst (λ q. All (IsWithin q (length (units frame))) (numbered frame).passes) queues
    (subst (λ m. All (IsWithin (length frame.queues) m) (numbered frame).passes) count
    (subst (λ ps. All (IsWithin (length frame.queues) (length (shapes_of frame))) ps) (passes_same frame frame.passes)
    (All-map (IsWithin (length frame.queues) (length (shapes_of frame))) (λ u. u.pass) (all_uses frame) within)))

pub same_passes : (frame : Frame) → map (λ u. u.pass) (all_uses frame) ≡ (numbered frame).passes
same_passes frame = passes_same frame frame.passes

pub then_uses : (frame : Frame) → name_broken frame ≡ None → first_broken frame ≡ use_broken frame (shapes_of frame) (imports_of frame) (all_uses frame) (export_units frame)
then_uses frame none = ap (λ o. option_or o (use_broken frame (shapes_of frame) (imports_of frame) (all_uses frame) (export_units frame))) none

pub names_first : (frame : Frame) (b : Broken Rule Location) → name_broken frame ≡ Some b → first_broken frame ≡ Some b
names_first frame b found = ap (λ o. option_or o (use_broken frame (shapes_of frame) (imports_of frame) (all_uses frame) (export_units frame))) found

-- GOOD FRAMES

pub names_good : (frame : Frame) → first_broken frame ≡ None → name_broken frame ≡ None
names_good frame none = or_first (name_broken frame) (use_broken frame (shapes_of frame) (imports_of frame) (all_uses frame) (export_units frame)) none

pub unit_count_few : (frame : Frame) → first_broken frame ≡ None → length (shapes_of frame) ≤ 256
unit_count_few frame none = subst (λ n. n ≤ 256) (sym (length_shapes frame)) (few_units frame (limits_none frame (names_good frame none)))

pub shapes_are : (frame : Frame) → length (shapes_of frame) ≡ length (units frame)
shapes_are frame = length-map (units frame) (λ u. u.shape)

pub sharings_are : (frame : Frame) → length (sharings_of frame) ≡ length (units frame)
sharings_are frame = length-map (units frame) (λ u. u.sharing)

length_owners : (i : ℕ) (rs : List Resource) → length (owners i rs) ≡ layers_of rs
length_owners i [] = refl
length_owners i (r ∷ rs) = length-append (replicate r.layers i) (owners (suc i) rs) ∙ ap₂ (λ a b. a + b) (length-replicate r.layers i) (length_owners (suc i) rs)

pub owners_are : (frame : Frame) → length (owners 0 frame.resources) ≡ length (units frame)
owners_are frame = length_owners 0 frame.resources ∙ sym (length_units frame.resources)

length_spots : (r : Resource) → length (spots_of r) ≡ r.layers
length_spots r = by_count (r.layers == 1) refl
  where
    by_count : (b : Bool) → (r.layers == 1) ≡ b → length (if b then record { name = r.name; layer = None } ∷ [] else map (layer_spot r.name) (range_with_len 0 r.layers)) ≡ r.layers
    by_count true e = sym (eqb-true r.layers 1 e)
    by_count false e = length-map-range_with_len (layer_spot r.name) 0 r.layers

length_all_spots : (rs : List Resource) → length (flat_map spots_of rs) ≡ layers_of rs
length_all_spots [] = refl
length_all_spots (r ∷ rs) = length-append (spots_of r) (flat_map spots_of rs) ∙ ap₂ (λ a b. a + b) (length_spots r) (length_all_spots rs)

pub spots_are : (frame : Frame) → length (unit_spots frame) ≡ length (units frame)
spots_are frame = length_all_spots frame.resources ∙ sym (length_units frame.resources)

pub families_are : (frame : Frame) → length (map (λ q. q.family) frame.queues) ≡ length frame.queues
families_are frame = length-map frame.queues (λ q. q.family)

pub family_got : (queues : List QueueDecl) (i : ℕ) (q : QueueDecl) → i < length queues → q ≡ get_or queues i q → slice_get (map (λ q. q.family) queues) i ≡ Some q.family
family_got [] i q lt is = absurd (omega arith)
family_got (x ∷ xs) zero q lt is = ap (λ y. Some y.family) (sym is)
family_got (x ∷ xs) (suc i) q lt is = family_got xs i q (omega arith) is

pub none_broken : (frame : Frame) → first_fault frame ≡ None → first_broken frame ≡ None
none_broken frame none = map_none fault_of (first_broken frame) none

pub names_known : (frame : Frame) → first_fault frame ≡ None → name_broken frame ≡ None
names_known frame none = names_good frame (none_broken frame none)

pub faultless : (frame : Frame) → first_broken frame ≡ None → first_fault frame ≡ None
faultless frame none = ap (option_map fault_of) none

pub count_fits : (frame : Frame) (resolved : Resolved) → first_broken frame ≡ None → resolved ≡ resolved_of frame → length resolved.shapes < 2 ^ 32
count_fits frame resolved none is = let few = unit_count_few frame none in let same : length resolved.shapes ≡ length (shapes_of frame) = ap (λ p. length p.shapes) is in omega arith

got : {X : Type 0} (xs ys : List X) (count u : ℕ) (x : X) → xs ≡ ys → length ys ≡ count → u < count → x ≡ get_or xs u x → slice_get ys u ≡ Some x
got xs ys count u x same size lt is = slice_get_read ys count u x (sym size) lt (is ∙ ap (λ zs. get_or zs u x) same)

pub spot_got : (frame : Frame) (resolved : Resolved) (u : ℕ) (x : Spot) → resolved ≡ resolved_of frame → u < length (units frame) → x ≡ get_or resolved.spots u x → slice_get (unit_spots frame) u ≡ Some x
spot_got frame resolved u x same lt is = got resolved.spots (unit_spots frame) (length (units frame)) u x (ap (λ p. p.spots) same) (spots_are frame) lt is

pub owner_got : (frame : Frame) (resolved : Resolved) (u x : ℕ) → resolved ≡ resolved_of frame → u < length (units frame) → x ≡ get_or resolved.owners u x → slice_get (owners 0 frame.resources) u ≡ Some x
owner_got frame resolved u x same lt is = got resolved.owners (owners 0 frame.resources) (length (units frame)) u x (ap (λ p. p.owners) same) (owners_are frame) lt is

-- THE JOIN OF ALL RULES

pub within_as : (frame : Frame) (shapes : List Shape) (uses : List Uses) → name_broken frame ≡ None → shapes ≡ shapes_of frame → uses ≡ all_uses frame → AllWithin (length frame.queues) (length shapes) uses
within_as frame shapes uses none same-shapes same-uses = subst (λ ss. AllWithin (length frame.queues) (length ss) uses) (sym same-shapes) (subst (λ us. AllWithin (length frame.queues) (length (shapes_of frame)) us) (sym same-uses) (shapes_within frame none))

pub as_many_as : (frame : Frame) (shapes : List Shape) (imported : List Bool) → shapes ≡ shapes_of frame → imported ≡ imports_of frame → length imported ≡ length shapes
as_many_as frame shapes imported same-shapes same-imported = ap length same-imported ∙ as_many frame ∙ ap length (sym same-shapes)

pub uses_by : (frame : Frame) (n : Numbering) (uses : List Uses) → n ≡ numbering frame → uses ≡ map (uses_of frame n) frame.passes → uses ≡ all_uses frame
uses_by frame n uses same is = is ∙ ap (λ m. map (uses_of frame m) frame.passes) same

pub spans_by : (frame : Frame) (n : Numbering) (spans : List Span) → n ≡ numbering frame → spans ≡ map (span_of n) frame.exports → spans ≡ export_units frame
spans_by frame n spans same is = is ∙ ap (λ m. map (span_of m) frame.exports) same

pub uses_are : (frame : Frame) (shapes : List Shape) (imported : List Bool) (uses : List Uses) (exports : List Span) (r : Option (Broken Rule Location)) → name_broken frame ≡ None → shapes ≡ shapes_of frame → imported ≡ imports_of frame → uses ≡ all_uses frame → exports ≡ export_units frame → r ≡ use_broken frame shapes imported uses exports → r ≡ first_broken frame
uses_are frame shapes imported uses exports r none same-shapes same-imported same-uses same-exports is =
    is
    ∙ ap (λ x. use_broken frame x imported uses exports) same-shapes
    ∙ ap (λ x. use_broken frame (shapes_of frame) x uses exports) same-imported
    ∙ ap (λ x. use_broken frame (shapes_of frame) (imports_of frame) x exports) same-uses
    ∙ ap (λ x. use_broken frame (shapes_of frame) (imports_of frame) (all_uses frame) x) same-exports
    ∙ sym (then_uses frame none)

pub resolved_are : (frame : Frame) (shapes : List Shape) (sharings : List Sharing) (owned : List ℕ) (spots : List Spot) (passes : List NumberedPass) (exports : List ℕ) → shapes ≡ shapes_of frame → sharings ≡ sharings_of frame → owned ≡ owners 0 frame.resources → spots ≡ unit_spots frame → passes ≡ (numbered frame).passes → exports ≡ (numbered frame).exports → ◌≡◌ {A = Resolved} (record { shapes = shapes; sharings = sharings; owners = owned; spots = spots; passes = passes; exports = exports }) (resolved_of frame)
resolved_are frame shapes sharings owned spots passes exports a b c d e f =
    ap (λ x. record { shapes = x; sharings = sharings; owners = owned; spots = spots; passes = passes; exports = exports }) a
    ∙ ap (λ x. record { shapes = shapes_of frame; sharings = x; owners = owned; spots = spots; passes = passes; exports = exports }) b
    ∙ ap (λ x. record { shapes = shapes_of frame; sharings = sharings_of frame; owners = x; spots = spots; passes = passes; exports = exports }) c
    ∙ ap (λ x. record { shapes = shapes_of frame; sharings = sharings_of frame; owners = owners 0 frame.resources; spots = x; passes = passes; exports = exports }) d
    ∙ ap (λ x. record { shapes = shapes_of frame; sharings = sharings_of frame; owners = owners 0 frame.resources; spots = unit_spots frame; passes = x; exports = exports }) e
    ∙ ap (λ x. record { shapes = shapes_of frame; sharings = sharings_of frame; owners = owners 0 frame.resources; spots = unit_spots frame; passes = (numbered frame).passes; exports = x }) f
