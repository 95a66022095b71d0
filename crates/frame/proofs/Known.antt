-- Names that a frame has get numbers of queues and units.
use Rattle.std.proofs.Common.{subst, zero, suc, if◌then◌else◌, is_some, nat_lt, ◌≡◌, ℕ, ◌+◌, ◌-◌, ◌<◌, ◌≤◌, List, [], ◌∷◌, length, get_or, slice_get, not, Bool, true, false, Option, None, Some, refl, sym, ap, cond, arith}
use Rattle.std.specs.List.{position, position_or_len, All, flat_map, range_with_len}
use Rattle.std.specs.Option.{option_or, option_map, option_map_or, option_and_then, unwrap_or}
use Rattle.std.specs.Str.{bytes_eq}
use Rattle.std.proofs.lemmas.Bool.{and_parts, ltb-true, lt-ltb}
use Rattle.std.proofs.lemmas.List.Elements.{All-map}
use Rattle.std.proofs.lemmas.List.FromFn.{length-range_with_len, get_or-range_with_len}
use Rattle.base.proofs.Booleans.{clash}
use Rattle.base.proofs.Lists.{entry_of, each_of}
use Rattle.base.proofs.Absence.{or_first, or_second, map_none, first_none, has_it, all_pass}
use Rattle.base.proofs.Operands.{operands_mapped}
use Rattle.base.specs.Operands.{operands_of, mapped}
use Rattle.base.specs.Walks.{first_in}
use Rattle.base.specs.declared.op.Op.{Op}
use Rattle.frame.specs.Members.{member_at}
use Rattle.frame.specs.Numbered.{IsWithin, queue_number, writes_of, write_each, numbered_pass, uses_of, all_uses}
use Rattle.frame.specs.Units.{Numbering, numbering, stretches, layers_of, stretch_of, layer_unit, units_in, no_units, span_in, unit_in, units_of, unit_of}
use Rattle.frame.specs.Unknowns.{queue_at, has_queue, has_layer, picks_one, is_known, is_known_unit, unknown_at, unknown_operand, unknown_in, unknown}
use Rattle.frame.specs.declared.frame.Frame.{Frame}
use Rattle.frame.specs.declared.frame.Pass.{Pass}
use Rattle.frame.specs.declared.frame.Resource.{Resource}
use Rattle.frame.specs.declared.frame.Spot.{Spot}
use Rattle.frame.specs.declared.frame.Write.{Write}
use Rattle.frame.specs.declared.numbered.Span.{Span}
use Rattle.frame.specs.declared.numbered.Stretch.{Stretch}
use Rattle.frame.specs.declared.location.Location.{Location}
use Rattle.frame.specs.declared.location.Location.TheVariants as at

some_is : (a b : ℕ) → Some a ≡ Some b → a ≡ b
some_is a b e = ap (λ o. unwrap_or o 0) e

none_is : (i : ℕ) → ◌≡◌ {A = Option ℕ} None (Some i) → ⊥
none_is i e = clash (ap is_some e)

-- QUEUES

some_within : (at count i : ℕ) (b : Bool) → nat_lt at count ≡ b → cond b (Some at) None ≡ Some i → i < count
some_within at count i true lt e = let same : at ≡ i = some_is at i e in let k : at < count = ltb-true at count lt in omega arith
some_within at count i false lt e = absurd (none_is i e)

number_within : {X : Type 0} (test : X → Bool) (xs : List X) (o : Option ℕ) → position test xs ≡ o → is_some o ≡ true → unwrap_or o 0 < length xs
number_within test xs None e known = absurd (clash known)
number_within test xs (Some i) e known = some_within (position_or_len test xs) (length xs) i (nat_lt (position_or_len test xs) (length xs)) refl e

queue_within : (frame : Frame) (name : List ℕ) → has_queue frame name ≡ true → queue_number frame name < length frame.queues
queue_within frame name known = number_within (λ q. bytes_eq q.name name) frame.queues (queue_at frame name) refl known

-- UNITS

-- a stretch of at least one unit, which ends by the last
abbrev pub Holds : ℕ → Stretch → Type 0
Holds count s = (s.first + s.layers ≤ count) × (0 < s.layers)

stretch_holds : (rs : List Resource) (n count : ℕ) → All (λ r. 0 < r.layers) rs → n + layers_of rs ≤ count → (i : ℕ) (d : Stretch) → i < length (stretches n rs) → Holds count (get_or (stretches n rs) i d)
stretch_holds [] n count some few i d lt = absurd (omega arith)
stretch_holds (r ∷ rs) n count some few zero d lt =
    let here : 0 < r.layers = some zero r (omega arith) in
    let k : n + (r.layers + layers_of rs) ≤ count = few in
    (omega arith, here)
stretch_holds (r ∷ rs) n count some few (suc i) d lt =
    let k : n + (r.layers + layers_of rs) ≤ count = few in
    stretch_holds rs (n + r.layers) count (λ j e less. some (suc j) e (omega arith)) (omega arith) i d (omega arith)

found : {X : Type 0} (P : X → Type 0) (xs : List X) (o : Option ℕ) (s : X) → All P xs → option_and_then (slice_get xs) o ≡ Some s → P s
found P xs None s all e = absurd (clash (ap is_some e))
found P xs (Some i) s all e = entry_of P xs i s all e

layer_within : (count layer : ℕ) (s : Stretch) → Holds count s → (b : Bool) → nat_lt layer s.layers ≡ b → b ≡ true → cond b (s.first + layer) 0 < count
layer_within count layer s holds true lt known = let k : layer < s.layers = ltb-true layer s.layers lt in let ends = holds.0 in omega arith
layer_within count layer s holds false lt known = absurd (clash known)

span_within : (count : ℕ) (span : Span) → span.end ≤ count → All (λ unit. unit < count) (units_in span)
span_within count span le = λ i d lt.
    let size = span.end - span.first in
    let small : i < span.end - span.first = subst (λ m. i < m) (length-range_with_len span.first size) lt in
    let e : get_or (range_with_len span.first size) i d ≡ span.first + i = get_or-range_with_len span.first size i d small in
    subst (λ m. m < count) (sym e) (omega arith)

end_within : (count : ℕ) (layer : Option ℕ) (s : Stretch) → Holds count s → has_layer layer s ≡ true → (span_in layer s).end ≤ count
end_within count None s holds known = holds.0
end_within count (Some layer) s holds known =
    let lt : layer_unit s layer < count = layer_within count layer s holds (nat_lt layer s.layers) refl (and_parts s.is_image (nat_lt layer s.layers) known).1 in
    omega (arith, lt)

units_within_by : (count : ℕ) (layer : Option ℕ) (o : Option Stretch) → ((s : Stretch) → o ≡ Some s → Holds count s) → option_map_or (has_layer layer) o false ≡ true → All (λ unit. unit < count) (units_in (option_map_or (span_in layer) o no_units))
units_within_by count layer None holds known = absurd (clash known)
units_within_by count layer (Some s) holds known = span_within count (span_in layer s) (end_within count layer s (holds s refl) known)

-- the units of a known entry
units_within : (n : Numbering) (count : ℕ) (spot : Spot) → All (Holds count) n.stretches → is_known n spot ≡ true → All (λ unit. unit < count) (units_of n spot)
units_within n count spot holds known = units_within_by count spot.layer (stretch_of n spot.name) (λ s e. found (Holds count) n.stretches (position (bytes_eq spot.name) n.names) s holds e) known

unit_within_by : (count : ℕ) (layer : Option ℕ) (o : Option Stretch) → ((s : Stretch) → o ≡ Some s → Holds count s) → option_map_or (picks_one layer) o false ≡ true → option_map_or (unit_in layer) o 0 < count
unit_within_by count layer None holds known = absurd (clash known)
unit_within_by count None (Some s) holds known = layer_within count 0 s (holds s refl) (nat_lt 0 s.layers) refl (lt-ltb 0 s.layers (holds s refl).1)
unit_within_by count (Some layer) (Some s) holds known = layer_within count layer s (holds s refl) (nat_lt layer s.layers) refl (and_parts s.is_image (nat_lt layer s.layers) known).1

-- the unit of a known operand
unit_within : (n : Numbering) (count : ℕ) (spot : Spot) → All (Holds count) n.stretches → is_known_unit n spot ≡ true → unit_of n spot < count
unit_within n count spot holds known = unit_within_by count spot.layer (stretch_of n spot.name) (λ s e. found (Holds count) n.stretches (position (bytes_eq spot.name) n.names) s holds e) known

-- PASSES

entries_within : (n : Numbering) (count : ℕ) (spots : List Spot) → All (Holds count) n.stretches → position (λ spot. not (is_known n spot)) spots ≡ None → All (λ unit. unit < count) (flat_map (units_of n) spots)
entries_within n count spots holds none = each_of (λ unit. unit < count) (units_of n) spots (λ k d lt. units_within n count (get_or spots k d) holds (all_pass (is_known n) spots none k d lt))

writes_within : (n : Numbering) (count : ℕ) (writes : List (Write Spot)) → All (Holds count) n.stretches → position (λ w. not (is_known n w.what)) writes ≡ None → All (λ w. w.what < count) (flat_map (writes_of n) writes)
writes_within n count writes holds none = each_of (λ w. w.what < count) (writes_of n) writes (λ k d lt. All-map (λ w. w.what < count) (write_each (get_or writes k d).fresh) (units_of n (get_or writes k d).what) (units_within n count (get_or writes k d).what holds (all_pass (λ w. is_known n w.what) writes none k d lt)))

op_within : (n : Numbering) (count p k : ℕ) (op : Op Spot) → All (Holds count) n.stretches → unknown_operand n p k op ≡ None → All (λ unit. unit < count) (operands_of (mapped (unit_of n) op))
op_within n count p k op holds none = subst (λ units. All (λ unit. unit < count) units) (sym (operands_mapped (unit_of n) op)) (All-map (λ unit. unit < count) (unit_of n) (operands_of op) (λ j d lt. unit_within n count (get_or (operands_of op) j d) holds (has_it (is_known_unit n (get_or (operands_of op) j d)) (at.Operand p k (member_at op (0 + j))) (first_none (unknown_at n p k op) 0 (operands_of op) none j d lt))))

pass_within : (frame : Frame) (n : Numbering) (count p : ℕ) (pass : Pass) → All (Holds count) n.stretches → unknown_in frame n p pass ≡ None → IsWithin (length frame.queues) count (numbered_pass frame n pass)
pass_within frame n count p pass holds none =
    let queue : Option Location = if has_queue frame pass.queue then None else Some (at.PassQueue p) in
    let reads : Option Location = option_map (λ k. at.Read p k) (position (λ spot. not (is_known n spot)) pass.reads) in
    let writes : Option Location = option_map (λ k. at.Write p k) (position (λ w. not (is_known n w.what)) pass.writes) in
    let ops : Option Location = first_in (unknown_operand n p) 0 pass.ops in
    let none-1 = or_second queue (option_or reads (option_or writes ops)) none in
    let none-2 = or_second reads (option_or writes ops) none-1 in
    record {
      queue = queue_within frame pass.queue (has_it (has_queue frame pass.queue) (at.PassQueue p) (or_first queue (option_or reads (option_or writes ops)) none));
      reads = entries_within n count pass.reads holds (map_none (λ k. at.Read p k) (position (λ spot. not (is_known n spot)) pass.reads) (or_first reads (option_or writes ops) none-1));
      writes = writes_within n count pass.writes holds (map_none (λ k. at.Write p k) (position (λ w. not (is_known n w.what)) pass.writes) (or_first writes ops none-2));
      ops = All-map (λ op. All (λ unit. unit < count) (operands_of op)) (mapped (unit_of n)) pass.ops (λ k d lt. op_within n count p (0 + k) (get_or pass.ops k d) holds (first_none (unknown_operand n p) 0 pass.ops (or_second writes ops none-2) k d lt));
    }

-- where each resource has a unit and no name is unknown, all numbers are in range
pub uses_within : (frame : Frame) → All (λ r. 0 < r.layers) frame.resources → unknown frame ≡ None → All (λ uses. IsWithin (length frame.queues) (layers_of frame.resources) uses.pass) (all_uses frame)
uses_within frame some none =
    let n = numbering frame in
    let count = layers_of frame.resources in
    let holds : All (Holds count) n.stretches = stretch_holds frame.resources 0 count some (omega arith) in
    let passes = first_in (unknown_in frame n) 0 frame.passes in
    let exports = option_map (λ i. at.Export i) (position (λ spot. not (is_known n spot)) frame.exports) in
    All-map (λ uses. IsWithin (length frame.queues) count uses.pass) (uses_of frame n) frame.passes (λ k d lt. pass_within frame n count (0 + k) (get_or frame.passes k d) holds (first_none (unknown_in frame n) 0 frame.passes (or_first passes exports none) k d lt))

pub exports_within : (frame : Frame) → All (λ r. 0 < r.layers) frame.resources → unknown frame ≡ None → All (λ unit. unit < layers_of frame.resources) (flat_map (units_of (numbering frame)) frame.exports)
exports_within frame some none =
    let n = numbering frame in
    let count = layers_of frame.resources in
    let holds : All (Holds count) n.stretches = stretch_holds frame.resources 0 count some (omega arith) in
    let passes = first_in (unknown_in frame n) 0 frame.passes in
    let exports = option_map (λ i. at.Export i) (position (λ spot. not (is_known n spot)) frame.exports) in
    entries_within n count frame.exports holds (map_none (λ i. at.Export i) (position (λ spot. not (is_known n spot)) frame.exports) (or_second passes exports none))
