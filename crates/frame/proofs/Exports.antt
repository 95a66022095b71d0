-- A frame that breaks no rule exports few units.
use Rattle.std.proofs.Common.{◌≡◌, ℕ, suc, ◌+◌, ◌-◌, ◌≤◌, ◌++◌, nat_lt, List, [], ◌∷◌, length, map, slice_get, Bool, true, false, Option, None, Some, if◌then◌else◌, refl, sym, subst, ap, ◌∙◌, arith}
use Rattle.std.specs.Prelude.{option_and_then}
use Rattle.std.specs.Bool.{one_answer}
use Rattle.std.specs.List.{position, position_or_len, find, flat_map}
use Rattle.std.specs.Option.{option_map, option_map_or}
use Rattle.std.specs.Str.{bytes_eq}
use Rattle.std.proofs.lemmas.Bool.{ltb-false}
use Rattle.std.proofs.lemmas.Bool.Decides.{Decides-ltb}
use Rattle.std.proofs.lemmas.List.{length-append}
use Rattle.std.proofs.lemmas.List.FromFn.{length-range_with_len}
use Rattle.std.proofs.lemmas.Slice.Eq.{bytes_eq-Decides}
use Rattle.frame.proofs.Small.{limits_none, names_good, exports_none}
use Rattle.frame.specs.FirstFault.{first_broken}
use Rattle.frame.specs.Limits.{exported}
use Rattle.frame.specs.Numbered.{numbered}
use Rattle.base.specs.Rooms.{first_over}
use Rattle.frame.specs.Units.{stretches, numbering, stretch_of, layer_unit, units_in, no_units, span_in, units_of}
use Rattle.frame.specs.declared.frame.Frame.{Frame}
use Rattle.frame.specs.declared.frame.Resource.{Resource}
use Rattle.frame.specs.declared.frame.Spot.{Spot}
use Rattle.frame.specs.declared.numbered.Stretch.{Stretch}

-- lists no longer than sizes that have room
pub within_room : {X Y : Type 0} (size : X → ℕ) (list : X → List Y) → ((x : X) → length (list x) ≤ size x) → (xs : List X) (room i : ℕ) → first_over size room i xs ≡ None → length (flat_map list xs) ≤ room
within_room size list short [] room i none = omega arith
within_room size list short (x ∷ xs) room i none = by_test (nat_lt room (size x)) refl none (λ left. within_room size list short xs (room - size x) (suc i) left)
  where
    by_test : (b : Bool) → nat_lt room (size x) ≡ b → (if b then Some i else first_over size (room - size x) (suc i) xs) ≡ None → (first_over size (room - size x) (suc i) xs ≡ None → length (flat_map list xs) ≤ room - size x) → length (list x ++ flat_map list xs) ≤ room
    by_test true e none more = absurd cc
    by_test false e none more =
        let fits : size x ≤ room = ltb-false room (size x) e in
        let rest = more none in
        let here = short x in
        let both = length-append (list x) (flat_map list xs) in
        omega arith

-- THE FIRST PLACE AT WHICH A TEST PASSES

abbrev within : ℕ → ℕ → Option ℕ
within k count = if nat_lt k count then Some k else None

both_more : (a b : ℕ) → nat_lt (suc a) (suc b) ≡ nat_lt a b
both_more a b = one_answer (nat_lt (suc a) (suc b)) (nat_lt a b) (Decides-ltb (suc a) (suc b)) ((λ e. let less = (Decides-ltb a b).0 e in omega (arith, less)), λ less. (Decides-ltb a b).1 (omega (arith, less)))

within_more : (k count : ℕ) → within (suc k) (suc count) ≡ option_map suc (within k count)
within_more k count = ap (λ b. if b then Some (suc k) else None) (both_more k count) ∙ by_test (nat_lt k count)
  where
    by_test : (b : Bool) → (if b then Some (suc k) else None) ≡ option_map suc (if b then Some k else None)
    by_test true = refl
    by_test false = refl

further : {X : Type 0} (p : X → Bool) (x : X) (xs : List X) → p x ≡ false → position_or_len p (x ∷ xs) ≡ suc (position_or_len p xs)
further p x xs e = rw e (omega arith)

pub position_past : {X : Type 0} (p : X → Bool) (x : X) (xs : List X) → p x ≡ false → position p (x ∷ xs) ≡ option_map suc (position p xs)
position_past p x xs e = ap (λ k. within k (suc (length xs))) (further p x xs e) ∙ within_more (position_or_len p xs) (length xs)

pub position_here : {X : Type 0} (p : X → Bool) (x : X) (xs : List X) → p x ≡ true → position p (x ∷ xs) ≡ Some 0
position_here p x xs e =
    let first : position_or_len p (x ∷ xs) ≡ 0 = rw e refl in
    ap (λ k. within k (suc (length xs))) first ∙ ap (λ b. if b then Some 0 else None) ((Decides-ltb 0 (suc (length xs))).1 (omega arith))

-- THE LAYERS OF WHAT A NAME FINDS

abbrev layers_at : List Stretch → Option ℕ → ℕ
layers_at list found = option_map_or (λ s. s.layers) (option_and_then (slice_get list) found) 0

abbrev layers_found : List ℕ → List Resource → ℕ
layers_found name rs = option_map_or (λ r. r.layers) (find (λ r. bytes_eq r.name name) rs) 1

past : (s : Stretch) (list : List Stretch) (found : Option ℕ) → layers_at (s ∷ list) (option_map suc found) ≡ layers_at list found
past s list None = refl
past s list (Some k) = refl

same : (a b : List ℕ) → bytes_eq a b ≡ bytes_eq b a
same a b = one_answer (bytes_eq a b) (bytes_eq b a) (bytes_eq-Decides a b) ((λ e. sym ((bytes_eq-Decides b a).0 e)), λ e. (bytes_eq-Decides b a).1 (sym e))

-- where a name finds a resource, its stretch has that resource's layers
same_layers : (name : List ℕ) (first : ℕ) (rs : List Resource) → layers_at (stretches first rs) (position (bytes_eq name) (map (λ r. r.name) rs)) ≤ layers_found name rs
same_layers name first [] = omega arith
same_layers name first (r ∷ rs) = by_test (bytes_eq name r.name) refl (same_layers name (first + r.layers) rs)
  where
    by_test : (b : Bool) → bytes_eq name r.name ≡ b → layers_at (stretches (first + r.layers) rs) (position (bytes_eq name) (map (λ r. r.name) rs)) ≤ layers_found name rs → layers_at (stretches first (r ∷ rs)) (position (bytes_eq name) (map (λ r. r.name) (r ∷ rs))) ≤ layers_found name (r ∷ rs)
    by_test true e more =
        let here : r.layers ≤ r.layers = omega arith in
        let found : layers_found name (r ∷ rs) ≡ r.layers = rw (same r.name name ∙ e) refl in
        rw (position_here (bytes_eq name) r.name (map (λ r. r.name) rs) e, found) here
    by_test false e more =
        let found : layers_found name (r ∷ rs) ≡ layers_found name rs = rw (same r.name name ∙ e) refl in
        let at : layers_at (stretches first (r ∷ rs)) (position (bytes_eq name) (map (λ r. r.name) (r ∷ rs))) ≡ layers_at (stretches (first + r.layers) rs) (position (bytes_eq name) (map (λ r. r.name) rs)) = ap (layers_at (stretches first (r ∷ rs))) (position_past (bytes_eq name) r.name (map (λ r. r.name) rs) e) ∙ past _ _ (position (bytes_eq name) (map (λ r. r.name) rs)) in
        subst (λ n. n ≤ layers_found name (r ∷ rs)) (sym at) (subst (λ n. layers_at (stretches (first + r.layers) rs) (position (bytes_eq name) (map (λ r. r.name) rs)) ≤ n) (sym found) more)

pub few_each : (frame : Frame) (spot : Spot) → length (units_of (numbering frame) spot) ≤ exported frame spot
few_each frame spot = by_layer spot.layer
  where
    by_layer : (layer : Option ℕ) → length (units_of (numbering frame) (record { name = spot.name; layer = layer })) ≤ exported frame (record { name = spot.name; layer = layer })
    by_layer (Some layer) = by_found (stretch_of (numbering frame) spot.name)
      where
        by_found : (found : Option Stretch) → length (units_in (option_map_or (span_in (Some layer)) found no_units)) ≤ 1
        by_found None = omega arith
        by_found (Some s) = let size = length-range_with_len (layer_unit s layer) (layer_unit s layer + 1 - layer_unit s layer) in omega (arith, size)
    by_layer None = as_layers (stretch_of (numbering frame) spot.name) (same_layers spot.name 0 frame.resources)
      where
        as_layers : (found : Option Stretch) → option_map_or (λ s. s.layers) found 0 ≤ exported frame (record { name = spot.name; layer = None }) → length (units_in (option_map_or (span_in None) found no_units)) ≤ exported frame (record { name = spot.name; layer = None })
        as_layers None few = few
        as_layers (Some s) few =
            let size = length-range_with_len s.first (s.first + s.layers - s.first) in
            let all : s.layers ≤ exported frame (record { name = spot.name; layer = None }) = few in
            omega (arith, size)

pub few_exports : (frame : Frame) → first_broken frame ≡ None → length (numbered frame).exports ≤ 32
few_exports frame none = within_room (exported frame) (units_of (numbering frame)) (few_each frame) frame.exports 32 0 (exports_none frame (limits_none frame (names_good frame none)))

pub exports_fit : (frame : Frame) (exports : List ℕ) → first_broken frame ≡ None → exports ≡ (numbered frame).exports → length exports ≤ 32
exports_fit frame exports none is = subst (λ list. length list ≤ 32) (sym is) (few_exports frame none)
