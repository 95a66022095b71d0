-- How many groups and uses there are, and how many bytes placed units have.
use Rattle.std.proofs.Common.{◌≡◌, ◌≢◌, ⊎_elim, ◌==◌, nat_le, not, None, ℕ, zero, suc, ◌+◌, ◌*◌, ◌<◌, ◌≤◌, ◌&&◌, Bool, true, false, List, [], ◌∷◌, ◌++◌, length, map, get_or, if◌then◌else◌, refl, sym, ap, ◌∙◌, subst, arith}
use Rattle.std.specs.List.{All, filter, range_with_len, sum_by}
use Rattle.std.specs.Prelude.{is_some}
use Rattle.std.proofs.lemmas.Bool.{and_parts, leb-true, ne_eqb}
use Rattle.std.proofs.lemmas.Bool.Decides.{eqb_tells}
use Rattle.std.proofs.lemmas.List.{length-append, length-map, get_or_append_left, get_or-map}
use Rattle.std.proofs.lemmas.List.Concat.{length-flat_map}
use Rattle.std.proofs.lemmas.List.Elements.{All-filter, All-map}
use Rattle.std.proofs.lemmas.List.FromFn.{length-range_with_len, get_or-range_with_len}
use Rattle.std.proofs.lemmas.List.Sums.{sum_by-cons, length-filter, count_by-le-length}
use Rattle.base.proofs.Operands.{sources_few}
use Rattle.base.specs.Operands.{sources_of}
use Rattle.base.specs.Shapes.{shape_at, bytes_of}
use Rattle.base.specs.Touches.{touches_of, source_touch, destination_touch}
use Rattle.base.specs.declared.op.Op.{Op}
use Rattle.base.specs.declared.shape.Shape.{Shape}
use Rattle.base.specs.declared.shape.Shape.TheVariants.{Buffer}
use Rattle.base.specs.declared.touch.Touch.{Touch}
use Rattle.vk.specs.declared.sharing.Sharing.TheVariants.{Exclusive}
use Rattle.frame.specs.Valid.{IsValid, shapes_in}
use Rattle.frame.specs.Numbered.{NumberedFrame}
use Rattle.frame.specs.Units.{Unit}
use Rattle.compile_groups.specs.Commands.{all_shapes, readback_shape}
use Rattle.compile_groups.specs.Groups.{before_runs, runs, unit_uses, unit_groups, all_uses, frame_joins, imports_in, grouped}
use Rattle.compile_groups.specs.Needs.{is_touched}
use Rattle.compile_groups.specs.Placed.{is_import, placed, sizes, AreSmall}
use Rattle.compile_groups.specs.Uses.{is_first_named, use_of, uses_from, command_uses, uses_of}
use Rattle.compile_groups.specs.declared.command.Command.{Command}
use Rattle.compile_groups.specs.declared.unit_use.Use.{Use}

-- HOW MANY USES

touches-few : (shapes : List Shape) (op : Op ℕ) → length (touches_of shapes op) ≤ 4
touches-few shapes op = omega (arith, sources_few op, length-map (sources_of op) (source_touch shapes op), length-append (map (source_touch shapes op) (sources_of op)) (destination_touch shapes op ∷ []))

operands-few : (shapes : List Shape) (units c q k : ℕ) (named : List ℕ) (touches : List Touch) → length (uses_from shapes units c q k named touches) ≤ length touches
operands-few shapes units c q k named [] = omega arith
operands-few shapes units c q k named (touch ∷ touches) =
    let one = own (is_first_named units named touch.what) in
    omega (arith, one, operands-few shapes units c q (suc k) (named ++ touch.what ∷ []) touches, length-append (if is_first_named units named touch.what then use_of shapes c q k touch ∷ [] else []) (uses_from shapes units c q (suc k) (named ++ touch.what ∷ []) touches))
  where
    own : (b : Bool) → length (if b then use_of shapes c q k touch ∷ [] else []) ≤ 1
    own true = omega arith
    own false = omega arith

pub uses-few : (shapes : List Shape) (units c : ℕ) (commands : List Command) → length (uses_of shapes units c commands) ≤ 4 * length commands
uses-few shapes units c [] = omega arith
uses-few shapes units c (command ∷ commands) =
    omega (arith, uses-few shapes units (suc c) commands, operands-few shapes units c command.queue 0 [] (touches_of shapes command.op), touches-few shapes command.op, length-append (command_uses shapes units c command) (uses_of shapes units (suc c) commands))

-- HOW MANY GROUPS

before-few : (joins : Use → Use → Bool) (u : Use) (R : List (List Use)) → length (before_runs joins u R) ≤ 1 + length R
before-few joins u [] = omega arith
before-few joins u ([] ∷ runs) = omega arith
before-few joins u ((v ∷ run) ∷ runs) = go (joins u v)
  where
    go : (b : Bool) → length (if b then (u ∷ v ∷ run) ∷ runs else (u ∷ []) ∷ (v ∷ run) ∷ runs) ≤ 1 + length ((v ∷ run) ∷ runs)
    go true = omega arith
    go false = omega arith

runs-few : (joins : Use → Use → Bool) (uses : List Use) → length (runs joins uses) ≤ length uses
runs-few joins [] = omega arith
runs-few joins (u ∷ uses) = omega (arith, before-few joins u (runs joins uses), runs-few joins uses)

-- SUMS OVER UNITS

sum_le : (f g : ℕ → ℕ) (ks : List ℕ) → ((k : ℕ) → f k ≤ g k) → sum_by f ks ≤ sum_by g ks
sum_le f g [] le = omega arith
sum_le f g (k ∷ ks) le = omega (arith, le k, sum_le f g ks le, sum_by-cons f k ks, sum_by-cons g k ks)

sum_both : (f g h : ℕ → ℕ) (ks : List ℕ) → ((k : ℕ) → f k ≡ g k + h k) → sum_by f ks ≡ sum_by g ks + sum_by h ks
sum_both f g h [] same = omega arith
sum_both f g h (k ∷ ks) same = omega (arith, same k, sum_both f g h ks same, sum_by-cons f k ks, sum_by-cons g k ks, sum_by-cons h k ks)

sum_none : (f : ℕ → ℕ) (ks : List ℕ) → ((k : ℕ) → f k ≡ 0) → sum_by f ks ≡ 0
sum_none f [] none = refl
sum_none f (k ∷ ks) none = omega (arith, none k, sum_none f ks none, sum_by-cons f k ks)

abbrev hit : ℕ → ℕ → ℕ
hit x k = if x == k then 1 else 0

hits-none : (x a n : ℕ) → x < a → sum_by (hit x) (range_with_len a n) ≡ 0
hits-none x a zero lt = refl
hits-none x a (suc n) lt =
    let miss : hit x a ≡ 0 = ap (λ b. if b then 1 else 0) (ne_eqb x a (λ e. omega (arith, e, lt))) in
    omega (arith, miss, hits-none x (a + 1) n (omega (arith, lt)), sum_by-cons (hit x) a (range_with_len (a + 1) n))

hits-one : (x a n : ℕ) → sum_by (hit x) (range_with_len a n) ≤ 1
hits-one x a zero = omega arith
hits-one x a (suc n) = ⊎_elim same (other (hits-one x (a + 1) n)) (eqb_tells x a)
  where
    same : ((x == a) ≡ true) × (x ≡ a) → sum_by (hit x) (range_with_len a (suc n)) ≤ 1
    same h =
        let e = h.1 in
        let one : hit x a ≡ 1 = ap (λ b. if b then 1 else 0) h.0 in
        omega (arith, one, hits-none x (a + 1) n (omega (arith, e)), sum_by-cons (hit x) a (range_with_len (a + 1) n))

    other : sum_by (hit x) (range_with_len (a + 1) n) ≤ 1 → ((x == a) ≡ false) × (x ≢ a) → sum_by (hit x) (range_with_len a (suc n)) ≤ 1
    other rest h =
        let miss : hit x a ≡ 0 = ap (λ b. if b then 1 else 0) h.0 in
        omega (arith, miss, rest, sum_by-cons (hit x) a (range_with_len (a + 1) n))

-- each use has one unit
parts-few : (uses : List Use) (a n : ℕ) → sum_by (λ k. length (unit_uses uses k)) (range_with_len a n) ≤ length uses
parts-few [] a n = let e = sum_none (λ k. 0) (range_with_len a n) (λ k. refl) in omega (arith, e)
parts-few (u ∷ uses) a n =
    omega (arith, sum_both (λ k. length (unit_uses (u ∷ uses) k)) (hit u.unit) (λ k. length (unit_uses uses k)) (range_with_len a n) (λ k. own k (u.unit == k)), hits-one u.unit a n, parts-few uses a n)
  where
    own : (k : ℕ) (b : Bool) → length (if b then u ∷ unit_uses uses k else unit_uses uses k) ≡ (if b then 1 else 0) + length (unit_uses uses k)
    own k true = omega arith
    own k false = omega arith

pub groups-few : (frame : NumberedFrame) (commands : List Command) → length (grouped frame commands).groups ≤ 4 * length commands
groups-few frame commands =
    omega (
      arith,
      length-flat_map (unit_groups (frame_joins frame) (all_uses frame commands)) (range_with_len 0 (length frame.units)),
      sum_le (λ k. length (unit_groups (frame_joins frame) (all_uses frame commands) k)) (λ k. length (unit_uses (all_uses frame commands) k)) (range_with_len 0 (length frame.units)) (λ k. runs-few (frame_joins frame) (unit_uses (all_uses frame commands) k)),
      parts-few (all_uses frame commands) 0 (length frame.units),
      uses-few (all_shapes frame) (length frame.units) 0 commands,
    )

-- HOW MANY BYTES

-- the bytes of each unit, by its number
bytes_at : (frame : NumberedFrame) (unit : ℕ) (d : Unit) → unit < length frame.units → bytes_of (shape_at (all_shapes frame) unit) ≡ bytes_of (get_or frame.units unit d).shape
bytes_at frame unit d lt = ap bytes_of (get_or_append_left (shapes_in frame) (map (readback_shape frame) frame.exports) (Buffer 0) unit (subst (λ n. unit < n) (sym (length-map frame.units (λ u. u.shape))) lt) ∙ get_or-map (λ u. u.shape) frame.units unit d (Buffer 0) lt)

no_unit : Unit
no_unit = record { shape = Buffer 0; sharing = Exclusive; imported = None }

pub unit-small : (frame : NumberedFrame) (unit : ℕ) → IsValid frame → unit < length frame.units → bytes_of (shape_at (all_shapes frame) unit) ≤ 16777216
unit-small frame unit G lt =
    subst (λ n. n ≤ 16777216) (sym (bytes_at frame unit no_unit lt))
    (leb-true (bytes_of (get_or frame.units unit no_unit).shape) 16777216 (and_parts (nat_le 1 (bytes_of (get_or frame.units unit no_unit).shape)) (nat_le (bytes_of (get_or frame.units unit no_unit).shape) 16777216) (G.sized unit no_unit lt)).1)

sum_filter : (p : ℕ → Bool) (f : ℕ → ℕ) (ks : List ℕ) → sum_by f (filter p ks) ≤ sum_by f ks
sum_filter p f [] = omega arith
sum_filter p f (k ∷ ks) = go (sum_filter p f ks) (p k)
  where
    go : sum_by f (filter p ks) ≤ sum_by f ks → (b : Bool) → sum_by f (if b then k ∷ filter p ks else filter p ks) ≤ sum_by f (k ∷ ks)
    go rest true = omega (arith, rest, sum_by-cons f k (filter p ks), sum_by-cons f k ks)
    go rest false = omega (arith, rest, sum_by-cons f k ks)

sum_map : (f : ℕ → ℕ) (ks : List ℕ) → sum_by (λ size. size) (map f ks) ≡ sum_by f ks
sum_map f [] = refl
sum_map f (k ∷ ks) = omega (arith, sum_map f ks, sum_by-cons (λ (size : ℕ). size) (f k) (map f ks), sum_by-cons f k ks)

-- the sum of what stands at each number
sum_at : {X : Type 0} (g : X → ℕ) (f : ℕ → ℕ) (xs : List X) (a : ℕ) → ((i : ℕ) (d : X) → i < length xs → f (a + i) ≡ g (get_or xs i d)) → sum_by f (range_with_len a (length xs)) ≡ sum_by g xs
sum_at g f [] a same = refl
sum_at g f (x ∷ xs) a same =
    let here : f a ≡ g x = subst (λ n. f n ≡ g x) (first a) (same 0 x (omega arith)) in
    omega (arith, here, sum_at g f xs (a + 1) (λ i d lt. subst (λ n. f n ≡ g (get_or xs i d)) (next a i) (same (suc i) d (omega (arith, lt)))), sum_by-cons f a (range_with_len (a + 1) (length xs)), sum_by-cons g x xs)
  where
    first : (a : ℕ) → a + 0 ≡ a
    first a = omega arith

    next : (a i : ℕ) → a + suc i ≡ a + 1 + i
    next a i = omega arith

module _ (frame : NumberedFrame) (commands : List Command) (G : IsValid frame) where
  abbrev bytes : ℕ → ℕ
  bytes unit = bytes_of (shape_at (all_shapes frame) unit)

  abbrev has : ℕ → Bool
  has unit = is_touched (grouped frame commands) unit && not (is_import (grouped frame commands) unit)

  -- of units that are placed
  pub placed_units : (P : ℕ → Type 0) → ((unit : ℕ) → unit < length frame.units → P unit) → All P (placed (grouped frame commands))
  placed_units P h = All-filter has P (range_with_len 0 (length (imports_in frame))) (λ i d lt. h (get_or (range_with_len 0 (length (imports_in frame))) i d) (below i d lt))
    where
      below : (i d : ℕ) → i < length (range_with_len 0 (length (imports_in frame))) → get_or (range_with_len 0 (length (imports_in frame))) i d < length frame.units
      below i d lt =
          let e = length-map frame.units (λ u. is_some u.imported) in
          let k = length-range_with_len 0 (length (imports_in frame)) in
          let l : i < length (imports_in frame) = omega (arith, k, lt) in
          subst (λ n. n < length frame.units) (sym (get_or-range_with_len 0 (length (imports_in frame)) i d l)) (omega (arith, l, e))

  pub sizes-small : AreSmall (sizes (grouped frame commands))
  sizes-small = record {
    few = let u = G.few_units in omega (arith, u, length-map (placed (grouped frame commands)) bytes, length-filter has (range_with_len 0 (length (imports_in frame))), count_by-le-length has (range_with_len 0 (length (imports_in frame))), length-range_with_len 0 (length (imports_in frame)), length-map frame.units (λ u. is_some u.imported));
    each = All-map (λ size. size ≤ 16777216) bytes (placed (grouped frame commands)) (placed_units (λ unit. bytes unit ≤ 16777216) (λ unit lt. unit-small frame unit G lt));
    sum =
        let b = G.few_bytes in
        let all : sum_by bytes (range_with_len 0 (length frame.units)) ≡ sum_by (λ (u : Unit). bytes_of u.shape) frame.units = sum_at (λ (u : Unit). bytes_of u.shape) bytes frame.units 0 (λ i d lt. bytes_at frame (0 + i) d (omega (arith, lt)) ∙ ap (λ k. bytes_of (get_or frame.units k d).shape) (zeroed i)) in
        let same : sum_by bytes (range_with_len 0 (length (imports_in frame))) ≡ sum_by bytes (range_with_len 0 (length frame.units)) = ap (λ n. sum_by bytes (range_with_len 0 n)) (length-map frame.units (λ u. is_some u.imported)) in
        omega (arith, b, all, same, sum_map bytes (placed (grouped frame commands)), sum_filter has bytes (range_with_len 0 (length (imports_in frame))));
  }
    where
      zeroed : (i : ℕ) → 0 + i ≡ i
      zeroed i = omega arith
