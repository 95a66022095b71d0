-- The groups of a frame hold the uses of each unit, which stand in the order of their commands.
use Rattle.std.proofs.Common.{◌≡◌, ◌⊎◌, inl, inr, ℕ, zero, suc, ◌+◌, ◌<◌, ◌≤◌, ◌==◌, ◌&&◌, nat_lt, not, Bool, true, false, List, [], ◌∷◌, ◌++◌, length, if◌then◌else◌, refl, sym, ap, ◌∙◌, subst, eqb-true, arith}
use Rattle.std.specs.List.{All, AllPairs, filter, flat_map, list_any, range_with_len}
use Rattle.std.specs.Prelude.{slice_index_or}
use Rattle.std.proofs.lemmas.Bool.{cases_Bool, or_left, or_right, and_parts}
use Rattle.std.proofs.lemmas.List.{length-map}
use Rattle.std.proofs.lemmas.List.Concat.{flat_map-append}
use Rattle.std.proofs.lemmas.List.Elements.{All-nil, All-cons, All-tail, All-append, All-filter, All-weaker, filter-append, filter_passes}
use Rattle.std.proofs.lemmas.List.Folds.{list_any-append}
use Rattle.std.proofs.lemmas.List.Kept.{AllPairs-filter}
use Rattle.base.specs.Touches.{touches_of}
use Rattle.base.specs.declared.shape.Shape.{Shape}
use Rattle.base.specs.declared.touch.Touch.{Touch}
use Rattle.frame.specs.Numbered.{NumberedFrame}
use Rattle.compile_groups.proofs.Lists.{each_of_flat, pairs_nil, pairs_append, pairs_few, apart, within_each}
use Rattle.compile_groups.specs.Commands.{all_shapes}
use Rattle.compile_groups.specs.Groups.{before_runs, runs, unit_uses, unit_groups, all_uses, sharings_in, frame_joins, grouped}
use Rattle.compile_groups.specs.Laws.{Before, OfOne, flat, InOrder, GroupsRise, MembersRise, AreWhole}
use Rattle.compile_groups.specs.Uses.{is_first_named, use_of, uses_from, command_uses, uses_of}
use Rattle.compile_groups.specs.declared.command.Command.{Command}
use Rattle.compile_groups.specs.declared.unit_use.Use.{Use}

abbrev Sooner : Use → Use → Type 0
Sooner u v = u.command < v.command

abbrev pub is_of : ℕ → Use → Bool
is_of unit u = u.unit == unit

-- USES OF A COMMAND

-- what holds of each use that an operand makes holds of all
module _ (P : Use → Type 0) (shapes : List Shape) (units c q : ℕ) where
  pub of_operands : ((k : ℕ) (touch : Touch) → nat_lt touch.what units ≡ true → P (use_of shapes c q k touch)) → (k : ℕ) (named : List ℕ) (touches : List Touch) → All P (uses_from shapes units c q k named touches)
  of_operands h k named [] = All-nil P
  of_operands h k named (touch ∷ touches) =
      All-append P
      (if is_first_named units named touch.what then use_of shapes c q k touch ∷ [] else [])
      (uses_from shapes units c q (suc k) (named ++ touch.what ∷ []) touches)
      (head (is_first_named units named touch.what) refl)
      (of_operands h (suc k) (named ++ touch.what ∷ []) touches)
    where
      head : (b : Bool) → is_first_named units named touch.what ≡ b → All P (if b then use_of shapes c q k touch ∷ [] else [])
      head true e = All-cons P (use_of shapes c q k touch) [] (h k touch (and_parts (nat_lt touch.what units) (not (list_any (λ unit. unit == touch.what) named)) e).0) (All-nil P)
      head false e = All-nil P

pub of_command : (shapes : List Shape) (units c : ℕ) (command : Command) → All (λ u. u.command ≡ c) (command_uses shapes units c command)
of_command shapes units c command = of_operands (λ u. u.command ≡ c) shapes units c command.queue (λ k touch lt. refl) 0 [] (touches_of shapes command.op)

not_of : (unit : ℕ) (b : Bool) (u : Use) → (u.unit == unit) ≡ false → filter (is_of unit) (if b then u ∷ [] else []) ≡ []
not_of unit true u e = ap (λ z. if z then u ∷ [] else []) e
not_of unit false u e = refl

none_of : (unit : ℕ) (b : Bool) (u : Use) → b ≡ false → filter (is_of unit) (if b then u ∷ [] else []) ≡ []
none_of unit b u e = ap (λ z. filter (is_of unit) (if z then u ∷ [] else [])) e

and_not : (a b : Bool) → b ≡ true → (a && not b) ≡ false
and_not true b e = ap not e
and_not false b e = refl

named_more : (unit what : ℕ) (named : List ℕ) → list_any (λ x. x == unit) named ≡ true → list_any (λ x. x == unit) (named ++ what ∷ []) ≡ true
named_more unit what named h = list_any-append (λ x. x == unit) named (what ∷ []) ∙ or_left (list_any (λ x. x == unit) named) (list_any (λ x. x == unit) (what ∷ [])) h

named_last : (unit what : ℕ) (named : List ℕ) → (what == unit) ≡ true → list_any (λ x. x == unit) (named ++ what ∷ []) ≡ true
named_last unit what named e = list_any-append (λ x. x == unit) named (what ∷ []) ∙ or_right (list_any (λ x. x == unit) named) (list_any (λ x. x == unit) (what ∷ [])) (or_left (what == unit) false e)

-- a unit that is named already is not used again
named_none : (unit : ℕ) (shapes : List Shape) (units c q k : ℕ) (named : List ℕ) (touches : List Touch) → list_any (λ x. x == unit) named ≡ true → filter (is_of unit) (uses_from shapes units c q k named touches) ≡ []
named_none unit shapes units c q k named [] h = refl
named_none unit shapes units c q k named (touch ∷ touches) h =
    filter-append (is_of unit) (if is_first_named units named touch.what then use_of shapes c q k touch ∷ [] else []) (uses_from shapes units c q (suc k) (named ++ touch.what ∷ []) touches)
    ∙ ap (λ l. l ++ filter (is_of unit) (uses_from shapes units c q (suc k) (named ++ touch.what ∷ []) touches)) (head (cases_Bool (touch.what == unit)))
    ∙ named_none unit shapes units c q (suc k) (named ++ touch.what ∷ []) touches (named_more unit touch.what named h)
  where
    head : ((touch.what == unit) ≡ true) ⊎ ((touch.what == unit) ≡ false) → filter (is_of unit) (if is_first_named units named touch.what then use_of shapes c q k touch ∷ [] else []) ≡ []
    head (inr e) = not_of unit (is_first_named units named touch.what) (use_of shapes c q k touch) e
    head (inl e) = none_of unit (is_first_named units named touch.what) (use_of shapes c q k touch) (and_not (nat_lt touch.what units) (list_any (λ x. x == touch.what) named) (subst (λ z. list_any (λ x. x == z) named ≡ true) (sym (eqb-true touch.what unit e)) h))

-- a command uses a unit once
once : (unit : ℕ) (shapes : List Shape) (units c q k : ℕ) (named : List ℕ) (touches : List Touch) → AllPairs Sooner (filter (is_of unit) (uses_from shapes units c q k named touches))
once unit shapes units c q k named [] = pairs_nil Sooner
once unit shapes units c q k named (touch ∷ touches) =
    subst (AllPairs Sooner) (sym (filter-append (is_of unit) head rest))
    (pairs_append Sooner (filter (is_of unit) head) (filter (is_of unit) rest)
    (AllPairs-filter Sooner (is_of unit) head (pairs_few Sooner (is_first_named units named touch.what) (use_of shapes c q k touch)))
    (once unit shapes units c q (suc k) (named ++ touch.what ∷ []) touches)
    (cross (cases_Bool (touch.what == unit))))
  where
    head : List Use
    head = if is_first_named units named touch.what then use_of shapes c q k touch ∷ [] else []

    rest : List Use
    rest = uses_from shapes units c q (suc k) (named ++ touch.what ∷ []) touches

    cross : ((touch.what == unit) ≡ true) ⊎ ((touch.what == unit) ≡ false) → All (λ u. All (Sooner u) (filter (is_of unit) (uses_from shapes units c q (suc k) (named ++ touch.what ∷ []) touches))) (filter (is_of unit) (if is_first_named units named touch.what then use_of shapes c q k touch ∷ [] else []))
    cross (inl e) = λ i d lt. subst (All (Sooner (slice_index_or (filter (is_of unit) head) i d))) (sym (named_none unit shapes units c q (suc k) (named ++ touch.what ∷ []) touches (named_last unit touch.what named e))) (All-nil (Sooner (slice_index_or (filter (is_of unit) head) i d)))
    cross (inr e) = subst (All (λ u. All (Sooner u) (filter (is_of unit) rest))) (sym (not_of unit (is_first_named units named touch.what) (use_of shapes c q k touch) e)) (All-nil (λ u. All (Sooner u) (filter (is_of unit) rest)))

-- USES OF ALL COMMANDS

pub late : (shapes : List Shape) (units c : ℕ) (commands : List Command) → All (λ u. c ≤ u.command) (uses_of shapes units c commands)
late shapes units c [] = All-nil (λ u. c ≤ u.command)
late shapes units c (command ∷ commands) =
    All-append (λ u. c ≤ u.command) (command_uses shapes units c command) (uses_of shapes units (suc c) commands)
    (All-weaker (λ u. u.command ≡ c) (λ u. c ≤ u.command) (λ u e. omega (arith, e)) (command_uses shapes units c command) (of_command shapes units c command))
    (All-weaker (λ u. suc c ≤ u.command) (λ u. c ≤ u.command) (λ u h. omega (arith, h)) (uses_of shapes units (suc c) commands) (late shapes units (suc c) commands))

by_command : (unit : ℕ) (shapes : List Shape) (units c : ℕ) (commands : List Command) → AllPairs Sooner (filter (is_of unit) (uses_of shapes units c commands))
by_command unit shapes units c [] = pairs_nil Sooner
by_command unit shapes units c (command ∷ commands) =
    subst (AllPairs Sooner) (sym (filter-append (is_of unit) (command_uses shapes units c command) (uses_of shapes units (suc c) commands)))
    (pairs_append Sooner (filter (is_of unit) (command_uses shapes units c command)) (filter (is_of unit) (uses_of shapes units (suc c) commands))
    (once unit shapes units c command.queue 0 [] (touches_of shapes command.op))
    (by_command unit shapes units (suc c) commands)
    (All-filter (is_of unit) (λ u. All (Sooner u) (filter (is_of unit) (uses_of shapes units (suc c) commands))) (command_uses shapes units c command)
    (All-weaker (λ u. u.command ≡ c) (λ u. All (Sooner u) (filter (is_of unit) (uses_of shapes units (suc c) commands)))
    (λ u e. All-weaker (λ v. suc c ≤ v.command) (Sooner u) (λ v h. omega (arith, e, h)) (filter (is_of unit) (uses_of shapes units (suc c) commands)) (All-filter (is_of unit) (λ v. suc c ≤ v.command) (uses_of shapes units (suc c) commands) (late shapes units (suc c) commands)))
    (command_uses shapes units c command) (of_command shapes units c command))))

-- RUNS

before_flat : (joins : Use → Use → Bool) (u : Use) (R : List (List Use)) → flat (before_runs joins u R) ≡ u ∷ flat R
before_flat joins u [] = refl
before_flat joins u ([] ∷ runs) = refl
before_flat joins u ((v ∷ run) ∷ runs) = go (joins u v)
  where
    go : (b : Bool) → flat (if b then (u ∷ v ∷ run) ∷ runs else (u ∷ []) ∷ (v ∷ run) ∷ runs) ≡ u ∷ v ∷ (run ++ flat runs)
    go true = refl
    go false = refl

pub runs_flat : (joins : Use → Use → Bool) (uses : List Use) → flat (runs joins uses) ≡ uses
runs_flat joins [] = refl
runs_flat joins (u ∷ uses) = before_flat joins u (runs joins uses) ∙ ap (λ l. u ∷ l) (runs_flat joins uses)

before_some : (joins : Use → Use → Bool) (u : Use) (R : List (List Use)) → All (λ r. 0 < length r) R → All (λ r. 0 < length r) (before_runs joins u R)
before_some joins u [] h = All-cons (λ r. 0 < length r) (u ∷ []) [] (omega arith) (All-nil (λ r. 0 < length r))
before_some joins u ([] ∷ runs) h = All-cons (λ r. 0 < length r) (u ∷ []) ([] ∷ runs) (omega arith) h
before_some joins u ((v ∷ run) ∷ runs) h = go (joins u v)
  where
    go : (b : Bool) → All (λ r. 0 < length r) (if b then (u ∷ v ∷ run) ∷ runs else (u ∷ []) ∷ (v ∷ run) ∷ runs)
    go true = All-cons (λ r. 0 < length r) (u ∷ v ∷ run) runs (omega arith) (All-tail (λ r. 0 < length r) (v ∷ run) runs h)
    go false = All-cons (λ r. 0 < length r) (u ∷ []) ((v ∷ run) ∷ runs) (omega arith) h

runs_some : (joins : Use → Use → Bool) (uses : List Use) → All (λ r. 0 < length r) (runs joins uses)
runs_some joins [] = All-nil (λ r. 0 < length r)
runs_some joins (u ∷ uses) = before_some joins u (runs joins uses) (runs_some joins uses)

-- ALL GROUPS

-- they hold the uses unit by unit
pub groups_flat : (joins : Use → Use → Bool) (uses : List Use) (ks : List ℕ) → flat (flat_map (unit_groups joins uses) ks) ≡ flat_map (unit_uses uses) ks
groups_flat joins uses [] = refl
groups_flat joins uses (k ∷ ks) =
    flat_map-append (λ r. r) (unit_groups joins uses k) (flat_map (unit_groups joins uses) ks)
    ∙ ap (λ l. l ++ flat (flat_map (unit_groups joins uses) ks)) (runs_flat joins (unit_uses uses k))
    ∙ ap (λ l. unit_uses uses k ++ l) (groups_flat joins uses ks)

groups_some : (joins : Use → Use → Bool) (uses : List Use) (ks : List ℕ) → All (λ r. 0 < length r) (flat_map (unit_groups joins uses) ks)
groups_some joins uses [] = All-nil (λ r. 0 < length r)
groups_some joins uses (k ∷ ks) = All-append (λ r. 0 < length r) (unit_groups joins uses k) (flat_map (unit_groups joins uses) ks) (runs_some joins (unit_uses uses k)) (groups_some joins uses ks)

pub of_unit : (uses : List Use) (k : ℕ) → All (λ u. u.unit ≡ k) (unit_uses uses k)
of_unit uses k = All-weaker (λ u. is_of k u ≡ true) (λ u. u.unit ≡ k) (λ u e. eqb-true u.unit k e) (unit_uses uses k) (filter_passes (is_of k) uses)

pub of_one_unit : (joins : Use → Use → Bool) (uses : List Use) (k : ℕ) → All (λ A. All (λ u. u.unit ≡ k) A) (unit_groups joins uses k)
of_one_unit joins uses k = each_of_flat (λ u. u.unit ≡ k) (unit_groups joins uses k) (subst (All (λ u. u.unit ≡ k)) (sym (runs_flat joins (unit_uses uses k))) (of_unit uses k))

groups_one : (joins : Use → Use → Bool) (uses : List Use) (ks : List ℕ) → All OfOne (flat_map (unit_groups joins uses) ks)
groups_one joins uses [] = All-nil OfOne
groups_one joins uses (k ∷ ks) =
    All-append OfOne (unit_groups joins uses k) (flat_map (unit_groups joins uses) ks)
    (All-weaker (λ A. All (λ u. u.unit ≡ k) A) OfOne (λ A h. (k, h)) (unit_groups joins uses k) (of_one_unit joins uses k))
    (groups_one joins uses ks)

pub units_from : (uses : List Use) (a n : ℕ) → All (λ u. a ≤ u.unit) (flat_map (unit_uses uses) (range_with_len a n))
units_from uses a zero = All-nil (λ u. a ≤ u.unit)
units_from uses a (suc n) =
    All-append (λ u. a ≤ u.unit) (unit_uses uses a) (flat_map (unit_uses uses) (range_with_len (a + 1) n))
    (All-weaker (λ u. u.unit ≡ a) (λ u. a ≤ u.unit) (λ u e. omega (arith, e)) (unit_uses uses a) (of_unit uses a))
    (All-weaker (λ u. a + 1 ≤ u.unit) (λ u. a ≤ u.unit) (λ u h. omega (arith, h)) (flat_map (unit_uses uses) (range_with_len (a + 1) n)) (units_from uses (a + 1) n))

by_unit : (uses : List Use) (a n : ℕ) → ((unit : ℕ) → AllPairs Sooner (unit_uses uses unit)) → AllPairs Before (flat_map (unit_uses uses) (range_with_len a n))
by_unit uses a zero each = pairs_nil Before
by_unit uses a (suc n) each =
    pairs_append Before (unit_uses uses a) (flat_map (unit_uses uses) (range_with_len (a + 1) n))
    (λ i j d lt within. inr (of_unit uses a i d (omega (arith, lt, within)) ∙ sym (of_unit uses a j d within), each a i j d lt within))
    (by_unit uses (a + 1) n each)
    (All-weaker (λ u. u.unit ≡ a) (λ u. All (Before u) (flat_map (unit_uses uses) (range_with_len (a + 1) n)))
    (λ u e. All-weaker (λ v. a + 1 ≤ v.unit) (Before u) (λ v h. inl (omega (arith, e, h))) (flat_map (unit_uses uses) (range_with_len (a + 1) n)) (units_from uses (a + 1) n))
    (unit_uses uses a) (of_unit uses a))

-- THE LAWS

module _ (frame : NumberedFrame) (commands : List Command) where
  abbrev groups : List (List Use)
  groups = (grouped frame commands).groups

  pub whole : AreWhole (grouped frame commands)
  whole = groups_flat (frame_joins frame) (all_uses frame commands) (range_with_len 0 (length frame.units)) ∙ counted
    where
      counted : flat_map (unit_uses (all_uses frame commands)) (range_with_len 0 (length frame.units)) ≡ flat_map (unit_uses (uses_of (all_shapes frame) (length (sharings_in frame)) 0 commands)) (range_with_len 0 (length (sharings_in frame)))
      counted = ap (λ n. flat_map (unit_uses (uses_of (all_shapes frame) n 0 commands)) (range_with_len 0 n)) (sym (length-map frame.units (λ u. u.sharing)))

  sorted : AllPairs Before (flat groups)
  sorted = subst (AllPairs Before) (sym (groups_flat (frame_joins frame) (all_uses frame commands) (range_with_len 0 (length frame.units)))) (by_unit (all_uses frame commands) 0 (length frame.units) (λ unit. by_command unit (all_shapes frame) (length frame.units) 0 commands))

  pub in_order : InOrder groups
  in_order = record {
    some = groups_some (frame_joins frame) (all_uses frame commands) (range_with_len 0 (length frame.units));
    one = groups_one (frame_joins frame) (all_uses frame commands) (range_with_len 0 (length frame.units));
    sorted = sorted;
  }

  pub groups_rise : GroupsRise groups
  groups_rise g h lt = apart Before groups g h sorted lt

  pub members_rise : MembersRise groups
  members_rise = λ g d lt. rise (slice_index_or groups g d) (in_order.one g d lt) (within_each Before groups sorted g d lt)
    where
      rise : (A : List Use) → OfOne A → AllPairs Before A → AllPairs Sooner A
      rise A one pairs i j d lt within = go (pairs i j d lt within)
        where
          go : Before (slice_index_or A i d) (slice_index_or A j d) → Sooner (slice_index_or A i d) (slice_index_or A j d)
          go (inl l) = let a = one.1 i d (omega (arith, lt, within)) in let b = one.1 j d within in absurd (omega (arith, l, a, b))
          go (inr p) = p.1
