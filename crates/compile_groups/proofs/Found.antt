-- The group of a use is the first that has it, and it is found by the command and the unit.
use Rattle.std.proofs.Common.{◌≡◌, inl, inr, ⊎_elim, ℕ, zero, suc, ◌+◌, ◌-◌, ◌<◌, ◌≤◌, ◌==◌, Bool, true, false, List, [], ◌∷◌, length, get_or, if◌then◌else◌, refl, sym, ◌∙◌, subst, eqb-true, eq-eqb, arith}
use Rattle.std.specs.List.{All, Contains, filter, flat_map, list_any, range_with_len}
use Rattle.std.specs.Prelude.{slice_index_or}
use Rattle.std.proofs.lemmas.Bool.{and_from, and_parts, cases_lt, cases_eq}
use Rattle.std.proofs.lemmas.List.{length-append, length-map, get_or_append_left, get_or-append_right}
use Rattle.std.proofs.lemmas.List.Elements.{All-weaker, Contains-get_or, Contains-append_left, Contains-append_right}
use Rattle.std.proofs.lemmas.List.Folds.{list_any_at, list_any_none}
use Rattle.std.proofs.lemmas.List.Sums.{position_or_len_is}
use Rattle.frame.specs.Numbered.{NumberedFrame}
use Rattle.compile_groups.proofs.InOrder.{is_of, groups_flat, in_order}
use Rattle.compile_groups.proofs.Lists.{apart}
use Rattle.compile_groups.proofs.Sources.{units_within}
use Rattle.compile_groups.specs.Commands.{all_shapes}
use Rattle.compile_groups.specs.Groups.{unit_uses, unit_groups, all_uses, frame_joins, grouped}
use Rattle.compile_groups.specs.Laws.{Before, flat, InOrder, IsFound, AreFound, AreNumbered}
use Rattle.compile_groups.specs.Needs.{place_of, is_use}
use Rattle.compile_groups.specs.Uses.{uses_of}
use Rattle.compile_groups.specs.declared.command.Command.{Command}
use Rattle.compile_groups.specs.declared.unit_use.Use.{Use}

before_not : (u v : Use) → Before u v → is_use v.command v.unit u ≡ false
before_not u v b = go (is_use v.command v.unit u) refl
  where
    go : (z : Bool) → is_use v.command v.unit u ≡ z → z ≡ false
    go false e = refl
    go true e = absurd (no (eqb-true u.command v.command (and_parts (u.command == v.command) (u.unit == v.unit) e).0) (eqb-true u.unit v.unit (and_parts (u.command == v.command) (u.unit == v.unit) e).1) b)
      where
        no : u.command ≡ v.command → u.unit ≡ v.unit → Before u v → ⊥
        no c n (inl l) = omega (arith, n, l)
        no c n (inr p) = let l = p.1 in omega (arith, c, l)

itself : (u : Use) → is_use u.command u.unit u ≡ true
itself u = and_from (u.command == u.command) (u.unit == u.unit) (eq-eqb u.command u.command refl) (eq-eqb u.unit u.unit refl)

-- the group of its use number i
pub place_is : (groups : List (List Use)) → InOrder groups → (g i : ℕ) (d : Use) → g < length groups → i < length (slice_index_or groups g []) → place_of groups (slice_index_or (slice_index_or groups g []) i d).command (slice_index_or (slice_index_or groups g []) i d).unit ≡ g
place_is groups O g i d lg li = position_or_len_is (λ A. list_any (is_use u.command u.unit) A) groups g [] (omega (arith, lg)) (λ k lt. fails k lt) (λ lt. passes)
  where
    u : Use
    u = slice_index_or (slice_index_or groups g []) i d

    fails : (k : ℕ) → k < g → list_any (is_use (slice_index_or (slice_index_or groups g []) i d).command (slice_index_or (slice_index_or groups g []) i d).unit) (slice_index_or groups k []) ≡ false
    fails k lt = list_any_none (is_use u.command u.unit) (slice_index_or groups k []) (All-weaker (λ x. All (Before x) (slice_index_or groups g [])) (λ x. is_use u.command u.unit x ≡ false) (λ x h. before_not x u (h i d li)) (slice_index_or groups k []) (apart Before groups k g O.sorted lt))

    passes : list_any (is_use (slice_index_or (slice_index_or groups g []) i d).command (slice_index_or (slice_index_or groups g []) i d).unit) (slice_index_or groups g []) ≡ true
    passes = list_any_at (is_use u.command u.unit) (slice_index_or groups g []) i d li (itself u)

pub numbered : (frame : NumberedFrame) (commands : List Command) → AreNumbered (grouped frame commands)
numbered frame commands g lg = λ i d li. place_is (grouped frame commands).groups (in_order frame commands) g i d lg li

-- A USE IS IN A GROUP

record InGroup (groups : List (List Use)) (u : Use) : Type 0 where
  pub group : ℕ
  pub within : group < length groups
  pub entry : ℕ
  pub there : entry < length (slice_index_or groups group [])
  pub is : slice_index_or (slice_index_or groups group []) entry u ≡ u

later : (A : List Use) (groups : List (List Use)) (u : Use) → InGroup groups u → InGroup (A ∷ groups) u
later A groups u I = let w = I.within in record { group = suc I.group; within = omega (arith, w); entry = I.entry; there = I.there; is = I.is }

in_one : (groups : List (List Use)) (k : ℕ) (u : Use) → k < length (flat groups) → slice_index_or (flat groups) k u ≡ u → InGroup groups u
in_one [] k u lt e = absurd (omega (arith, lt))
in_one (A ∷ groups) k u lt e = ⊎_elim here (there (in_one groups (k - length A) u)) (cases_lt k (length A))
  where
    here : k < length A → InGroup (A ∷ groups) u
    here l = record { group = 0; within = omega arith; entry = k; there = l; is = sym (get_or_append_left A (flat groups) u k l) ∙ e }

    there : (k - length A < length (flat groups) → slice_index_or (flat groups) (k - length A) u ≡ u → InGroup groups u) → length A ≤ k → InGroup (A ∷ groups) u
    there more l = later A groups u (more (omega (arith, lt, length-append A (flat groups), l)) (sym (get_or-append_right A (flat groups) (length A) k u refl l) ∙ e))

found_in : (groups : List (List Use)) → InOrder groups → (u : Use) → InGroup groups u → (place_of groups u.command u.unit < length groups) × Contains (slice_index_or groups (place_of groups u.command u.unit) []) u
found_in groups O u I =
    let at : place_of groups u.command u.unit ≡ I.group = subst (λ v. place_of groups v.command v.unit ≡ I.group) I.is (place_is groups O I.group I.entry u I.within I.there) in
    let w = I.within in
    (omega (arith, at, w), subst (λ g. Contains (slice_index_or groups g []) u) (sym at) (I.entry, I.there, I.is))

pub filter_at : {X : Type 0} (p : X → Bool) (xs : List X) (u : X) (k : ℕ) → k < length xs → slice_index_or xs k u ≡ u → p u ≡ true → Contains (filter p xs) u
filter_at p [] u k lt e h = absurd (omega (arith, lt))
filter_at p (x ∷ xs) u zero lt e h = subst (λ b. Contains (if b then x ∷ filter p xs else filter p xs) u) (sym (subst (λ y. p y ≡ true) (sym e) h)) (0, omega arith, e)
filter_at p (x ∷ xs) u (suc k) lt e h = more (p x) (filter_at p xs u k (omega (arith, lt)) e h)
  where
    more : (b : Bool) → Contains (filter p xs) u → Contains (if b then x ∷ filter p xs else filter p xs) u
    more true c = let l = c.1 in (suc c.0, omega (arith, l), c.2)
    more false c = c

-- a use whose unit is one of the frame's is among the uses unit by unit
among_units : (uses : List Use) (a n : ℕ) (u : Use) → Contains uses u → a ≤ u.unit → u.unit < a + n → Contains (flat_map (unit_uses uses) (range_with_len a n)) u
among_units uses a zero u h le lt = absurd (omega (arith, le, lt))
among_units uses a (suc n) u h le lt = ⊎_elim here (there (among_units uses (a + 1) n u h)) (cases_eq u.unit a)
  where
    here : u.unit ≡ a → Contains (flat_map (unit_uses uses) (range_with_len a (suc n))) u
    here e = Contains-append_left (unit_uses uses a) (flat_map (unit_uses uses) (range_with_len (a + 1) n)) u (filter_at (is_of a) uses u h.0 h.1 h.2 (eq-eqb u.unit a e))

    there : (a + 1 ≤ u.unit → u.unit < a + 1 + n → Contains (flat_map (unit_uses uses) (range_with_len (a + 1) n)) u) → (u.unit ≡ a → ⊥) → Contains (flat_map (unit_uses uses) (range_with_len a (suc n))) u
    there more differ = Contains-append_right (unit_uses uses a) (flat_map (unit_uses uses) (range_with_len (a + 1) n)) u (more (omega (arith, le, differ)) (omega (arith, lt)))

pub found : (frame : NumberedFrame) (commands : List Command) → AreFound (grouped frame commands)
found frame commands =
    subst (λ n. All (IsFound (grouped frame commands)) (uses_of (all_shapes frame) n 0 commands)) (sym (length-map frame.units (λ u. u.sharing)))
    (λ k d lt. each (get_or (all_uses frame commands) k d) (Contains-get_or (all_uses frame commands) k d lt) (units_within (all_shapes frame) (length frame.units) 0 commands k d lt))
  where
    groups : List (List Use)
    groups = flat_map (unit_groups (frame_joins frame) (all_uses frame commands)) (range_with_len 0 (length frame.units))

    each : (u : Use) → Contains (all_uses frame commands) u → u.unit < length frame.units → IsFound (grouped frame commands) u
    each u h lt =
        let c : Contains (flat groups) u = subst (λ xs. Contains xs u) (sym (groups_flat (frame_joins frame) (all_uses frame commands) (range_with_len 0 (length frame.units)))) (among_units (all_uses frame commands) 0 (length frame.units) u h (omega arith) (omega (arith, lt))) in
        let f = found_in groups (in_order frame commands) u (in_one groups c.0 u c.1 c.2) in
        record { group = f.0; member = f.1 }
