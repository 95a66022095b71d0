-- The groups of a unit stand side by side.
use Rattle.std.proofs.Common.{◌≡◌, inl, inr, ℕ, ◌<◌, ◌≤◌, ◌+◌, ◌-◌, ◌==◌, ◌&&◌, not, List, [], ◌∷◌, ◌++◌, length, get_or, true, sym, ap, subst, ◌∙◌, arith, ⊎_elim, eqb-true, eq-eqb}
use Rattle.std.specs.List.{All, Any, range_with_len}
use Rattle.std.proofs.lemmas.Bool.{and_parts, cases_lt}
use Rattle.std.proofs.lemmas.List.{get_or_default, get_or_append_left, get_or_push, length_push}
use Rattle.std.proofs.lemmas.List.Elements.{filter_passes}
use Rattle.std.proofs.lemmas.List.Folds.{Any-from_list_any, list_any_at}
use Rattle.compile_groups.specs.Laws.{Before, IsGrouped}
use Rattle.compile_groups.specs.Needs.{group_at, has_unit, is_of, is_touched}
use Rattle.compile_groups.specs.Placed.{placed, unit_at, is_import}
use Rattle.compile_groups.specs.declared.grouping.Grouping.{Grouping}
use Rattle.compile_groups.specs.declared.unit_use.Use.{Use}
use Rattle.compile_lifetimes.specs.Internal.Lifetimes.{IsStart, IsLifetime, AreLifetimes, IsWithin}
use Rattle.compile_lifetimes.specs.declared.lifetime.Lifetime.{Lifetime}

not_below : (u v : Use) → Before u v → u.unit ≤ v.unit
not_below u v (inl less) = omega (arith, less)
not_below u v (inr (same, _)) = omega (arith, same)

-- a use of the unit
pub record UseOf (uses : List Use) (unit : ℕ) : Type 0 where
  pub place : ℕ
  pub use_at : Use
  pub within : place < length uses
  pub unit_is : (get_or uses place use_at).unit ≡ unit

pub use_of : (uses : List Use) (unit : ℕ) → has_unit unit uses ≡ true → UseOf uses unit
use_of uses unit e = go (Any-from_list_any (λ u. u.unit == unit) uses e)
  where
    go : Any (λ u. (u.unit == unit) ≡ true) uses → UseOf uses unit
    go (k, u, lt, at, is) = record { place = k; use_at = u; within = lt; unit_is = subst (λ (w : Use). w.unit ≡ unit) (sym at) (eqb-true u.unit unit is) }

pub has_use : (uses : List Use) (unit k : ℕ) (d : Use) → k < length uses → (get_or uses k d).unit ≡ unit → has_unit unit uses ≡ true
has_use uses unit k d lt is = list_any_at (λ (u : Use). u.unit == unit) uses k d lt (eq-eqb (get_or uses k d).unit unit is)

module _ (G : Grouping) (L : IsGrouped G) where
  pub some_member : (g : ℕ) → g < length G.groups → 0 < length (group_at G g)
  some_member g lt = L.in_order.some g [] lt

  first_unit : (g : ℕ) (d : Use) → g < length G.groups → All (λ u. u.unit ≡ (get_or (group_at G g) 0 d).unit) (group_at G g)
  first_unit g d lt k e in-group =
      let one = L.in_order.one g [] lt in
      one.1 k e in-group ∙ sym (one.1 0 d (some_member g lt))

  pub unit_for : (g : ℕ) (uses : List Use) (d : Use) → g < length G.groups → uses ≡ group_at G g → All (λ u. u.unit ≡ (get_or uses 0 d).unit) (group_at G g)
  unit_for g uses d lt is = subst (λ l. All (λ u. u.unit ≡ (get_or l 0 d).unit) (group_at G g)) (sym is) (first_unit g d lt)

  -- units do not go down from a group to a later one
  rising : (g h : ℕ) → g < h → (k m : ℕ) (d e : Use) → k < length (group_at G g) → m < length (group_at G h) → (get_or (group_at G g) k d).unit ≤ (get_or (group_at G h) m e).unit
  rising g h lt k m d e in-g in-h = not_below (get_or (group_at G g) k d) (get_or (group_at G h) m e) (L.groups_rise g h lt k d in-g m e in-h)

  pub below_more : (unit middle found : ℕ) → middle < length G.groups → All (λ u. u.unit ≡ found) (group_at G middle) → found < unit → (g : ℕ) → g < middle + 1 → All (λ u. u.unit < unit) (group_at G g)
  below_more unit middle found lt is less g under k d in-group = ⊎_elim
      (λ earlier. let up = rising g middle earlier k 0 d d in-group (some_member middle lt) in let at = is 0 d (some_member middle lt) in omega (arith, up, at, less))
      (λ ge. let e : middle ≡ g = omega (arith, ge, under) in let at = subst (λ h. All (λ u. u.unit ≡ found) (group_at G h)) e is k d in-group in omega (arith, at, less))
      (cases_lt g middle)

  pub above_more : (unit middle found : ℕ) → middle < length G.groups → All (λ u. u.unit ≡ found) (group_at G middle) → unit ≤ found → (g : ℕ) → middle ≤ g → All (λ u. unit ≤ u.unit) (group_at G g)
  above_more unit middle found lt is least g over k d in-group = ⊎_elim
      (λ later. let up = rising middle g later 0 k d d (some_member middle lt) in-group in let at = is 0 d (some_member middle lt) in omega (arith, up, at, least))
      (λ ge. let e : middle ≡ g = omega (arith, ge, over) in let at = subst (λ h. All (λ u. u.unit ≡ found) (group_at G h)) e is k d in-group in omega (arith, at, least))
      (cases_lt middle g)

-- FROM THE FIRST TO THE LAST

module _ (G : Grouping) where
  touched_at : (unit : ℕ) → is_touched G unit ≡ true → (g : ℕ) × (g < length G.groups) × (is_of G unit g ≡ true)
  touched_at unit e = go (Any-from_list_any (has_unit unit) G.groups e)
    where
      go : Any (λ A. has_unit unit A ≡ true) G.groups → (g : ℕ) × (g < length G.groups) × (is_of G unit g ≡ true)
      go (g, A, lt, at, has) = (g, lt, subst (λ B. has_unit unit B ≡ true) (sym at ∙ get_or_default G.groups g A [] lt) has)

  inside : (unit first end : ℕ) → IsStart G unit first → IsStart G (unit + 1) end → (g : ℕ) → is_of G unit g ≡ true → (first ≤ g) × (g < end)
  inside unit first end S E g e =
      let u = use_of (group_at G g) unit e in
      let is = u.unit_is in (
        ⊎_elim (λ lt. absurd (let less = S.below g lt u.place u.use_at u.within in omega (arith, less, is))) (λ ge. ge) (cases_lt g first),
        ⊎_elim (λ lt. lt) (λ ge. absurd (let more = E.above g ge u.place u.use_at u.within in omega (arith, more, is))) (cases_lt g end),
      )

  pub some_before : (unit wide end : ℕ) → wide ≡ unit → IsStart G (wide + 1) end → is_touched G unit ≡ true → 1 ≤ end
  some_before unit wide end same E touched =
      let g = touched_at unit touched in
      let u = use_of (group_at G g.0) unit g.2 in
      let is = u.unit_is in
      ⊎_elim (λ lt. omega (arith, lt)) (λ ge. absurd (let more = E.above g.0 ge u.place u.use_at u.within in omega (arith, more, is, same))) (cases_lt g.0 end)

  pub lifetime_for : (unit wide first end : ℕ) → wide ≡ unit → IsStart G wide first → IsStart G (wide + 1) end → is_touched G unit ≡ true → IsLifetime G unit (record { first = first; last = end - 1 })
  lifetime_for unit wide first end same S-wide E-wide touched =
      let S : IsStart G unit first = subst (λ u. IsStart G u first) same S-wide in
      let E : IsStart G (unit + 1) end = subst (λ u. IsStart G (u + 1) end) same E-wide in
      let there = touched_at unit touched in
      let known = inside unit first end S E there.0 there.2 in
      let low = known.0 in
      let high = known.1 in
      let most = E.within in
      record {
        order = omega (arith, low, high);
        within = omega (arith, high, most);
        own = λ g from to k d in-group.
            let under : g < end = omega (arith, to, high) in
            let least = S.above g from k d in-group in
            let less = E.below g under k d in-group in
            omega (arith, least, less);
        all = λ g e. let b = inside unit first end S E g e in (b.0, (let lt = b.1 in omega (arith, lt)));
      }

  -- OF PLACED UNITS

  pub placed_touched : (units : List ℕ) (a : ℕ) → units ≡ placed G → a < length units → is_touched G (get_or units a 0) ≡ true
  placed_touched units a is lt =
      let inside : a < length (placed G) = subst (λ l. a < length l) is lt in
      let passes = filter_passes (λ unit. is_touched G unit && not (is_import G unit)) (range_with_len 0 (length G.imports)) a 0 inside in
      subst (λ l. is_touched G (get_or l a 0) ≡ true) (sym is) (and_parts (is_touched G (unit_at G a)) (not (is_import G (unit_at G a))) passes).0

  pub one_more : (units : List ℕ) (k : ℕ) (list : List Lifetime) (one : Lifetime) → units ≡ placed G → AreLifetimes G k list → IsLifetime G (get_or units k 0) one → AreLifetimes G (k + 1) (list ++ one ∷ [])
  one_more units k list one is L new =
      let size = L.count in
      record {
        count = length_push list one ∙ ap (λ n. n + 1) size;
        each = λ a d lt. ⊎_elim
            (λ less. subst (IsLifetime G (unit_at G a)) (sym (get_or_append_left list (one ∷ []) d a (omega (arith, less, size)))) (L.each a d less))
            (λ ge.
            let e : k ≡ a = omega (arith, ge, lt) in
            let here : IsLifetime G (unit_at G k) one = subst (λ l. IsLifetime G (get_or l k 0) one) is new in
            subst (IsLifetime G (unit_at G a)) (sym (get_or_push list one d a (size ∙ e))) (subst (λ b. IsLifetime G (unit_at G b) one) e here))
            (cases_lt a k);
      }

  pub all_within : (units : ℕ) (list : List Lifetime) → AreLifetimes G units list → IsWithin G list
  all_within units list L k d lt =
      let size = L.count in
      let one = L.each k d (omega (arith, lt, size)) in
      let order = one.order in
      let within = one.within in
      (omega (arith, order, within), within)
