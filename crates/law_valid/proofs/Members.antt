-- The uses of groups: each is fit, and what they do on one queue together is fit.
use Rattle.std.proofs.Common.{◌≡◌, ⊎_elim, ℕ, zero, suc, ◌-◌, ◌<◌, ◌≤◌, ◌==◌, ◌||◌, not, Bool, true, false, List, [], ◌∷◌, length, get_or, if◌then◌else◌, refl, sym, ap, ◌∙◌, subst, eq-eqb, eqb-true, arith}
use Rattle.std.specs.List.{All, Contains, filter}
use Rattle.std.proofs.lemmas.Bool.{cases_lt}
use Rattle.std.proofs.lemmas.List.{get_or_past}
use Rattle.std.proofs.lemmas.List.Elements.{All-nil, All-filter, All-contains, filter_passes}
use Rattle.std.proofs.lemmas.List.Folds.{list_any_at, Any-from_list_any}
use Rattle.base.proofs.Booleans.{clash}
use Rattle.base.proofs.Lists.{each_of}
use Rattle.vk.specs.Families.{family_number, on_family}
use Rattle.vk.specs.Sharings.{is_shared}
use Rattle.vk.specs.Stages.{expand}
use Rattle.vk.specs.Support.{supported, supports}
use Rattle.compile_groups.specs.Groups.{family_of, same_family, sharing_of, shares}
use Rattle.compile_groups.specs.Laws.{IsGrouped}
use Rattle.compile_groups.specs.Needs.{group_at, is_of, goes_on, has_unit, one_unit}
use Rattle.compile_groups.specs.Placed.{unit_at}
use Rattle.compile_groups.specs.Uses.{no_use}
use Rattle.compile_groups.specs.declared.grouping.Grouping.{Grouping}
use Rattle.compile_groups.specs.declared.unit_use.Use.{Use}
use Rattle.program.specs.Barriers.{has_stages}
use Rattle.compile_barriers.specs.Prologues.{first, last}
use Rattle.compile_barriers.specs.Under.{Heap, under, last_below, last_uses, uses_under}
use Rattle.compile_barriers.specs.Unions.{on, stages_on, accesses_on, writes_on, is_elsewhere}
use Rattle.law_valid.proofs.Bits.{Inside, empty_inside, over_inside, over_each, supports_inside, supports_from, on_family_over}
use Rattle.law_valid.proofs.Uses.{IsFit, Runs, FitsIn, sourced_fit}

has_filtered : {X : Type 0} (p : X → Bool) (xs : List X) (k : ℕ) (d : X) → k < length xs → p (get_or xs k d) ≡ true → Contains (filter p xs) (get_or xs k d)
has_filtered p [] k d lt e = absurd (omega (arith, lt))
has_filtered p (x ∷ xs) zero d lt e = subst (λ b. Contains (if b then x ∷ filter p xs else filter p xs) x) (sym e) (0, omega arith, refl)
has_filtered p (x ∷ xs) (suc k) d lt e = more (p x) (has_filtered p xs k d (omega (arith, lt)) e)
  where
    more : (b : Bool) → Contains (filter p xs) (get_or xs k d) → Contains (if b then x ∷ filter p xs else filter p xs) (get_or xs k d)
    more true h = let l = h.1 in (suc h.0, omega (arith, l), h.2)
    more false h = h

-- WHAT USES ON ONE QUEUE DO

stage_inside : (A : List Use) (k : ℕ) (d : Use) → k < length A → Inside (get_or A k d).stage.0 (stages_on A (get_or A k d).queue)
stage_inside A k d lt =
    let q : ℕ = (get_or A k d).queue in
    All-contains (λ (u : Use). Inside u.stage.0 (stages_on A q)) (on q A) (get_or A k d) (over_each (λ (u : Use). u.stage.0) (on q A)) (has_filtered (λ (u : Use). u.queue == q) A k d lt (eq-eqb q q refl))

module _ (G : Grouping) (A : List Use) (fit : All (FitsIn G) A) where
  on_fit : (q : ℕ) → All (λ u. IsFit G.shapes (family_of G.families q) u) (on q A)
  on_fit q = λ k d lt.
      let u : Use = get_or (on q A) k d in
      let own : u.queue ≡ q = eqb-true u.queue q (filter_passes (λ (x : Use). x.queue == q) A k d lt) in
      subst (λ p. IsFit G.shapes (family_of G.families p) u) own (All-filter (λ (x : Use). x.queue == q) (FitsIn G) A fit k d lt)

  pub some_stage : (k : ℕ) (d : Use) → k < length A → has_stages (stages_on A (get_or A k d).queue) ≡ true
  some_stage k d lt = go (stages_on A (get_or A k d).queue == 0) refl
    where
      go : (b : Bool) → (stages_on A (get_or A k d).queue == 0) ≡ b → not b ≡ true
      go false e = refl
      go true e = absurd (clash (sym (fit k d lt).stage ∙ eq-eqb (get_or A k d).stage.0 0 (empty_inside (get_or A k d).stage.0 (stages_on A (get_or A k d).queue) (stage_inside A k d lt) (eqb-true (stages_on A (get_or A k d).queue) 0 e))))

  inside_stages : (q s : ℕ) → Inside (stages_on A q) s → (k : ℕ) (d : Use) → k < length (on q A) → Inside (get_or (on q A) k d).stage.0 s
  inside_stages q s h k d lt i =
      let one = over_each (λ (u : Use). u.stage.0) (on q A) k d lt i in
      omega (arith, one, h i)

  pub supports_writes : (q s : ℕ) → Inside (stages_on A q) s → supports s (writes_on A q) ≡ true
  supports_writes q s h = supports_from s (writes_on A q)
      (over_inside (λ (u : Use). u.writes.0) (supported (expand s)) (on q A) (λ k d lt. supports_inside (get_or (on q A) k d).stage.0 s (get_or (on q A) k d).writes.0 (inside_stages q s h k d lt) (on_fit q k d lt).writes))

  pub supports_accesses : (q s : ℕ) → Inside (stages_on A q) s → supports s (accesses_on A q) ≡ true
  supports_accesses q s h = supports_from s (accesses_on A q)
      (over_inside (λ (u : Use). u.accesses.0) (supported (expand s)) (on q A) (λ k d lt. supports_inside (get_or (on q A) k d).stage.0 s (get_or (on q A) k d).accesses.0 (inside_stages q s h k d lt) (on_fit q k d lt).accesses))

  pub stages_family : (q : ℕ) → on_family (stages_on A q) (family_number (family_of G.families q)) ≡ true
  stages_family q = on_family_over (λ (u : Use). u.stage.0) (family_number (family_of G.families q)) (on q A) (λ k d lt. (on_fit q k d lt).on_family)

-- uses of which none is elsewhere are on the queue
pub none_elsewhere : (A : List Use) (q k : ℕ) (d : Use) → k < length A → is_elsewhere A q ≡ false → (get_or A k d).queue ≡ q
none_elsewhere A q k d lt none = go ((get_or A k d).queue == q) refl
  where
    go : (b : Bool) → ((get_or A k d).queue == q) ≡ b → (get_or A k d).queue ≡ q
    go true e = eqb-true (get_or A k d).queue q e
    go false e = absurd (clash (sym none ∙ list_any_at (λ (u : Use). not (u.queue == q)) A k d lt (ap not e)))

-- GROUPS

met : (A B : List Use) (x y : ℕ) → All (λ u. u.unit ≡ x) A → All (λ u. u.unit ≡ y) B → one_unit A B ≡ true → x ≡ y
met A B x y one two e = go (Any-from_list_any (λ (u : Use). has_unit u.unit B) A e)
  where
    go : (k : ℕ) × (u : Use) × (k < length A) × (get_or A k u ≡ u) × (has_unit u.unit B ≡ true) → x ≡ y
    go (k, u, lt, at, has) = there (Any-from_list_any (λ (v : Use). v.unit == u.unit) B has)
      where
        unit : u.unit ≡ x
        unit = subst (λ (w : Use). w.unit ≡ x) at (one k u lt)

        there : (m : ℕ) × (v : Use) × (m < length B) × (get_or B m v ≡ v) × ((v.unit == u.unit) ≡ true) → x ≡ y
        there (m, v, below, is, same) = sym unit ∙ sym (eqb-true v.unit u.unit same) ∙ subst (λ (w : Use). w.unit ≡ y) is (two m v below)

module _ (G : Grouping) (L : IsGrouped G) (runs : All (Runs G) G.commands) where
  pub group_fit : (g : ℕ) → All (FitsIn G) (group_at G g)
  group_fit g = ⊎_elim within past (cases_lt g (length G.groups))
    where
      within : g < length G.groups → All (FitsIn G) (group_at G g)
      within lt = λ k d l. sourced_fit G runs (get_or (group_at G g) k d) (L.sourced g [] lt k d l)

      past : length G.groups ≤ g → All (FitsIn G) (group_at G g)
      past le = subst (All (FitsIn G)) (sym (get_or_past G.groups g [] le)) (All-nil (FitsIn G))

  last_fit : (unit n : ℕ) → All (FitsIn G) (last_below G unit n)
  last_fit unit zero = All-nil (FitsIn G)
  last_fit unit (suc n) = go (last_fit unit n) (is_of G unit n)
    where
      go : All (FitsIn G) (last_below G unit n) → (b : Bool) → All (FitsIn G) (if b then group_at G n else last_below G unit n)
      go rest true = group_fit n
      go rest false = rest

  pub under_fit : (heap : Heap) (b : ℕ) → All (FitsIn G) (uses_under G heap b)
  under_fit heap b = each_of (FitsIn G) (λ a. last_uses G (unit_at G a)) (under G heap b) (λ k d lt. last_fit (unit_at G (get_or (under G heap b) k d)) (length G.groups))

  pub some_use : (g : ℕ) → g < length G.groups → 0 < length (group_at G g)
  some_use g lt = L.in_order.some g [] lt

  -- the groups of one unit, one after the other
  pub next_within : (g : ℕ) → goes_on G g ≡ true → suc g < length G.groups
  next_within g goes = ⊎_elim (λ h. h) (λ le. absurd (nothing le)) (cases_lt (suc g) (length G.groups))
    where
      no_unit : (A : List Use) → one_unit A [] ≡ false
      no_unit [] = refl
      no_unit (u ∷ A) = no_unit A

      nothing : length G.groups ≤ suc g → ⊥
      nothing le = clash (sym (no_unit (group_at G g)) ∙ sym (ap (one_unit (group_at G g)) (get_or_past G.groups (suc g) [] le)) ∙ goes)

  pub unit_of : (g : ℕ) → g < length G.groups → (unit : ℕ) × All (λ u. u.unit ≡ unit) (group_at G g)
  unit_of g lt = L.in_order.one g [] lt

  -- what is used in the next group of a unit is that unit
  pub next_unit : (g : ℕ) → goes_on G g ≡ true → (k j : ℕ) (d e : Use) → k < length (group_at G g) → j < length (group_at G (suc g)) → (get_or (group_at G g) k d).unit ≡ (get_or (group_at G (suc g)) j e).unit
  next_unit g goes k j d e lk lj =
      let within = next_within g goes in
      let one = unit_of g (omega (arith, within)) in
      let two = unit_of (suc g) within in
      one.1 k d lk ∙ met (group_at G g) (group_at G (suc g)) one.0 two.0 one.1 two.1 goes ∙ sym (two.1 j e lj)

  -- the uses of a group that is not shared are of one family
  pub family_kept : (g : ℕ) → g < length G.groups → is_shared (sharing_of G.sharings (first (group_at G g)).unit) ≡ false → family_number (family_of G.families (first (group_at G g)).queue) ≡ family_number (family_of G.families (last (group_at G g)).queue)
  family_kept g lt own = ⊎_elim several alone (cases_lt 0 (length (group_at G g) - 1))
    where
      A : List Use
      A = group_at G g

      same : (s : Bool) (f : Bool) → s ≡ false → (s || f) ≡ true → f ≡ true
      same false f e h = h
      same true f e h = absurd cc

      several : 0 < length (group_at G g) - 1 → family_number (family_of G.families (first (group_at G g)).queue) ≡ family_number (family_of G.families (last (group_at G g)).queue)
      several more =
          let l = some_use g lt in
          let together : shares G.families G.sharings (first (group_at G g)).unit (first (group_at G g)).queue (last (group_at G g)).queue ≡ true = (L.joined g [] lt 0 (length (group_at G g) - 1) no_use more (omega (arith, l))).shared in
          eqb-true (family_number (family_of G.families (first (group_at G g)).queue)) (family_number (family_of G.families (last (group_at G g)).queue))
          (same (is_shared (sharing_of G.sharings (first (group_at G g)).unit)) (same_family G.families (first (group_at G g)).queue (last (group_at G g)).queue) own together)

      alone : length (group_at G g) - 1 ≤ 0 → family_number (family_of G.families (first (group_at G g)).queue) ≡ family_number (family_of G.families (last (group_at G g)).queue)
      alone none =
          let z : 0 ≡ length (group_at G g) - 1 = omega (arith, none) in
          ap (λ k. family_number (family_of G.families (get_or (group_at G g) k no_use).queue)) z
