-- Which kind of prologue stands before a group.
use Rattle.std.proofs.Common.{◌≡◌, ◌⊎◌, ⊎_elim, inl, inr, ℕ, zero, suc, ◌<◌, ◌≤◌, ◌==◌, ◌&&◌, not, Bool, true, false, List, [], ◌∷◌, length, if◌then◌else◌, refl, sym, ap, ◌∙◌, subst, eqb-true, arith}
use Rattle.std.specs.List.{Contains, range_with_len}
use Rattle.std.specs.Prelude.{is_some}
use Rattle.std.proofs.lemmas.Bool.{and_from, and_parts, cases_eq, cases_order, false≢true, not-true}
use Rattle.std.proofs.lemmas.List.Elements.{filter_passes}
use Rattle.std.proofs.lemmas.List.Sums.{passes_at_first}
use Rattle.law_sound.proofs.Contained.{contains_number, some_part}
use Rattle.law_sound.proofs.Grouped.{Over, over_parts}
use Rattle.law_sound.proofs.Groups.{is_own, next_within, some_use}
use Rattle.law_sound.specs.Plan.{is_first, is_over, unit_of}
use Rattle.compile_groups.specs.Groups.{shares}
use Rattle.compile_groups.specs.Laws.{IsGrouped}
use Rattle.compile_groups.specs.Needs.{group_at, goes_on, is_of, is_touched}
use Rattle.compile_groups.specs.Placed.{is_import, placed, unit_at}
use Rattle.compile_groups.specs.declared.grouping.Grouping.{Grouping}
use Rattle.compile_groups.specs.declared.unit_use.Use.{Use}
use Rattle.compile_record.proofs.Contained.{contains_filter}
use Rattle.compile_record.specs.Script.{is_released}
use Rattle.compile_record.specs.Wanted.{is_there}
use Rattle.compile_barriers.specs.Prologues.{earlier, first, first_kind, has_uses, is_transfer, next_kind, prologue_of}
use Rattle.compile_barriers.specs.Under.{Heap, is_under, last_below, last_uses, place_of, under, uses_under}
use Rattle.compile_barriers.specs.declared.prologue.PrologueKind.TheVariants.{Nothing, Barrier, Transfer, Alias, AliasInit}
use Rattle.law_valid.proofs.Recorded.{is_transfer_kind}

has_some : (A : List Use) → 0 < length A → has_uses A ≡ true
has_some [] lt = absurd (omega (arith, lt))
has_some (u ∷ A) lt = refl

module _ (G : Grouping) where
  -- the unit at the place of a placed one
  pub placed_unit : (unit : ℕ) → place_of G unit < length (placed G) → unit_at G (place_of G unit) ≡ unit
  placed_unit unit lt = eqb-true (unit_at G (place_of G unit)) unit (passes_at_first (λ u. u == unit) (placed G) 0 lt)

  pub no_import : (unit : ℕ) → place_of G unit < length (placed G) → is_import G unit ≡ false
  no_import unit lt =
      let passes : (is_touched G (unit_at G (place_of G unit)) && not (is_import G (unit_at G (place_of G unit)))) ≡ true = filter_passes (λ u. is_touched G u && not (is_import G u)) (range_with_len 0 (length G.imports)) (place_of G unit) 0 lt in
      let fresh = not-true (is_import G (unit_at G (place_of G unit))) (and_parts (is_touched G (unit_at G (place_of G unit))) (not (is_import G (unit_at G (place_of G unit)))) passes).1 in
      subst (λ u. is_import G u ≡ false) (placed_unit unit lt) fresh

module _ (G : Grouping) (L : IsGrouped G) (heap : Heap) where
  -- AFTER A GROUP OF ITS UNIT

  pub earlier_is : (g : ℕ) → goes_on G g ≡ true → earlier G (suc g) ≡ group_at G g
  earlier_is g goes = ap (λ b. if b then group_at G g else []) goes

  next_is : (g : ℕ) → goes_on G g ≡ true → (prologue_of G heap (suc g)).kind ≡ next_kind G (earlier G (suc g)) (group_at G (suc g))
  next_is g goes =
      let within = next_within G L g goes in
      let some : has_uses (earlier G (suc g)) ≡ true = ap has_uses (earlier_is g goes) ∙ has_some (group_at G g) (some_use G L g (omega (arith, within))) in
      ap (λ b. if b then next_kind G (earlier G (suc g)) (group_at G (suc g)) else if is_import G (first (group_at G (suc g))).unit then Nothing else first_kind (has_uses (uses_under G heap (place_of G (first (group_at G (suc g))).unit))) (is_some (first (group_at G (suc g))).layout)) some

  -- a barrier, or a transfer
  pub next_kinds : (g : ℕ) → goes_on G g ≡ true → ((prologue_of G heap (suc g)).kind ≡ Barrier) ⊎ ((prologue_of G heap (suc g)).kind ≡ Transfer)
  next_kinds g goes = go (shares G.families G.sharings (first (group_at G (suc g))).unit (first (earlier G (suc g))).queue (first (group_at G (suc g))).queue) refl
    where
      go : (b : Bool) → shares G.families G.sharings (first (group_at G (suc g))).unit (first (earlier G (suc g))).queue (first (group_at G (suc g))).queue ≡ b → ((prologue_of G heap (suc g)).kind ≡ Barrier) ⊎ ((prologue_of G heap (suc g)).kind ≡ Transfer)
      go true e = inl (next_is g goes ∙ ap (λ b. if b then Barrier else Transfer) e)
      go false e = inr (next_is g goes ∙ ap (λ b. if b then Barrier else Transfer) e)

  pub next_there : (g : ℕ) → goes_on G g ≡ true → is_there (prologue_of G heap (suc g)).kind ≡ true
  next_there g goes = ⊎_elim (λ e. ap is_there e) (λ e. ap is_there e) (next_kinds g goes)

  -- where the group before it is not released it is a barrier, and else a transfer
  pub kept_barrier : (g : ℕ) → goes_on G g ≡ true → is_released G heap g ≡ false → (prologue_of G heap (suc g)).kind ≡ Barrier
  kept_barrier g goes kept = ⊎_elim
      (λ e. e)
      (λ (e : (prologue_of G heap (suc g)).kind ≡ Transfer). absurd (false≢true (sym kept ∙ and_from (goes_on G g) (is_transfer (prologue_of G heap (suc g)).kind) goes (ap is_transfer e))))
      (next_kinds g goes)

  pub released_goes : (g : ℕ) → is_released G heap g ≡ true → goes_on G g ≡ true
  released_goes g e = (and_parts (goes_on G g) (is_transfer (prologue_of G heap (suc g)).kind) e).0

  pub released_transfer : (g : ℕ) → is_released G heap g ≡ true → (prologue_of G heap (suc g)).kind ≡ Transfer
  released_transfer g e = is_transfer_kind (prologue_of G heap (suc g)).kind (and_parts (goes_on G g) (is_transfer (prologue_of G heap (suc g)).kind) e).1

  -- IN BYTES THAT ANOTHER UNIT HAD

  first_alone : (h : ℕ) → is_first G h ≡ true → earlier G h ≡ []
  first_alone zero e = refl
  first_alone (suc m) e = ap (λ b. if b then group_at G m else []) (not-true (goes_on G m) e)

  -- a unit that has a group has a last one
  last_some : (unit g m : ℕ) → g < m → m ≤ length G.groups → is_of G unit g ≡ true → 0 < length (last_below G unit m)
  last_some unit g zero lt le own = absurd (omega (arith, lt))
  last_some unit g (suc m) lt le own = go (is_of G unit m) refl (λ below. last_some unit g m below (omega (arith, le)) own)
    where
      go : (b : Bool) → is_of G unit m ≡ b → (g < m → 0 < length (last_below G unit m)) → 0 < length (if b then group_at G m else last_below G unit m)
      go true e rest = some_use G L m (omega (arith, le))
      go false e rest = ⊎_elim
          (λ (same : g ≡ m). absurd (false≢true (sym e ∙ subst (λ k. is_of G unit k ≡ true) same own)))
          (λ differ. rest (below differ (cases_order g m)))
          (cases_eq g m)
        where
          below : (g ≡ m → ⊥) → (g ≡ m) ⊎ ((g < m) ⊎ (m < g)) → g < m
          below differ (inl e2) = absurd (differ e2)
          below differ (inr (inl l)) = l
          below differ (inr (inr l)) = absurd (omega (arith, l, lt))

  pub under_some : (g h : ℕ) → is_over G heap g h ≡ true → has_uses (uses_under G heap (place_of G (unit_of G h))) ≡ true
  under_some g h o = has_some (uses_under G heap (place_of G (unit_of G h))) (some_part (λ a. last_uses G (unit_at G a)) (under G heap (place_of G (unit_of G h))) (place_of G (unit_of G g)) among some)
    where
      O : Over G heap g h
      O = over_parts G heap g h o

      among : Contains (under G heap (place_of G (unit_of G h))) (place_of G (unit_of G g))
      among = contains_filter (is_under G heap (place_of G (unit_of G h))) (range_with_len 0 (length (placed G))) (place_of G (unit_of G g)) (contains_number (length (placed G)) (place_of G (unit_of G g)) O.lower_placed) O.under

      some : 0 < length (last_uses G (unit_at G (place_of G (unit_of G g))))
      some = subst (λ u. 0 < length (last_uses G u)) (sym (placed_unit G (unit_of G g) O.lower_placed)) (last_some (unit_of G g) g (length G.groups) O.lower (omega arith) (is_own G L g O.lower))

  first_is : (g h : ℕ) → is_over G heap g h ≡ true → (prologue_of G heap h).kind ≡ first_kind true (is_some (first (group_at G h)).layout)
  first_is g h o =
      let O = over_parts G heap g h o in
      let A = earlier G h in
      let B = group_at G h in
      ap (λ b. if b then next_kind G A B else if is_import G (first B).unit then Nothing else first_kind (has_uses (uses_under G heap (place_of G (first B).unit))) (is_some (first B).layout)) (ap has_uses (first_alone h O.upper_first))
      ∙ ap (λ b. if b then Nothing else first_kind (has_uses (uses_under G heap (place_of G (first B).unit))) (is_some (first B).layout)) (no_import G (unit_of G h) O.upper_placed)
      ∙ ap (λ b. first_kind b (is_some (first B).layout)) (under_some g h o)

  -- an alias barrier, for an image with a barrier out of UNDEFINED
  pub over_kinds : (g h : ℕ) → is_over G heap g h ≡ true → ((prologue_of G heap h).kind ≡ Alias) ⊎ ((prologue_of G heap h).kind ≡ AliasInit)
  over_kinds g h o = go (is_some (first (group_at G h)).layout) refl
    where
      go : (b : Bool) → is_some (first (group_at G h)).layout ≡ b → ((prologue_of G heap h).kind ≡ Alias) ⊎ ((prologue_of G heap h).kind ≡ AliasInit)
      go true e = inr (first_is g h o ∙ ap (first_kind true) e)
      go false e = inl (first_is g h o ∙ ap (first_kind true) e)

  pub over_there : (g h : ℕ) → is_over G heap g h ≡ true → is_there (prologue_of G heap h).kind ≡ true
  over_there g h o = ⊎_elim (λ e. ap is_there e) (λ e. ap is_there e) (over_kinds g h o)
