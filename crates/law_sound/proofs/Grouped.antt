-- Groups stand by their pieces.
use Rattle.std.proofs.Common.{◌≡◌, ◌⊎◌, ⊎_elim, inl, inr, ℕ, zero, suc, ◌+◌, ◌-◌, ◌%◌, ◌<◌, ◌≤◌, ◌==◌, ◌&&◌, nat_lt, not, true, false, length, if◌then◌else◌, sym, ap, ◌∙◌, subst, eq-eqb, arith}
use Rattle.std.proofs.lemmas.Bool.{and_from, and_parts, cases_lt, false≢true, le-leb, le-ltb, lt-ltb, ltb-true, not-true, or_left}
use Rattle.law_sound.proofs.Counting.{count_le, count_same}
use Rattle.law_sound.proofs.Groups.{goes, unit_known, unit_piece, units_rise}
use Rattle.law_sound.specs.Plan.{export_at, group_count, is_copy, is_first, is_last, is_of_export, is_of_unit, is_over, is_placed, is_read, plan_of, resource_after, resource_of, unit_of, unit_under}
use Rattle.law_plan.specs.Plans.{Grouped}
use Rattle.compile_groups.specs.Laws.{IsGrouped, IsKnown}
use Rattle.compile_groups.specs.Needs.{goes_on, is_touched}
use Rattle.compile_groups.specs.Placed.{placed}
use Rattle.compile_groups.specs.declared.grouping.Grouping.{Grouping}
use Rattle.compile_record.specs.Pieces.{has_piece, is_readback, piece_of}
use Rattle.compile_barriers.specs.Under.{Heap, place_of}

-- what it is for one group to be over another
pub record Over (G : Grouping) (heap : Heap) (g h : ℕ) : Type 0 where
  pub lower : g < length G.groups
  pub lower_placed : place_of G (unit_of G g) < length (placed G)
  pub lower_last : goes_on G g ≡ false
  pub upper : h < length G.groups
  pub upper_placed : place_of G (unit_of G h) < length (placed G)
  pub upper_first : is_first G h ≡ true
  pub under : unit_under G heap g h ≡ true

placed_parts : (G : Grouping) (g : ℕ) → is_placed G g ≡ true → (g < length G.groups) × (place_of G (unit_of G g) < length (placed G))
placed_parts G g e =
    let both = and_parts (is_of_unit G g) (nat_lt (place_of G (unit_of G g)) (length (placed G))) e in
    (ltb-true g (length G.groups) both.0, ltb-true (place_of G (unit_of G g)) (length (placed G)) both.1)

pub over_parts : (G : Grouping) (heap : Heap) (g h : ℕ) → is_over G heap g h ≡ true → Over G heap g h
over_parts G heap g h e =
    let halves = and_parts (is_placed G g && is_last G g) ((is_placed G h && is_first G h) && unit_under G heap g h) e in
    let low = and_parts (is_placed G g) (is_last G g) halves.0 in
    let rest = and_parts (is_placed G h && is_first G h) (unit_under G heap g h) halves.1 in
    let high = and_parts (is_placed G h) (is_first G h) rest.0 in
    let below = placed_parts G g low.0 in
    let above = placed_parts G h high.0 in
    record {
      lower = below.0;
      lower_placed = below.1;
      lower_last = not-true (goes_on G g) low.1;
      upper = above.0;
      upper_placed = above.1;
      upper_first = high.1;
      under = rest.1;
    }

placed_from : (G : Grouping) (g : ℕ) → g < length G.groups → place_of G (unit_of G g) < length (placed G) → is_placed G g ≡ true
placed_from G g lt below = and_from (is_of_unit G g) (nat_lt (place_of G (unit_of G g)) (length (placed G))) (lt-ltb g (length G.groups) lt) (lt-ltb (place_of G (unit_of G g)) (length (placed G)) below)

pub over_from : (G : Grouping) (heap : Heap) (g h : ℕ) → Over G heap g h → is_over G heap g h ≡ true
over_from G heap g h O =
    and_from (is_placed G g && is_last G g) ((is_placed G h && is_first G h) && unit_under G heap g h)
    (and_from (is_placed G g) (is_last G g) (placed_from G g O.lower O.lower_placed) (ap not O.lower_last))
    (and_from (is_placed G h && is_first G h) (unit_under G heap g h) (and_from (is_placed G h) (is_first G h) (placed_from G h O.upper O.upper_placed) O.upper_first) O.under)

-- of two groups one after the other with one piece: both of a unit, or both of an export
pub data AreNext (G : Grouping) (g : ℕ) : Type 0 where
  of_unit : suc g < length G.groups → goes_on G g ≡ true → AreNext G g
  of_export : length G.groups ≤ g → is_copy G g ≡ true → is_read G (suc g) ≡ true → export_at G g ≡ export_at G (suc g) → AreNext G g

module _ (G : Grouping) (L : IsGrouped G) (K : IsKnown G) where
  -- RESOURCES

  pub resource_unit : (g : ℕ) → g < length G.groups → resource_of G g ≡ unit_of G g
  resource_unit g lt = ap (λ b. if b then unit_of G g else resource_after G g) (lt-ltb g (length G.groups) lt)

  pub resource_late : (g : ℕ) → length G.groups ≤ g → resource_of G g ≡ resource_after G g
  resource_late g le = ap (λ b. if b then unit_of G g else resource_after G g) (le-ltb g (length G.groups) le)

  pub resource_export : (g : ℕ) → length G.groups ≤ g → g < group_count G → resource_of G g ≡ length G.imports + export_at G g
  resource_export g le lt = resource_late g le ∙ ap (λ b. length G.imports + (if b then export_at G g else g)) (lt-ltb g (group_count G) lt)

  resource_past : (g : ℕ) → length G.groups ≤ g → group_count G ≤ g → resource_of G g ≡ length G.imports + g
  resource_past g le past = resource_late g le ∙ ap (λ b. length G.imports + (if b then export_at G g else g)) (le-ltb g (group_count G) past)

  -- a group of no unit is of a resource after them
  pub late : (g : ℕ) → length G.groups ≤ g → length G.imports ≤ resource_of G g
  late g le = ⊎_elim (λ lt. let e = resource_export g le lt in omega (arith, e)) (λ past. let e = resource_past g le past in omega (arith, e)) (cases_lt g (group_count G))

  pub resource_piece : (g : ℕ) → has_piece G (resource_of G g) ≡ true
  resource_piece g = ⊎_elim
      (λ lt. subst (λ r. has_piece G r ≡ true) (sym (resource_unit g lt)) (unit_piece G L g lt))
      (λ le. or_left (is_readback G (resource_of G g)) (is_touched G (resource_of G g)) (le-leb (length G.imports) (resource_of G g) (late g le)))
      (cases_lt g (length G.groups))

  -- THEY RISE

  units : (g h : ℕ) → g ≤ h → h < length G.groups → resource_of G g ≤ resource_of G h
  units g h le lt = ⊎_elim
      (λ l. let r = units_rise G L g h l lt in let a = resource_unit g (omega (arith, l, lt)) in let b = resource_unit h lt in omega (arith, r, a, b))
      (λ (l : h ≤ g). let same : g ≡ h = omega (arith, l, le) in let e : resource_of G g ≡ resource_of G h = ap (resource_of G) same in omega (arith, e))
      (cases_lt g h)

  across : (g h : ℕ) → g < length G.groups → length G.groups ≤ h → resource_of G g < resource_of G h
  across g h lt le = let a = resource_unit g lt in let u = unit_known G L K g lt in let b = late h le in omega (arith, a, u, b)

  after : (g h : ℕ) → g ≤ h → length G.groups ≤ g → resource_of G g ≤ resource_of G h
  after g h le low = ⊎_elim
      (λ (lh : h < group_count G). let a = resource_export g low (omega (arith, le, lh)) in let b = resource_export h (omega (arith, low, le)) lh in omega (arith, a, b, le))
      (λ (ph : group_count G ≤ h). let b = resource_past h (omega (arith, low, le)) ph in ⊎_elim
      (λ (lg : g < group_count G). let a = resource_export g low lg in omega (arith, a, b, le))
      (λ (pg : group_count G ≤ g). let a = resource_past g low pg in omega (arith, a, b, le))
      (cases_lt g (group_count G)))
      (cases_lt h (group_count G))

  resources_rise : (g h : ℕ) → g ≤ h → resource_of G g ≤ resource_of G h
  resources_rise g h le = ⊎_elim (units g h le) (λ late-h. ⊎_elim (λ lt. let l = across g h lt late-h in omega (arith, l)) (after g h le) (cases_lt g (length G.groups))) (cases_lt h (length G.groups))

  pub rising : (g h : ℕ) → g ≤ h → piece_of G (resource_of G g) ≤ piece_of G (resource_of G h)
  rising g h le = count_le (has_piece G) (resource_of G g) (resource_of G h) (resources_rise g h le)

  -- ONE PIECE

  pub same_resource : (g h : ℕ) → piece_of G (resource_of G g) ≡ piece_of G (resource_of G h) → resource_of G g ≡ resource_of G h
  same_resource g h e = count_same (has_piece G) (resource_of G g) (resource_of G h) (resource_piece g) (resource_piece h) e

  export_group : (g : ℕ) → length G.groups ≤ g → g < group_count G → is_of_export G g ≡ true
  export_group g le lt = and_from (not (is_of_unit G g)) (nat_lt g (group_count G)) (ap not (le-ltb g (length G.groups) le)) (lt-ltb g (group_count G) lt)

  exports_next : (g : ℕ) → length G.groups ≤ g → suc g < group_count G → resource_of G g ≡ resource_of G (suc g) → AreNext G g
  exports_next g le lt same =
      let a = resource_export g le (omega (arith, lt)) in
      let b = resource_export (suc g) (omega (arith, le)) lt in
      let one : export_at G g ≡ export_at G (suc g) = omega (arith, a, b, same) in
      let even : (g - length G.groups) % 2 ≡ 0 = omega (arith, one, le) in
      let odd : (suc g - length G.groups) % 2 ≡ 1 = omega (arith, one, le) in
      of_export le
      (and_from (is_of_export G g) ((g - length G.groups) % 2 == 0) (export_group g le (omega (arith, lt))) (eq-eqb ((g - length G.groups) % 2) 0 even))
      (and_from (is_of_export G (suc g)) ((suc g - length G.groups) % 2 == 1) (export_group (suc g) (omega (arith, le)) lt) (eq-eqb ((suc g - length G.groups) % 2) 1 odd))
      one

  late_next : (g : ℕ) → length G.groups ≤ g → resource_of G g ≡ resource_of G (suc g) → AreNext G g
  late_next g le same = ⊎_elim
      (λ (lt : suc g < group_count G). exports_next g le lt same)
      (λ (past : group_count G ≤ suc g). let b = resource_past (suc g) (omega (arith, le)) past in absurd (⊎_elim
      (λ (lt : g < group_count G). let a = resource_export g le lt in omega (arith, a, b, same))
      (λ (pg : group_count G ≤ g). let a = resource_past g le pg in omega (arith, a, b, same))
      (cases_lt g (group_count G))))
      (cases_lt (suc g) (group_count G))

  pub next : (g : ℕ) → piece_of G (resource_of G g) ≡ piece_of G (resource_of G (suc g)) → AreNext G g
  next g e = go (cases_lt (suc g) (length G.groups)) (cases_lt g (length G.groups))
    where
      same : resource_of G g ≡ resource_of G (suc g)
      same = same_resource g (suc g) e

      go : (suc g < length G.groups) ⊎ (length G.groups ≤ suc g) → (g < length G.groups) ⊎ (length G.groups ≤ g) → AreNext G g
      go (inl lt) h = of_unit lt (goes G L g lt (sym (resource_unit g (omega (arith, lt))) ∙ same ∙ resource_unit (suc g) lt))
      go (inr le) (inl lt) = absurd (let l = across g (suc g) lt le in omega (arith, l, same))
      go (inr le) (inr low) = late_next g low same

  -- within the units a group with the piece of the next one goes on
  goes_there : (g : ℕ) → g < length G.groups → piece_of G (resource_of G g) ≡ piece_of G (resource_of G (suc g)) → goes_on G g ≡ true
  goes_there g lt e = go (next g e)
    where
      go : AreNext G g → goes_on G g ≡ true
      go (of_unit below on) = on
      go (of_export le copy read one) = absurd (omega (arith, le, lt))

  module _ (heap : Heap) where
    last_one : (g h k : ℕ) → is_over G heap g h ≡ true → piece_of G (resource_of G k) ≡ piece_of G (resource_of G g) → k ≤ g
    last_one g h k o same = ⊎_elim
        (λ (lt : g < k).
        let O = over_parts G heap g h o in
        let up = rising g (suc g) (omega arith) in
        let more = rising (suc g) k (omega (arith, lt)) in
        let e : piece_of G (resource_of G g) ≡ piece_of G (resource_of G (suc g)) = omega (arith, up, more, same) in
        absurd (false≢true (sym O.lower_last ∙ goes_there g O.lower e)))
        (λ le. le)
        (cases_lt g k)

    first_one : (h k : ℕ) → h < length G.groups → is_first G h ≡ true → piece_of G (resource_of G k) ≡ piece_of G (resource_of G h) → h ≤ k
    first_one zero k lt begins same = omega arith
    first_one (suc m) k lt begins same = ⊎_elim
        (λ (low : k < suc m).
        let up = rising k m (omega (arith, low)) in
        let more = rising m (suc m) (omega arith) in
        let e : piece_of G (resource_of G m) ≡ piece_of G (resource_of G (suc m)) = omega (arith, up, more, same) in
        absurd (false≢true (sym (not-true (goes_on G m) begins) ∙ goes_there m (omega (arith, lt)) e)))
        (λ le. le)
        (cases_lt k (suc m))

    pub grouped : Grouped (plan_of G heap)
    grouped = record {
      rising = rising;
      over_last = last_one;
      over_first = λ g h k o same. let O = over_parts G heap g h o in first_one h k O.upper O.upper_first same;
    }
