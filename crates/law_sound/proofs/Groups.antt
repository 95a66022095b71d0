-- Groups by their numbers: of which unit they are, and which uses they have.
use Rattle.std.proofs.Common.{◌≡◌, ⊎_elim, ℕ, zero, suc, ◌<◌, ◌≤◌, ◌==◌, true, false, List, [], ◌∷◌, length, get_or, refl, sym, ap, ◌∙◌, subst, eq-eqb, eqb-true, arith}
use Rattle.std.specs.List.{All, Contains}
use Rattle.std.specs.Option.{option_map_or}
use Rattle.std.proofs.lemmas.Bool.{cases_lt, false≢true, or_right}
use Rattle.std.proofs.lemmas.List.{get_or_past}
use Rattle.std.proofs.lemmas.List.Elements.{All-contains}
use Rattle.std.proofs.lemmas.List.Folds.{list_any_at, Any-from_list_any}
use Rattle.law_sound.specs.Plan.{unit_of}
use Rattle.compile_groups.specs.Laws.{Before, IsGrouped, IsKnown, IsSourced}
use Rattle.compile_groups.specs.Needs.{group_at, goes_on, has_unit, is_member, is_of, is_touched, one_unit, queue_of}
use Rattle.compile_groups.specs.Uses.{no_use}
use Rattle.compile_groups.specs.declared.command.Command.{Command}
use Rattle.compile_groups.specs.declared.grouping.Grouping.{Grouping}
use Rattle.compile_groups.specs.declared.unit_use.Use.{Use}
use Rattle.compile_record.specs.Pieces.{has_piece, is_readback}
use Rattle.compile_barriers.specs.Prologues.{first}

-- a use of command c in group g
pub record Member (G : Grouping) (c g : ℕ) : Type 0 where
  pub one : Use
  pub there : Contains (group_at G g) one
  pub command : one.command ≡ c

module _ (G : Grouping) (L : IsGrouped G) where
  pub some_use : (g : ℕ) → g < length G.groups → 0 < length (group_at G g)
  some_use g lt = L.in_order.some g [] lt

  pub nothing_past : (g : ℕ) → length G.groups ≤ g → group_at G g ≡ []
  nothing_past g le = get_or_past G.groups g [] le

  -- UNITS

  -- all uses of a group are of its unit
  pub unit_each : (g : ℕ) → g < length G.groups → All (λ u. u.unit ≡ unit_of G g) (group_at G g)
  unit_each g lt = λ k d lk. let one = L.in_order.one g [] lt in one.1 k d lk ∙ sym (one.1 0 no_use (some_use g lt))

  pub units_rise : (g h : ℕ) → g < h → h < length G.groups → unit_of G g ≤ unit_of G h
  units_rise g h lt below = ⊎_elim (λ l. omega (arith, l)) (λ both. let same = both.0 in omega (arith, same)) before
    where
      before : Before (first (group_at G g)) (first (group_at G h))
      before = L.groups_rise g h lt 0 no_use (some_use g (omega (arith, lt, below))) 0 no_use (some_use h below)

  pub is_own : (g : ℕ) → g < length G.groups → is_of G (unit_of G g) g ≡ true
  is_own g lt = list_any_at (λ (u : Use). u.unit == unit_of G g) (group_at G g) 0 no_use (some_use g lt) (eq-eqb (unit_of G g) (unit_of G g) refl)

  pub touched : (g : ℕ) → g < length G.groups → is_touched G (unit_of G g) ≡ true
  touched g lt = list_any_at (has_unit (unit_of G g)) G.groups g [] lt (is_own g lt)

  pub unit_piece : (g : ℕ) → g < length G.groups → has_piece G (unit_of G g) ≡ true
  unit_piece g lt = or_right (is_readback G (unit_of G g)) (is_touched G (unit_of G g)) (touched g lt)

  -- a group of the unit
  pub of_unit : (unit g : ℕ) → g < length G.groups → is_of G unit g ≡ true → unit_of G g ≡ unit
  of_unit unit g lt e = go (Any-from_list_any (λ (u : Use). u.unit == unit) (group_at G g) e)
    where
      go : (k : ℕ) × (u : Use) × (k < length (group_at G g)) × (get_or (group_at G g) k u ≡ u) × ((u.unit == unit) ≡ true) → unit_of G g ≡ unit
      go (k, u, below, at, has) = sym (unit_each g lt k u below) ∙ ap (λ (w : Use). w.unit) at ∙ eqb-true u.unit unit has

  -- THE NEXT GROUP

  no_unit : (A : List Use) → one_unit A [] ≡ false
  no_unit [] = refl
  no_unit (u ∷ A) = no_unit A

  pub next_within : (g : ℕ) → goes_on G g ≡ true → suc g < length G.groups
  next_within g goes = ⊎_elim (λ h. h) (λ le. absurd (false≢true (sym (no_unit (group_at G g)) ∙ sym (ap (one_unit (group_at G g)) (nothing_past (suc g) le)) ∙ goes))) (cases_lt (suc g) (length G.groups))

  pub next_unit : (g : ℕ) → goes_on G g ≡ true → unit_of G g ≡ unit_of G (suc g)
  next_unit g goes = go (Any-from_list_any (λ (u : Use). has_unit u.unit (group_at G (suc g))) (group_at G g) goes)
    where
      within : suc g < length G.groups
      within = next_within g goes

      go : (k : ℕ) × (u : Use) × (k < length (group_at G g)) × (get_or (group_at G g) k u ≡ u) × (has_unit u.unit (group_at G (suc g)) ≡ true) → unit_of G g ≡ unit_of G (suc g)
      go (k, u, below, at, has) = sym (unit_each g (omega (arith, within)) k u below) ∙ ap (λ (w : Use). w.unit) at ∙ sym (of_unit u.unit (suc g) within has)

  pub goes : (g : ℕ) → suc g < length G.groups → unit_of G g ≡ unit_of G (suc g) → goes_on G g ≡ true
  goes g lt same =
      let next : has_unit (unit_of G g) (group_at G (suc g)) ≡ true = subst (λ unit. has_unit unit (group_at G (suc g)) ≡ true) (sym same) (is_own (suc g) lt) in
      list_any_at (λ (u : Use). has_unit u.unit (group_at G (suc g))) (group_at G g) 0 no_use (some_use g (omega (arith, lt))) next

  -- MEMBERS

  pub member_of : (c g : ℕ) → is_member G c g ≡ true → Member G c g
  member_of c g e = go (Any-from_list_any (λ (u : Use). u.command == c) (group_at G g) e)
    where
      go : (k : ℕ) × (u : Use) × (k < length (group_at G g)) × (get_or (group_at G g) k u ≡ u) × ((u.command == c) ≡ true) → Member G c g
      go (k, u, below, at, has) = record { one = u; there = (k, below, at); command = eqb-true u.command c has }

  pub sourced : (c g : ℕ) → g < length G.groups → (M : Member G c g) → IsSourced G M.one
  sourced c g lt M = All-contains (IsSourced G) (group_at G g) M.one (L.sourced g [] lt) M.there

  -- the queue of a use is that of its command
  pub use_queue : (u : Use) → IsSourced G u → u.queue ≡ queue_of G u.command
  use_queue u S = S.queue ∙ sym (ap (λ o. option_map_or (λ (command : Command). command.queue) o 0) S.there)

  pub member_queue : (c g : ℕ) → g < length G.groups → (M : Member G c g) → M.one.queue ≡ queue_of G c
  member_queue c g lt M = use_queue M.one (sourced c g lt M) ∙ ap (queue_of G) M.command

  -- a member of a group is an earlier command than one of a later group of the same unit
  pub commands_rise : (g h : ℕ) (u v : Use) → g < h → h < length G.groups → unit_of G g ≡ unit_of G h → Contains (group_at G g) u → Contains (group_at G h) v → u.command < v.command
  commands_rise g h u v lt below same (i, li, ati) (j, lj, atj) = ⊎_elim (λ l. absurd (omega (arith, l, units))) (λ both. both.1) before
    where
      before : Before u v
      before = subst (λ x. Before x v) ati (subst (λ y. Before (get_or (group_at G g) i u) y) atj (L.groups_rise g h lt i u li j v lj))

      units : u.unit ≡ v.unit
      units =
          sym (ap (λ (w : Use). w.unit) ati) ∙ unit_each g (omega (arith, lt, below)) i u li
          ∙ same ∙ sym (unit_each h below j v lj) ∙ ap (λ (w : Use). w.unit) atj

  pub first_in : (g : ℕ) → g < length G.groups → Contains (group_at G g) (first (group_at G g))
  first_in g lt = contains_at (group_at G g) 0 (some_use g lt)
    where
      contains_at : (A : List Use) (k : ℕ) → k < length A → Contains A (get_or A k no_use)
      contains_at [] k l = absurd (omega (arith, l))
      contains_at (u ∷ A) zero l = (0, omega arith, refl)
      contains_at (u ∷ A) (suc k) l = let rest = contains_at A k (omega (arith, l)) in let below = rest.1 in (suc rest.0, omega (arith, below), rest.2)

module _ (G : Grouping) (L : IsGrouped G) (K : IsKnown G) where
  pub unit_known : (g : ℕ) → g < length G.groups → unit_of G g < length G.imports
  unit_known g lt = (K.members g [] lt 0 no_use (some_use G L g lt)).0
