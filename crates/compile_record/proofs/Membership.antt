-- Members of groups, in their order, and the groups that a command uses.
use Rattle.std.proofs.Common.{◌≡◌, inl, inr, ⊎_elim, ℕ, zero, suc, ◌+◌, ◌-◌, ◌<◌, ◌≤◌, ◌==◌, ◌||◌, Bool, true, false, List, [], ◌∷◌, length, get_or, refl, sym, ap, ◌∙◌, subst, eqb-true, eq-eqb, arith}
use Rattle.std.specs.List.{All, Contains, filter}
use Rattle.std.specs.Option.{option_map_or}
use Rattle.std.specs.Prelude.{slice_get, slice_index_or, Some}
use Rattle.std.proofs.lemmas.Bool.{cases_lt}
use Rattle.std.proofs.lemmas.List.{get_or_default}
use Rattle.std.proofs.lemmas.List.Elements.{All-filter, All-map, All-weaker, Contains-append_left, Contains-append_right, filter_passes}
use Rattle.std.proofs.lemmas.Option.{slice_get_within}
use Rattle.base.proofs.Lists.{entry_of}
use Rattle.base.specs.declared.shape.Shape.{Shape}
use Rattle.vk.specs.Families.{family_number}
use Rattle.vk.specs.Sharings.{is_shared}
use Rattle.compile_groups.specs.Groups.{family_of, same_family, sharing_of, shares}
use Rattle.compile_groups.specs.Laws.{Before, IsFound, IsSourced, IsGrouped}
use Rattle.compile_groups.specs.Needs.{group_at, group_of, goes_on, queue_of, uses_in, uses_at, use_at}
use Rattle.compile_groups.specs.Uses.{no_use, command_uses, uses_of}
use Rattle.compile_groups.specs.declared.command.Command.{Command}
use Rattle.compile_groups.specs.declared.grouping.Grouping.{Grouping}
use Rattle.compile_groups.specs.declared.unit_use.Use.{Use}
use Rattle.compile_groups.specs.declared.unit_use.UseAt.{UseAt}
use Rattle.compile_lifetimes.proofs.Forward.{same_unit}
use Rattle.compile_record.proofs.Contained.{contains_entry, at_entry, contains_filter, contains_map}
use Rattle.compile_record.specs.Script.{groups_used}
use Rattle.compile_barriers.specs.Prologues.{first, last}

-- the use is number `entry` of group g
pub record IsMember (G : Grouping) (g : ℕ) (u : Use) : Type 0 where
  pub group : g < length G.groups
  pub entry : ℕ
  pub low : entry < length (group_at G g)
  pub is : slice_index_or (group_at G g) entry no_use ≡ u

-- it is one of the command
pub record IsUsed (G : Grouping) (c g : ℕ) : Type 0 where
  pub one : Use
  pub member : IsMember G g one
  pub command : one.command ≡ c

-- a use of a command is one of all uses
pub among_uses : (shapes : List Shape) (units c : ℕ) (commands : List Command) (place : ℕ) (command : Command) (u : Use) → slice_get commands place ≡ Some command → Contains (command_uses shapes units (c + place) command) u → Contains (uses_of shapes units c commands) u
among_uses shapes units c [] place command u e h = absurd cc
among_uses shapes units c (x ∷ commands) zero command u e h =
    let here : x ≡ command = cc in
    let number : c + zero ≡ c = omega arith in
    Contains-append_left (command_uses shapes units c x) (uses_of shapes units (suc c) commands) u (subst (λ n. Contains (command_uses shapes units n x) u) number (subst (λ y. Contains (command_uses shapes units (c + zero) y) u) (sym here) h))
among_uses shapes units c (x ∷ commands) (suc place) command u e h =
    let number : c + suc place ≡ suc c + place = omega arith in
    Contains-append_right (command_uses shapes units c x) (uses_of shapes units (suc c) commands) u (among_uses shapes units (suc c) commands place command u e (subst (λ n. Contains (command_uses shapes units n command) u) number h))

module _ (G : Grouping) (L : IsGrouped G) where
  -- ONE MEMBER

  pub member_of : (g : ℕ) → g < length G.groups → (u : Use) → Contains (group_at G g) u → IsMember G g u
  member_of g lt u h = record { group = lt; entry = h.0; low = h.1; is = at_entry (group_at G g) u no_use h }

  pub contained : (g : ℕ) (u : Use) → IsMember G g u → Contains (group_at G g) u
  contained g u M = (M.entry, M.low, get_or_default (group_at G g) M.entry u no_use M.low ∙ M.is)

  pub some : (g : ℕ) → g < length G.groups → 0 < length (group_at G g)
  some g lt = L.in_order.some g [] lt

  pub first_member : (g : ℕ) → g < length G.groups → IsMember G g (first (group_at G g))
  first_member g lt = record { group = lt; entry = 0; low = some g lt; is = refl }

  pub last_member : (g : ℕ) → g < length G.groups → IsMember G g (last (group_at G g))
  last_member g lt = let l = some g lt in record { group = lt; entry = length (group_at G g) - 1; low = omega (arith, l); is = refl }

  pub source : (g : ℕ) (u : Use) → IsMember G g u → IsSourced G u
  source g u M = subst (IsSourced G) M.is (L.sourced g [] M.group M.entry no_use M.low)

  pub command_below : (g : ℕ) (u : Use) → IsMember G g u → u.command < length G.commands
  command_below g u M = let S = source g u M in slice_get_within G.commands u.command S.command S.there

  pub queue_below : All (λ command. command.queue < length G.families) G.commands → (g : ℕ) (u : Use) → IsMember G g u → u.queue < length G.families
  queue_below known g u M =
      let S = source g u M in
      subst (λ q. q < length G.families) (sym S.queue) (entry_of (λ command. command.queue < length G.families) G.commands u.command S.command known S.there)

  pub member_queue : (g : ℕ) (u : Use) → IsMember G g u → queue_of G u.command ≡ u.queue
  member_queue g u M = let S = source g u M in ap (λ o. option_map_or (λ (command : Command). command.queue) o 0) S.there ∙ sym S.queue

  pub unit_of : (g : ℕ) (u : Use) (M : IsMember G g u) → u.unit ≡ (L.in_order.one g [] M.group).0
  unit_of g u M = subst (λ (w : Use). w.unit ≡ (L.in_order.one g [] M.group).0) M.is ((L.in_order.one g [] M.group).1 M.entry no_use M.low)

  -- TWO MEMBERS

  pub members_rise : (g : ℕ) (u v : Use) (M : IsMember G g u) (N : IsMember G g v) → M.entry < N.entry → u.command < v.command
  members_rise g u v M N lt =
      subst (λ (w : Use). w.command < v.command) M.is
      (subst (λ (w : Use). (get_or (group_at G g) M.entry no_use).command < w.command) N.is
      (L.members_rise g [] M.group M.entry N.entry no_use lt N.low))

  pub after_first : (g : ℕ) (u : Use) → IsMember G g u → (u ≡ first (group_at G g) → ⊥) → (first (group_at G g)).command < u.command
  after_first g u M differ = members_rise g (first (group_at G g)) u (record { group = M.group; entry = 0; low = some g M.group; is = refl }) M above
    where
      above : 0 < M.entry
      above = ⊎_elim (λ h. h) (λ h. absurd (let none : M.entry ≡ 0 = omega (arith, h) in differ (sym M.is ∙ ap (λ k. get_or (group_at G g) k no_use) none))) (cases_lt 0 M.entry)

  pub before_last : (g : ℕ) (u : Use) → IsMember G g u → (u ≡ last (group_at G g) → ⊥) → u.command < (last (group_at G g)).command
  before_last g u M differ = members_rise g u (last (group_at G g)) M (record { group = M.group; entry = length (group_at G g) - 1; low = within; is = refl }) below
    where
      within : length (group_at G g) - 1 < length (group_at G g)
      within = let l = M.low in omega (arith, l)

      below : M.entry < length (group_at G g) - 1
      below = ⊎_elim (λ h. h) (λ h. absurd (let l = M.low in let end : M.entry ≡ length (group_at G g) - 1 = omega (arith, h, l) in differ (sym M.is ∙ ap (λ k. get_or (group_at G g) k no_use) end))) (cases_lt M.entry (length (group_at G g) - 1))

  next_unit : (g : ℕ) (u v : Use) → IsMember G g u → IsMember G (suc g) v → goes_on G g ≡ true → u.unit ≡ v.unit
  next_unit g u v M N goes = unit_of g u M ∙ same_unit (group_at G g) (group_at G (suc g)) (L.in_order.one g [] M.group) (L.in_order.one (suc g) [] N.group) goes ∙ sym (unit_of (suc g) v N)

  pub groups_rise : (g : ℕ) (u v : Use) → IsMember G g u → IsMember G (suc g) v → goes_on G g ≡ true → u.command < v.command
  groups_rise g u v M N goes = go before
    where
      same : u.unit ≡ v.unit
      same = next_unit g u v M N goes

      before : Before u v
      before = subst (λ w. Before w v) M.is (subst (Before (get_or (group_at G g) M.entry no_use)) N.is (L.groups_rise g (suc g) (omega arith) M.entry no_use M.low N.entry no_use N.low))

      go : Before u v → u.command < v.command
      go (inl less) = absurd (omega (arith, less, same))
      go (inr both) = both.1

  -- the first and the last member share the unit
  shares_itself : (unit q : ℕ) → shares G.families G.sharings unit q q ≡ true
  shares_itself unit q = go (is_shared (sharing_of G.sharings unit))
    where
      go : (s : Bool) → (s || same_family G.families q q) ≡ true
      go true = refl
      go false = eq-eqb (family_number (family_of G.families q)) (family_number (family_of G.families q)) refl

  pub ends_share : (g : ℕ) → g < length G.groups → shares G.families G.sharings (first (group_at G g)).unit (first (group_at G g)).queue (last (group_at G g)).queue ≡ true
  ends_share g lt = ⊎_elim several alone (cases_lt 0 (length (group_at G g) - 1))
    where
      several : 0 < length (group_at G g) - 1 → shares G.families G.sharings (first (group_at G g)).unit (first (group_at G g)).queue (last (group_at G g)).queue ≡ true
      several more = let l = some g lt in (L.joined g [] lt 0 (length (group_at G g) - 1) no_use more (omega (arith, l))).shared

      alone : length (group_at G g) - 1 ≤ 0 → shares G.families G.sharings (first (group_at G g)).unit (first (group_at G g)).queue (last (group_at G g)).queue ≡ true
      alone none =
          let zero_is : 0 ≡ length (group_at G g) - 1 = omega (arith, none) in
          subst (λ k. shares G.families G.sharings (first (group_at G g)).unit (first (group_at G g)).queue (get_or (group_at G g) k no_use).queue ≡ true) zero_is (shares_itself (first (group_at G g)).unit (first (group_at G g)).queue)

  pub next_shares : (g : ℕ) → suc g < length G.groups → goes_on G g ≡ true → shares G.families G.sharings (first (group_at G (suc g))).unit (first (group_at G g)).queue (last (group_at G g)).queue ≡ true
  next_shares g lt goes =
      let under : g < length G.groups = omega (arith, lt) in
      subst (λ unit. shares G.families G.sharings unit (first (group_at G g)).queue (last (group_at G g)).queue ≡ true) (next_unit g (first (group_at G g)) (first (group_at G (suc g))) (first_member g under) (first_member (suc g) lt) goes) (ends_share g under)

  -- THE GROUPS THAT A COMMAND USES

  pub each_used : (c : ℕ) → All (IsUsed G c) (groups_used G c)
  each_used c = All-map (IsUsed G c) (λ (u : UseAt). u.group) (filter (λ u. u.command == c) (uses_at G)) (λ k d lt. All-filter (λ u. u.command == c) (λ u. (u.command == c) ≡ true → IsUsed G c u.group) (uses_at G) all k d lt (filter_passes (λ (u : UseAt). u.command == c) (uses_at G) k d lt))
    where
      used : (u : Use) → IsFound G u → (u.command == c) ≡ true → IsUsed G c (group_of G u.command u.unit)
      used u F e = record { one = u; member = member_of (group_of G u.command u.unit) F.group u F.member; command = eqb-true u.command c e }

      all : All (λ u. (u.command == c) ≡ true → IsUsed G c u.group) (uses_at G)
      all = All-map (λ (u : UseAt). (u.command == c) ≡ true → IsUsed G c u.group) (use_at G.groups) (uses_in G) (All-weaker (IsFound G) (λ u. (u.command == c) ≡ true → IsUsed G c (group_of G u.command u.unit)) used (uses_in G) L.found)

  pub is_used : (g : ℕ) (u : Use) → IsMember G g u → Contains (groups_used G u.command) g
  is_used g u M =
      subst (λ h. Contains (groups_used G u.command) h) number
      (contains_map (λ (x : UseAt). x.group) (filter (λ x. x.command == u.command) (uses_at G)) (use_at G.groups u)
      (contains_filter (λ (x : UseAt). x.command == u.command) (uses_at G) (use_at G.groups u) (contains_map (use_at G.groups) (uses_in G) u among) (eq-eqb u.command u.command refl)))
    where
      S : IsSourced G u
      S = source g u M

      among : Contains (uses_in G) u
      among =
          let n : 0 + u.command ≡ u.command = omega arith in
          among_uses G.shapes (length G.sharings) 0 G.commands u.command S.command u S.there (subst (λ k. Contains (command_uses G.shapes (length G.sharings) k S.command) u) (sym n) (contains_entry (command_uses G.shapes (length G.sharings) u.command S.command) S.entry u S.is))

      number : group_of G u.command u.unit ≡ g
      number = subst (λ (w : Use). group_of G w.command w.unit ≡ g) M.is (L.numbered g M.group M.entry no_use M.low)
