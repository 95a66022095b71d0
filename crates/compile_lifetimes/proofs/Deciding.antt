-- The last uses of a unit and the first ones of another decide whether the one is before the other.
use Rattle.std.proofs.Common.{◌≡◌, ◌⊎◌, ◌↔◌, inl, inr, ℕ, ◌<◌, ◌≤◌, ◌+◌, ◌-◌, ◌&&◌, length, get_or, Bool, true, sym, subst, ◌∙◌, arith, List}
use Rattle.std.specs.List.{All, Any, list_all, range_with_len}
use Rattle.std.proofs.lemmas.Bool.{and_parts, and_from}
use Rattle.std.proofs.lemmas.List.Folds.{Any-from_list_any}
use Rattle.std.proofs.lemmas.List.Sums.{AllPass-from_list_all, list_all-from_AllPass}
use Rattle.compile_groups.specs.Laws.{IsGrouped}
use Rattle.compile_groups.specs.Needs.{group_at, is_of, is_member, leads, touches}
use Rattle.compile_groups.specs.Placed.{unit_at}
use Rattle.compile_groups.specs.declared.grouping.Grouping.{Grouping}
use Rattle.compile_groups.specs.declared.unit_use.Use.{Use}
use Rattle.compile_lifetimes.specs.Internal.Lifetimes.{IsLifetime, AreLifetimes, all_reach, lifetime_at, is_before}
use Rattle.compile_lifetimes.specs.Ordered.{IsBefore}
use Rattle.compile_lifetimes.specs.declared.lifetime.Lifetime.{Lifetime}
use Rattle.compile_lifetimes.proofs.Joined.{UseBy, use_by, has_by, of_range, to_last, from_first}
use Rattle.compile_lifetimes.proofs.Sides.{has_use}
use Rattle.base_reach.specs.Paths.{Path, then_on}

module _ (G : Grouping) where
  -- a group in which a command uses a unit
  touch_at : (unit c : ℕ) → touches G unit c ≡ true → (g : ℕ) × (is_of G unit g ≡ true) × (is_member G c g ≡ true)
  touch_at unit c e = go (Any-from_list_any (λ g. is_of G unit g && is_member G c g) (range_with_len 0 (length G.groups)) e)
    where
      go : Any (λ g. (is_of G unit g && is_member G c g) ≡ true) (range_with_len 0 (length G.groups)) → (g : ℕ) × (is_of G unit g ≡ true) × (is_member G c g ≡ true)
      go (k, g, lt, at, holds) = (g, (and_parts (is_of G unit g) (is_member G c g) holds).0, (and_parts (is_of G unit g) (is_member G c g) holds).1)

  -- each command of a group from the first to the last uses the unit
  touch_in : (unit : ℕ) (life : Lifetime) → IsLifetime G unit life → (g : ℕ) → life.first ≤ g → g ≤ life.last → All (λ u. touches G unit u.command ≡ true) (group_at G g)
  touch_in unit life I g from to k d lt =
      let within = I.within in
      let own : is_of G unit g ≡ true = has_use (group_at G g) unit k d lt (I.own g from to k d lt) in
      of_range (λ h. is_of G unit h && is_member G (get_or (group_at G g) k d).command h) (length G.groups) g (omega (arith, to, within)) (and_from (is_of G unit g) (is_member G (get_or (group_at G g) k d).command g) own (has_by (group_at G g) k d lt))

  around : {a b c d : ℕ} → (a ≡ b) ⊎ Path (leads G) a b → Path (leads G) b c → (c ≡ d) ⊎ Path (leads G) c d → Path (leads G) a d
  around {d = d} (inl e) p (inl f) = subst (λ x. Path (leads G) x d) (sym e) (subst (Path (leads G) _) f p)
  around {d = d} (inl e) p (inr q) = subst (λ x. Path (leads G) x d) (sym e) (then_on p q)
  around (inr o) p (inl f) = then_on o (subst (Path (leads G) _) f p)
  around (inr o) p (inr q) = then_on o (then_on p q)

  -- the test of uses tells of commands
  reached : (reaches : ℕ → ℕ → Bool) (uses others : List Use) → all_reach reaches uses others ≡ true → (c d : ℕ) → UseBy uses c → UseBy others d → reaches c d ≡ true
  reached reaches uses others e c d U V =
      let row = AllPass-from_list_all (λ (u : Use). list_all (λ (v : Use). reaches u.command v.command) others) uses e U.place U.use_at U.within in
      let cell = AllPass-from_list_all (λ (v : Use). reaches (get_or uses U.place U.use_at).command v.command) others row V.place V.use_at V.within in
      subst (λ x. reaches x d ≡ true) U.by_it (subst (λ y. reaches (get_or uses U.place U.use_at).command y ≡ true) V.by_it cell)

  module _ (L : IsGrouped G) (reaches : ℕ → ℕ → Bool) (paths : (c d : ℕ) → (reaches c d ≡ true) ↔ Path (leads G) c d) where
    decides : (unit other : ℕ) (life later : Lifetime) → IsLifetime G unit life → IsLifetime G other later → (all_reach reaches (group_at G life.last) (group_at G later.first) ≡ true) ↔ IsBefore G unit other
    decides unit other life later I J = (there, back)
      where
        there : all_reach reaches (group_at G life.last) (group_at G later.first) ≡ true → IsBefore G unit other
        there e c d of-unit of-other =
            let x = touch_at unit c of-unit in
            let y = touch_at other d of-other in
            let x-in = I.all x.0 x.1 in
            let y-in = J.all y.0 y.1 in
            let x-low = x-in.0 in
            let x-high = x-in.1 in
            let y-low = y-in.0 in
            let y-high = y-in.1 in
            let back-to : later.first + (y.0 - later.first) ≡ y.0 = omega (arith, y-low) in
            let p = to_last G L unit life I (life.last - x.0) x.0 c x-low (omega (arith, x-high)) x.2 in
            let q = from_first G L other later J (y.0 - later.first) d (omega (arith, y-low, y-high)) (subst (λ h. is_member G d h ≡ true) (sym back-to) y.2) in
            let both = reached reaches (group_at G life.last) (group_at G later.first) e p.0 q.0 (use_by (group_at G life.last) p.0 p.1) (use_by (group_at G later.first) q.0 q.1) in
            around p.2 ((paths p.0 q.0).0 both) q.2

        back : IsBefore G unit other → all_reach reaches (group_at G life.last) (group_at G later.first) ≡ true
        back before =
            let order = I.order in
            let order-2 = J.order in
            list_all-from_AllPass (λ (u : Use). list_all (λ (v : Use). reaches u.command v.command) (group_at G later.first)) (group_at G life.last) (λ k d lt.
            list_all-from_AllPass (λ (v : Use). reaches (get_or (group_at G life.last) k d).command v.command) (group_at G later.first) (λ m e lt-2.
            (paths (get_or (group_at G life.last) k d).command (get_or (group_at G later.first) m e).command).1
            (before (get_or (group_at G life.last) k d).command (get_or (group_at G later.first) m e).command (touch_in unit life I life.last order (omega arith) k d lt) (touch_in other later J later.first (omega arith) order-2 m e lt-2))))

    pub order_for : (units : ℕ) (lifetimes : List Lifetime) → AreLifetimes G units lifetimes → (a b : ℕ) → a < units → b < units → (has : Bool) → has ≡ is_before reaches G lifetimes a b → (has ≡ true) ↔ IsBefore G (unit_at G a) (unit_at G b)
    order_for units lifetimes A a b lt-a lt-b has told =
        let exact = decides (unit_at G a) (unit_at G b) (lifetime_at lifetimes a) (lifetime_at lifetimes b) (A.each a (record { first = 0; last = 0 }) lt-a) (A.each b (record { first = 0; last = 0 }) lt-b) in
        (λ e. exact.0 (sym told ∙ e), λ before. told ∙ exact.1 before)
