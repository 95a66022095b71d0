-- Needs go forward, from commands to later ones.
use Rattle.std.proofs.Common.{◌≡◌, inl, inr, ℕ, suc, ◌<◌, ◌≤◌, ◌+◌, ◌==◌, List, [], length, get_or, true, sym, ap, subst, ◌∙◌, arith, ⊎_elim, eqb-true, add-one}
use Rattle.std.specs.List.{All}
use Rattle.std.proofs.lemmas.Bool.{cases_lt}
use Rattle.std.proofs.lemmas.List.{get_or_past}
use Rattle.std.proofs.lemmas.List.Folds.{Any-from_list_any}
use Rattle.std.proofs.lemmas.Option.{slice_get_within}
use Rattle.compile_groups.specs.Laws.{Before, OfOne, IsSourced, IsGrouped}
use Rattle.compile_groups.specs.Needs.{group_at, has_unit, one_unit, goes_on}
use Rattle.compile_groups.specs.declared.grouping.Grouping.{Grouping}
use Rattle.compile_groups.specs.declared.unit_use.Use.{Use}
use Rattle.compile_lifetimes.specs.Internal.Leading.{AreForward}

-- groups of one unit are of the same one
pub same_unit : (uses next : List Use) (one : OfOne uses) (two : OfOne next) → one_unit uses next ≡ true → one.0 ≡ two.0
same_unit uses next one two e =
    let found = Any-from_list_any (λ u. has_unit u.unit next) uses e in
    go found
  where
    go : (k : ℕ) × (u : Use) × (k < length uses) × (get_or uses k u ≡ u) × (has_unit u.unit next ≡ true) → one.0 ≡ two.0
    go (k, u, lt, at, has) = met (Any-from_list_any (λ v. v.unit == u.unit) next has)
      where
        first : u.unit ≡ one.0
        first = subst (λ (w : Use). w.unit ≡ one.0) at (one.1 k u lt)

        met : (m : ℕ) × (v : Use) × (m < length next) × (get_or next m v ≡ v) × ((v.unit == u.unit) ≡ true) → one.0 ≡ two.0
        met (m, v, lt-2, at-2, is) = sym first ∙ sym (eqb-true v.unit u.unit is) ∙ subst (λ (w : Use). w.unit ≡ two.0) at-2 (two.1 m v lt-2)

module _ (G : Grouping) (L : IsGrouped G) where
  pub command_below : (g : ℕ) → g < length G.groups → All (λ u. u.command < length G.commands) (group_at G g)
  command_below g lt k d in-group =
      let S : IsSourced G (get_or (group_at G g) k d) = L.sourced g [] lt k d in-group in
      slice_get_within G.commands (get_or (group_at G g) k d).command S.command S.there

  forward_at : (g : ℕ) → g < length G.groups → goes_on G g ≡ true → AreForward (length G.commands) (group_at G g) (group_at G (suc g))
  forward_at g lt e = ⊎_elim inside past (cases_lt (suc g) (length G.groups))
    where
      inside : suc g < length G.groups → AreForward (length G.commands) (group_at G g) (group_at G (suc g))
      inside below k d lt-k m e-2 lt-m =
          (earlier (L.groups_rise g (suc g) (omega arith) k d lt-k m e-2 lt-m), command_below (suc g) below m e-2 lt-m)
        where
          one : OfOne (group_at G g)
          one = L.in_order.one g [] lt

          two : OfOne (group_at G (suc g))
          two = L.in_order.one (suc g) [] below

          earlier : Before (get_or (group_at G g) k d) (get_or (group_at G (suc g)) m e-2) → (get_or (group_at G g) k d).command < (get_or (group_at G (suc g)) m e-2).command
          earlier (inl less) =
              let same = same_unit (group_at G g) (group_at G (suc g)) one two e in
              let first = one.1 k d lt-k in
              let second = two.1 m e-2 lt-m in
              absurd (omega (arith, less, same, first, second))
          earlier (inr both) = both.1

      past : length G.groups ≤ suc g → AreForward (length G.commands) (group_at G g) (group_at G (suc g))
      past above k d lt-k m e-2 lt-m =
          let none : length (group_at G (suc g)) ≡ 0 = ap length (get_or_past G.groups (suc g) [] above) in
          absurd (omega (arith, none, lt-m))

  pub forward_for : (g : ℕ) (uses next : List Use) (count : ℕ) → g < length G.groups → uses ≡ group_at G g → next ≡ group_at G (g + 1) → count ≡ length G.commands → one_unit uses next ≡ true → AreForward count uses next
  forward_for g uses next count lt is following counts e =
      let after : next ≡ group_at G (suc g) = following ∙ ap (group_at G) (add-one g) in
      let goes : goes_on G g ≡ true = ap (λ l. one_unit l (group_at G (suc g))) (sym is) ∙ ap (one_unit uses) (sym after) ∙ e in
      subst (λ k. AreForward k uses next) (sym counts) (subst (λ l. AreForward (length G.commands) l next) (sym is) (subst (λ l. AreForward (length G.commands) (group_at G g) l) (sym after) (forward_at g lt goes)))
