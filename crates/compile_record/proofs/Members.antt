-- Members of groups.
use Rattle.std.proofs.Common.{◌≡◌, ℕ, zero, suc, ◌+◌, ◌-◌, ◌<◌, List, [], ◌∷◌, ◌++◌, length, get_or, Some, sym, subst, arith}
use Rattle.std.specs.List.{All}
use Rattle.std.specs.Prelude.{slice_get}
use Rattle.std.proofs.lemmas.List.Elements.{All-nil, All-cons, All-head, All-tail}
use Rattle.base.proofs.Lists.{entry_of}
use Rattle.base.specs.declared.shape.Shape.{Shape}
use Rattle.compile_groups.specs.Laws.{IsGrouped, IsKnown, IsSourced}
use Rattle.compile_groups.specs.Needs.{group_at}
use Rattle.compile_groups.specs.Uses.{no_use, command_uses, uses_of}
use Rattle.compile_groups.specs.declared.command.Command.{Command}
use Rattle.compile_groups.specs.declared.grouping.Grouping.{Grouping}
use Rattle.compile_groups.specs.declared.unit_use.Use.{Use}
use Rattle.compile_barriers.proofs.Members.{some_use}
use Rattle.compile_barriers.specs.Prologues.{first, last}

-- a use of a shape and a queue that there are
pub record IsThere (G : Grouping) (u : Use) : Type 0 where
  pub unit : u.unit < length G.shapes
  pub queue : u.queue < length G.families

module _ (P : Use → Type 0) where
  first_all : (xs ys : List Use) → All P (xs ++ ys) → All P xs
  first_all [] ys all = All-nil P
  first_all (x ∷ xs) ys all = All-cons P x xs (All-head P x (xs ++ ys) all) (first_all xs ys (All-tail P x (xs ++ ys) all))

  last_all : (xs ys : List Use) → All P (xs ++ ys) → All P ys
  last_all [] ys all = all
  last_all (x ∷ xs) ys all = last_all xs ys (All-tail P x (xs ++ ys) all)

  -- what holds of the uses of all commands holds of those of each
  of_command : (shapes : List Shape) (units c : ℕ) (commands : List Command) (i j : ℕ) (command : Command) → All P (uses_of shapes units c commands) → slice_get commands i ≡ Some command → c + i ≡ j → All P (command_uses shapes units j command)
  of_command shapes units c [] i j command all there e = absurd (cc)
  of_command shapes units c (d ∷ commands) zero j command all there e =
      let same : d ≡ command = cc in
      let number : c ≡ j = omega (arith, e) in
      subst (λ n. All P (command_uses shapes units n command)) number (subst (λ k. All P (command_uses shapes units c k)) same (first_all (command_uses shapes units c d) (uses_of shapes units (suc c) commands) all))
  of_command shapes units c (d ∷ commands) (suc i) j command all there e =
      of_command shapes units (suc c) commands i j command (last_all (command_uses shapes units c d) (uses_of shapes units (suc c) commands) all) there (omega (arith, e))

use_there : (G : Grouping) (u : Use) → IsKnown G → IsSourced G u → IsThere G u
use_there G u K S = record {
  unit =
      let below : u.unit < length G.imports = entry_of (λ v. v.unit < length G.imports) (command_uses G.shapes (length G.sharings) u.command S.command) S.entry u (of_command (λ v. v.unit < length G.imports) G.shapes (length G.sharings) 0 G.commands u.command u.command S.command K.units S.there (omega arith)) S.is in
      let le = K.shapes in
      omega (arith, below, le);
  queue = subst (λ q. q < length G.families) (sym S.queue) (entry_of (λ command. command.queue < length G.families) G.commands u.command S.command K.queues S.there);
}

pub members_there : (G : Grouping) (g : ℕ) → IsGrouped G → IsKnown G → g < length G.groups → All (IsThere G) (group_at G g)
members_there G g D K lt = λ k d le. use_there G (get_or (group_at G g) k d) K (D.sourced g [] lt k d le)

first_there : (G : Grouping) (g : ℕ) → IsGrouped G → IsKnown G → g < length G.groups → IsThere G (first (group_at G g))
first_there G g D K lt = members_there G g D K lt 0 no_use (some_use G g D lt)

last_there : (G : Grouping) (g : ℕ) → IsGrouped G → IsKnown G → g < length G.groups → IsThere G (last (group_at G g))
last_there G g D K lt = let some = some_use G g D lt in members_there G g D K lt (length (group_at G g) - 1) no_use (omega (arith, some))

-- OF MEMBERS THAT ARE READ

pub first_unit : (G : Grouping) (g : ℕ) (members : List Use) (u : Use) → members ≡ group_at G g → IsGrouped G → IsKnown G → g < length G.groups → (get_or members 0 u).unit < length G.shapes
first_unit G g members u is D K lt = subst (λ A. (get_or A 0 u).unit < length G.shapes) (sym is) (members_there G g D K lt 0 u (some_use G g D lt)).unit

pub first_queue : (G : Grouping) (g : ℕ) (members : List Use) → members ≡ group_at G g → IsGrouped G → IsKnown G → g < length G.groups → (first members).queue < length G.families
first_queue G g members is D K lt = subst (λ A. (first A).queue < length G.families) (sym is) (first_there G g D K lt).queue

pub last_queue : (G : Grouping) (g : ℕ) (members : List Use) → members ≡ group_at G g → IsGrouped G → IsKnown G → g < length G.groups → (last members).queue < length G.families
last_queue G g members is D K lt = subst (λ A. (last A).queue < length G.families) (sym is) (last_there G g D K lt).queue
