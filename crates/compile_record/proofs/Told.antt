-- The groups that a command uses.
use Rattle.std.proofs.Common.{◌≡◌, ℕ, zero, suc, ◌<◌, ◌≤◌, ◌==◌, Bool, true, false, List, [], ◌∷◌, ◌++◌, length, map, drop, get_or, Some, if◌then◌else◌, refl, sym, ap, ◌∙◌, eq-eqb, eqb-true, append-nil, arith}
use Rattle.std.specs.List.{All, filter, flat_map}
use Rattle.std.specs.Prelude.{slice_get}
use Rattle.std.proofs.lemmas.List.{drop_all}
use Rattle.std.proofs.lemmas.List.Elements.{All-nil, All-cons, All-head, All-tail, All-contains}
use Rattle.compile_groups.specs.Laws.{IsGrouped, IsFound, IsSourced}
use Rattle.compile_groups.specs.Needs.{group_at, group_of, place_of, uses_in, use_at}
use Rattle.compile_groups.specs.declared.command.Command.{Command}
use Rattle.compile_groups.specs.declared.grouping.Grouping.{Grouping}
use Rattle.compile_groups.specs.declared.unit_use.Use.{Use}
use Rattle.compile_groups.specs.declared.unit_use.UseAt.{UseAt}
use Rattle.compile_record.specs.Internal.PrologueFacts.{IsUsed}
use Rattle.compile_record.specs.Internal.Wants.{group_by}
use Rattle.compile_record.specs.Script.{groups_used}
use Rattle.compile_barriers.specs.Unions.{on}

pub groups_told : (c : ℕ) (uses : List UseAt) → flat_map (group_by c) uses ≡ map (λ u. u.group) (filter (λ u. u.command == c) uses)
groups_told c [] = refl
groups_told c (u ∷ uses) = ap (λ l. group_by c u ++ l) (groups_told c uses) ∙ go (u.command == c)
  where
    go : (b : Bool) → (if b then u.group ∷ [] else []) ++ map (λ v. v.group) (filter (λ v. v.command == c) uses) ≡ map (λ v. v.group) (if b then u ∷ filter (λ v. v.command == c) uses else filter (λ v. v.command == c) uses)
    go true = refl
    go false = refl

pub told_end : (c : ℕ) (uses : List UseAt) (list : List ℕ) (i : ℕ) → length uses ≤ i → list ++ flat_map (group_by c) (drop i uses) ≡ flat_map (group_by c) uses → list ≡ map (λ u. u.group) (filter (λ u. u.command == c) uses)
told_end c uses list i le so_far = sym (append-nil list) ∙ ap (λ l. list ++ flat_map (group_by c) l) (sym (drop_all i uses le)) ∙ so_far ∙ groups_told c uses

-- a use on the queue is among those on it
has_on : (q : ℕ) (A : List Use) (k : ℕ) (u : Use) → k < length A → get_or A k u ≡ u → u.queue ≡ q → 0 < length (on q A)
has_on q [] k u lt is e = absurd (omega (arith, lt))
has_on q (v ∷ A) zero u lt is e = go (v.queue == q) (eq-eqb v.queue q (ap (λ w. w.queue) is ∙ e))
  where
    go : (b : Bool) → b ≡ true → 0 < length (if b then v ∷ on q A else on q A)
    go true t = omega arith
    go false t = absurd (cc)
has_on q (v ∷ A) (suc k) u lt is e = go (v.queue == q) (has_on q A k u (omega (arith, lt)) is e)
  where
    go : (b : Bool) → 0 < length (on q A) → 0 < length (if b then v ∷ on q A else on q A)
    go true rest = omega arith
    go false rest = rest

module _ (P : ℕ → Type 0) (groups : List (List Use)) (c : ℕ) where
  told_all : (uses : List Use) → All (λ u. u.command ≡ c → P (place_of groups u.command u.unit)) uses → All P (map (λ u. u.group) (filter (λ u. u.command == c) (map (use_at groups) uses)))
  told_all [] all = All-nil P
  told_all (u ∷ uses) all = go (u.command == c) refl (told_all uses (All-tail (λ v. v.command ≡ c → P (place_of groups v.command v.unit)) u uses all))
    where
      more : List UseAt
      more = filter (λ v. v.command == c) (map (use_at groups) uses)

      go : (b : Bool) → u.command == c ≡ b → All P (map (λ v. v.group) more) → All P (map (λ v. v.group) (if b then use_at groups u ∷ more else more))
      go true e rest = All-cons P (place_of groups u.command u.unit) (map (λ v. v.group) more) (All-head (λ v. v.command ≡ c → P (place_of groups v.command v.unit)) u uses all (eqb-true u.command c e)) rest
      go false e rest = rest

use_used : (G : Grouping) (c : ℕ) (command : Command) (u : Use) → IsGrouped G → slice_get G.commands c ≡ Some command → IsFound G u → u.command ≡ c → IsUsed G command.queue (group_of G u.command u.unit)
use_used G c command u D there F e =
    let g = group_of G u.command u.unit in
    let source : IsSourced G u = All-contains (IsSourced G) (group_at G g) u (D.sourced g [] F.group) F.member in
    let same : Some source.command ≡ Some command = sym source.there ∙ ap (slice_get G.commands) e ∙ there in
    let own : source.command ≡ command = cc in
    record {
      group = F.group;
      here = has_on command.queue (group_at G g) F.member.0 u F.member.1 F.member.2 (source.queue ∙ ap (λ x. x.queue) own);
    }

pub all_used : (G : Grouping) (c : ℕ) (command : Command) → IsGrouped G → slice_get G.commands c ≡ Some command → All (IsUsed G command.queue) (groups_used G c)
all_used G c command D there = told_all (IsUsed G command.queue) G.groups c (uses_in G) (λ k d lt e. use_used G c command (get_or (uses_in G) k d) D there (D.found k d lt) e)

pub all_there : (G : Grouping) (q : ℕ) (list : List ℕ) → All (IsUsed G q) list → All (λ g. g < length G.groups) list
all_there G q list all = λ k d lt. (all k d lt).group
