-- The groups that a command uses stand in the order of its operands.
use Rattle.std.proofs.Common.{◌≡◌, ⊎_elim, ℕ, suc, ◌+◌, ◌<◌, ◌≤◌, ◌==◌, Bool, true, false, List, [], ◌∷◌, ◌++◌, length, map, get_or, if◌then◌else◌, Some, refl, sym, ap, ◌∙◌, subst, eq-eqb, arith}
use Rattle.std.specs.List.{All, AllPairs, Contains, filter}
use Rattle.std.specs.Option.{option_map}
use Rattle.std.specs.Prelude.{slice_get}
use Rattle.std.proofs.lemmas.Bool.{cases_lt}
use Rattle.std.proofs.lemmas.List.Elements.{All-nil, All-cons, All-append, All-weaker, All-map}
use Rattle.std.proofs.lemmas.List.Kept.{AllPairs-cons, AllPairs-filter}
use Rattle.std.proofs.lemmas.Option.{slice_get-map, slice_get_within, get_or_from_slice_get}
use Rattle.base.specs.declared.shape.Shape.{Shape}
use Rattle.base.specs.declared.touch.Touch.{Touch}
use Rattle.compile_groups.proofs.InOrder.{late}
use Rattle.compile_groups.proofs.Lists.{pairs_nil, pairs_append, pairs_few}
use Rattle.compile_groups.specs.Laws.{IsSourced, IsGrouped}
use Rattle.compile_groups.specs.Needs.{group_of, uses_in, uses_at, use_at}
use Rattle.compile_groups.specs.Uses.{no_use, is_first_named, use_of, uses_from, command_uses, uses_of}
use Rattle.compile_groups.specs.declared.command.Command.{Command}
use Rattle.compile_groups.specs.declared.grouping.Grouping.{Grouping}
use Rattle.compile_groups.specs.declared.unit_use.Use.{Use}
use Rattle.compile_groups.specs.declared.unit_use.UseAt.{UseAt}
use Rattle.compile_record.proofs.Contained.{contains_entry, entry_contained, contains_filter, contains_map}
use Rattle.compile_record.proofs.Distinct.{used_once}
use Rattle.compile_record.proofs.Membership.{IsMember, among_uses, source}
use Rattle.compile_record.specs.Script.{groups_used}

-- USES OF ONE COMMAND

abbrev Sooner : Use → Use → Type 0
Sooner u v = u.operand < v.operand

abbrev SoonerOfOne : Use → Use → Type 0
SoonerOfOne u v = u.command ≡ v.command → u.operand < v.operand

named_all : (P : Use → Type 0) (b : Bool) (u : Use) → P u → All P (if b then u ∷ [] else [])
named_all P true u h = All-cons P u [] h (All-nil P)
named_all P false u h = All-nil P

module _ (shapes : List Shape) (units c q : ℕ) where
  from_operand : (k : ℕ) (named : List ℕ) (touches : List Touch) → All (λ (u : Use). k ≤ u.operand) (uses_from shapes units c q k named touches)
  from_operand k named [] = All-nil (λ (u : Use). k ≤ u.operand)
  from_operand k named (touch ∷ touches) =
      let rest : List Use = uses_from shapes units c q (suc k) (named ++ touch.what ∷ []) touches in
      All-append (λ (u : Use). k ≤ u.operand) (if is_first_named units named touch.what then use_of shapes c q k touch ∷ [] else []) (uses_from shapes units c q (suc k) (named ++ touch.what ∷ []) touches)
      (named_all (λ (u : Use). k ≤ u.operand) (is_first_named units named touch.what) (use_of shapes c q k touch) (omega arith))
      (All-weaker (λ (u : Use). suc k ≤ u.operand) (λ (u : Use). k ≤ u.operand) (λ u h. omega (arith, h)) (uses_from shapes units c q (suc k) (named ++ touch.what ∷ []) touches) (from_operand (suc k) (named ++ touch.what ∷ []) touches))

  operands_rise : (k : ℕ) (named : List ℕ) (touches : List Touch) → AllPairs Sooner (uses_from shapes units c q k named touches)
  operands_rise k named [] = pairs_nil Sooner
  operands_rise k named (touch ∷ touches) =
      pairs_append Sooner (if is_first_named units named touch.what then use_of shapes c q k touch ∷ [] else []) (uses_from shapes units c q (suc k) (named ++ touch.what ∷ []) touches)
      (pairs_few Sooner (is_first_named units named touch.what) (use_of shapes c q k touch))
      (operands_rise (suc k) (named ++ touch.what ∷ []) touches)
      (named_all (λ u. All (Sooner u) (uses_from shapes units c q (suc k) (named ++ touch.what ∷ []) touches)) (is_first_named units named touch.what) (use_of shapes c q k touch)
      (All-weaker (λ (v : Use). suc k ≤ v.operand) (Sooner (use_of shapes c q k touch)) (λ v h. omega (arith, h)) (uses_from shapes units c q (suc k) (named ++ touch.what ∷ []) touches) (from_operand (suc k) (named ++ touch.what ∷ []) touches)))

  of_command : (k : ℕ) (named : List ℕ) (touches : List Touch) → All (λ (u : Use). u.command ≡ c) (uses_from shapes units c q k named touches)
  of_command k named [] = All-nil (λ (u : Use). u.command ≡ c)
  of_command k named (touch ∷ touches) =
      All-append (λ (u : Use). u.command ≡ c) (if is_first_named units named touch.what then use_of shapes c q k touch ∷ [] else []) (uses_from shapes units c q (suc k) (named ++ touch.what ∷ []) touches)
      (named_all (λ (u : Use). u.command ≡ c) (is_first_named units named touch.what) (use_of shapes c q k touch) refl)
      (of_command (suc k) (named ++ touch.what ∷ []) touches)

uses_rise : (shapes : List Shape) (units c : ℕ) (commands : List Command) → AllPairs SoonerOfOne (uses_of shapes units c commands)
uses_rise shapes units c [] = pairs_nil SoonerOfOne
uses_rise shapes units c (command ∷ commands) =
    pairs_append SoonerOfOne (command_uses shapes units c command) (uses_of shapes units (suc c) commands)
    (λ i j d lt within same. operands_rise shapes units c command.queue 0 [] _ i j d lt within)
    (uses_rise shapes units (suc c) commands)
    (All-weaker (λ (u : Use). u.command ≡ c) (λ u. All (SoonerOfOne u) (uses_of shapes units (suc c) commands)) (λ u e. All-weaker (λ (v : Use). suc c ≤ v.command) (SoonerOfOne u) (λ v le same. absurd (omega (arith, e, le, same))) (uses_of shapes units (suc c) commands) (late shapes units (suc c) commands)) (command_uses shapes units c command) (of_command shapes units c command.queue 0 [] _))

-- WITH THEIR GROUPS

abbrev SoonerAt : UseAt → UseAt → Type 0
SoonerAt a b = a.command ≡ b.command → a.operand < b.operand

rise_at : (groups : List (List Use)) (uses : List Use) → AllPairs SoonerOfOne uses → AllPairs SoonerAt (map (use_at groups) uses)
rise_at groups [] h = pairs_nil SoonerAt
rise_at groups (u ∷ uses) h =
    AllPairs-cons SoonerAt (use_at groups u) (map (use_at groups) uses)
    (All-map (SoonerAt (use_at groups u)) (use_at groups) uses (λ k d lt. h 0 (suc k) d (omega arith) (omega (arith, lt))))
    (rise_at groups uses (λ i j d lt within. h (suc i) (suc j) d (omega (arith, lt)) (omega (arith, within))))

module _ (G : Grouping) (L : IsGrouped G) where
  abbrev own : ℕ → List UseAt
  own c = filter (λ (u : UseAt). u.command == c) (uses_at G)

  own_rise : (c : ℕ) → AllPairs SoonerAt (own c)
  own_rise c = AllPairs-filter SoonerAt (λ (u : UseAt). u.command == c) (uses_at G) (rise_at G.groups (uses_in G) (uses_rise G.shapes (length G.sharings) 0 G.commands))

  among : (g : ℕ) (u : Use) → IsMember G g u → Contains (uses_in G) u
  among g u M =
      let S : IsSourced G u = source G L g u M in
      let n : 0 + u.command ≡ u.command = omega arith in
      among_uses G.shapes (length G.sharings) 0 G.commands u.command S.command u S.there (subst (λ k. Contains (command_uses G.shapes (length G.sharings) k S.command) u) (sym n) (contains_entry (command_uses G.shapes (length G.sharings) u.command S.command) S.entry u S.is))

  -- the entry of a member
  entry_is : (c j g : ℕ) (u : Use) → slice_get (groups_used G c) j ≡ Some g → IsMember G g u → u.command ≡ c → slice_get (own c) j ≡ Some (use_at G.groups u)
  entry_is c j g u at M is = subst (λ k. slice_get (own c) k ≡ Some (use_at G.groups u)) same there
    where
      has : Contains (own c) (use_at G.groups u)
      has = contains_filter (λ (x : UseAt). x.command == c) (uses_at G) (use_at G.groups u) (contains_map (use_at G.groups) (uses_in G) u (among g u M)) (eq-eqb u.command c is)

      there : slice_get (own c) has.0 ≡ Some (use_at G.groups u)
      there = entry_contained (own c) (use_at G.groups u) has

      number : group_of G u.command u.unit ≡ g
      number = subst (λ (w : Use). group_of G w.command w.unit ≡ g) M.is (L.numbered g M.group M.entry no_use M.low)

      same : has.0 ≡ j
      same = used_once G L c has.0 j g (slice_get-map (λ (x : UseAt). x.group) (own c) has.0 ∙ ap (option_map (λ (x : UseAt). x.group)) there ∙ ap (λ n. Some n) number) at

  -- by operands
  pub by_operands : (c i j g h : ℕ) (u v : Use) → slice_get (groups_used G c) i ≡ Some g → slice_get (groups_used G c) j ≡ Some h → IsMember G g u → IsMember G h v → u.command ≡ c → v.command ≡ c → i < j → u.operand < v.operand
  by_operands c i j g h u v at there M N one two lt =
      let a = entry_is c i g u at M one in
      let b = entry_is c j h v there N two in
      let p : get_or (own c) i (use_at G.groups u) ≡ use_at G.groups u = get_or_from_slice_get (own c) i (use_at G.groups u) (use_at G.groups u) a in
      let r : get_or (own c) j (use_at G.groups u) ≡ use_at G.groups v = get_or_from_slice_get (own c) j (use_at G.groups v) (use_at G.groups u) b in
      subst (λ (x : UseAt). SoonerAt x (use_at G.groups v)) p (subst (λ (x : UseAt). SoonerAt (get_or (own c) i (use_at G.groups u)) x) r (own_rise c i j (use_at G.groups u) lt (slice_get_within (own c) j (use_at G.groups v) b))) (one ∙ sym two)

  pub operand_order : (c i j g h : ℕ) (u v : Use) → slice_get (groups_used G c) i ≡ Some g → slice_get (groups_used G c) j ≡ Some h → IsMember G g u → IsMember G h v → u.command ≡ c → v.command ≡ c → u.operand < v.operand → i < j
  operand_order c i j g h u v at there M N one two lt = ⊎_elim (λ l. l) (λ ge. absurd (⊎_elim (λ l. let back = by_operands c j i h g v u there at N M two one l in omega (arith, back, lt)) (λ le. let same : i ≡ j = omega (arith, ge, le) in let e = same_operand same in omega (arith, e, lt)) (cases_lt j i))) (cases_lt i j)
    where
      same_operand : i ≡ j → u.operand ≡ v.operand
      same_operand same =
          let both : Some (use_at G.groups u) ≡ Some (use_at G.groups v) = sym (entry_is c i g u at M one) ∙ ap (slice_get (own c)) same ∙ entry_is c j h v there N two in
          let alike : use_at G.groups u ≡ use_at G.groups v = cc in
          ap (λ (x : UseAt). x.operand) alike

  pub operand_same : (c i j g h : ℕ) (u v : Use) → slice_get (groups_used G c) i ≡ Some g → slice_get (groups_used G c) j ≡ Some h → IsMember G g u → IsMember G h v → u.command ≡ c → v.command ≡ c → u.operand ≡ v.operand → i ≡ j
  operand_same c i j g h u v at there M N one two same =
      ⊎_elim (λ l. absurd (let less = by_operands c i j g h u v at there M N one two l in omega (arith, less, same)))
      (λ ge. ⊎_elim (λ l. absurd (let less = by_operands c j i h g v u there at N M two one l in omega (arith, less, same))) (λ le. omega (arith, ge, le)) (cases_lt j i))
      (cases_lt i j)
