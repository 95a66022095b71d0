-- A command uses a group at most once.
use Rattle.std.proofs.Common.{◌≡◌, ⊎_elim, ℕ, zero, suc, ◌<◌, ◌≤◌, ◌==◌, ◌||◌, not, Bool, true, false, List, [], ◌∷◌, ◌++◌, length, map, get_or, Some, if◌then◌else◌, refl, sym, ap, ◌∙◌, subst, eqb-true, eq-eqb, arith}
use Rattle.std.specs.List.{All, AllPairs, filter, list_any}
use Rattle.std.specs.Prelude.{nat_lt, slice_get}
use Rattle.std.proofs.lemmas.Bool.{and_parts, cases_lt, false≢true, or_parts}
use Rattle.std.proofs.lemmas.List.Elements.{All-nil, All-cons, All-head, All-tail, All-append, All-weaker, All-filter, All-map, filter_passes}
use Rattle.std.proofs.lemmas.List.Folds.{list_any-append}
use Rattle.std.proofs.lemmas.List.Kept.{AllPairs-cons, AllPairs-filter}
use Rattle.std.proofs.lemmas.Option.{get_or_from_slice_get, slice_get_within}
use Rattle.base.specs.declared.shape.Shape.{Shape}
use Rattle.base.specs.declared.touch.Touch.{Touch}
use Rattle.compile_groups.proofs.InOrder.{late}
use Rattle.compile_groups.specs.Laws.{IsFound, IsGrouped}
use Rattle.compile_groups.specs.Needs.{group_of, uses_in, uses_at, use_at}
use Rattle.compile_groups.specs.Uses.{is_first_named, use_of, uses_from, command_uses, uses_of}
use Rattle.compile_groups.specs.declared.command.Command.{Command}
use Rattle.compile_groups.specs.declared.grouping.Grouping.{Grouping}
use Rattle.compile_groups.specs.declared.unit_use.Use.{Use}
use Rattle.compile_groups.specs.declared.unit_use.UseAt.{UseAt}
use Rattle.compile_record.proofs.Entries.{entry_map}
use Rattle.compile_record.proofs.Membership.{IsMember, member_of, unit_of}
use Rattle.compile_record.specs.Script.{groups_used}

-- TWO LISTS

module _ {X : Type 0} (R : X → X → Type 0) where
  pairs_nil : AllPairs R []
  pairs_nil i j d lt within = absurd (omega (arith, within))

  pairs_join : (xs ys : List X) → AllPairs R xs → AllPairs R ys → All (λ x. All (R x) ys) xs → AllPairs R (xs ++ ys)
  pairs_join [] ys h k cross = k
  pairs_join (x ∷ xs) ys h k cross =
      AllPairs-cons R x (xs ++ ys)
      (All-append (R x) xs ys (λ j d lt. h zero (suc j) d (omega arith) (omega (arith, lt))) (All-head (λ y. All (R y) ys) x xs cross))
      (pairs_join xs ys (λ i j d lt within. h (suc i) (suc j) d (omega (arith, lt)) (omega (arith, within))) k (All-tail (λ y. All (R y) ys) x xs cross))

  pairs_one : (b : Bool) (x : X) → AllPairs R (if b then x ∷ [] else [])
  pairs_one true x i j d lt within = absurd (omega (arith, lt, within))
  pairs_one false x i j d lt within = absurd (omega (arith, within))

-- USES OF ONE COMMAND

-- the unit is none of these
abbrev Unnamed : List ℕ → Use → Type 0
Unnamed named u = list_any (λ unit. unit == u.unit) named ≡ false

abbrev Apart : Use → Use → Type 0
Apart u v = u.unit ≡ v.unit → ⊥

abbrev Unlike : Use → Use → Type 0
Unlike u v = u.command ≡ v.command → u.unit ≡ v.unit → ⊥

named_all : (P : Use → Type 0) (b : Bool) (u : Use) → (b ≡ true → P u) → All P (if b then u ∷ [] else [])
named_all P true u h = All-cons P u [] (h refl) (All-nil P)
named_all P false u h = All-nil P

module _ (shapes : List Shape) (units c q : ℕ) where
  unnamed : (k : ℕ) (named : List ℕ) (touches : List Touch) → All (Unnamed named) (uses_from shapes units c q k named touches)
  unnamed k named [] = All-nil (Unnamed named)
  unnamed k named (touch ∷ touches) =
      All-append (Unnamed named) (if is_first_named units named touch.what then use_of shapes c q k touch ∷ [] else []) (uses_from shapes units c q (suc k) (named ++ touch.what ∷ []) touches)
      (named_all (Unnamed named) (is_first_named units named touch.what) (use_of shapes c q k touch) (λ e. none (list_any (λ unit. unit == touch.what) named) (and_parts (nat_lt touch.what units) (not (list_any (λ unit. unit == touch.what) named)) e).1))
      (All-weaker (Unnamed (named ++ touch.what ∷ [])) (Unnamed named) (λ u h. (or_parts (list_any (λ unit. unit == u.unit) named) (list_any (λ unit. unit == u.unit) (touch.what ∷ [])) (sym (list_any-append (λ unit. unit == u.unit) named (touch.what ∷ [])) ∙ h)).0) (uses_from shapes units c q (suc k) (named ++ touch.what ∷ []) touches) (unnamed (suc k) (named ++ touch.what ∷ []) touches))
    where
      none : (b : Bool) → not b ≡ true → b ≡ false
      none true e = absurd (false≢true e)
      none false e = refl

  apart : (k : ℕ) (named : List ℕ) (touches : List Touch) → AllPairs Apart (uses_from shapes units c q k named touches)
  apart k named [] = pairs_nil Apart
  apart k named (touch ∷ touches) =
      pairs_join Apart (if is_first_named units named touch.what then use_of shapes c q k touch ∷ [] else []) rest
      (pairs_one Apart (is_first_named units named touch.what) (use_of shapes c q k touch)) (apart (suc k) (named ++ touch.what ∷ []) touches)
      (named_all (λ u. All (Apart u) rest) (is_first_named units named touch.what) (use_of shapes c q k touch) (λ e. All-weaker (Unnamed (named ++ touch.what ∷ [])) (Apart (use_of shapes c q k touch)) differ rest (unnamed (suc k) (named ++ touch.what ∷ []) touches)))
    where
      rest : List Use
      rest = uses_from shapes units c q (suc k) (named ++ touch.what ∷ []) touches

      differ : (u : Use) → Unnamed (named ++ touch.what ∷ []) u → Apart (use_of shapes c q k touch) u
      differ u h same =
          let last : ((touch.what == u.unit) || false) ≡ false = (or_parts (list_any (λ unit. unit == u.unit) named) (list_any (λ unit. unit == u.unit) (touch.what ∷ [])) (sym (list_any-append (λ unit. unit == u.unit) named (touch.what ∷ [])) ∙ h)).1 in
          false≢true (sym (or_parts (touch.what == u.unit) false last).0 ∙ eq-eqb touch.what u.unit same)

  of_command : (k : ℕ) (named : List ℕ) (touches : List Touch) → All (λ u. u.command ≡ c) (uses_from shapes units c q k named touches)
  of_command k named [] = All-nil (λ u. u.command ≡ c)
  of_command k named (touch ∷ touches) =
      All-append (λ u. u.command ≡ c) (if is_first_named units named touch.what then use_of shapes c q k touch ∷ [] else []) (uses_from shapes units c q (suc k) (named ++ touch.what ∷ []) touches)
      (named_all (λ u. u.command ≡ c) (is_first_named units named touch.what) (use_of shapes c q k touch) (λ e. refl))
      (of_command (suc k) (named ++ touch.what ∷ []) touches)

-- USES OF ALL COMMANDS

unlike : (shapes : List Shape) (units c : ℕ) (commands : List Command) → AllPairs Unlike (uses_of shapes units c commands)
unlike shapes units c [] = pairs_nil Unlike
unlike shapes units c (command ∷ commands) =
    pairs_join Unlike (command_uses shapes units c command) (uses_of shapes units (suc c) commands)
    (λ i j d lt within same. apart shapes units c command.queue 0 [] _ i j d lt within)
    (unlike shapes units (suc c) commands)
    (All-weaker (λ (u : Use). u.command ≡ c) (λ u. All (Unlike u) (uses_of shapes units (suc c) commands)) (λ u e. All-weaker (λ (v : Use). suc c ≤ v.command) (Unlike u) (λ v le same unit. omega (arith, e, le, same)) (uses_of shapes units (suc c) commands) (late shapes units (suc c) commands)) (command_uses shapes units c command) (of_command shapes units c command.queue 0 [] _))

-- GROUPS OF A COMMAND

abbrev UnlikeAt : UseAt → UseAt → Type 0
UnlikeAt a b = a.command ≡ b.command → a.resource ≡ b.resource → ⊥

pairs_at : (groups : List (List Use)) (uses : List Use) → AllPairs Unlike uses → AllPairs UnlikeAt (map (use_at groups) uses)
pairs_at groups [] h = pairs_nil UnlikeAt
pairs_at groups (u ∷ uses) h =
    AllPairs-cons UnlikeAt (use_at groups u) (map (use_at groups) uses)
    (All-map (UnlikeAt (use_at groups u)) (use_at groups) uses (λ k d lt. h 0 (suc k) d (omega arith) (omega (arith, lt))))
    (pairs_at groups uses (λ i j d lt within. h (suc i) (suc j) d (omega (arith, lt)) (omega (arith, within))))

module _ (G : Grouping) (L : IsGrouped G) where
  -- it is of a use that is in its group
  abbrev OfUse : UseAt → Type 0
  OfUse a = (u : Use) × IsFound G u × (use_at G.groups u ≡ a)

  of_uses : All OfUse (uses_at G)
  of_uses = All-map OfUse (use_at G.groups) (uses_in G) (All-weaker (IsFound G) (λ u. OfUse (use_at G.groups u)) (λ u F. (u, F, refl)) (uses_in G) L.found)

  member : (g : ℕ) (a : UseAt) (h : OfUse a) → a.group ≡ g → IsMember G g h.0
  member g a (u, F, e) is = subst (λ n. IsMember G n u) (ap (λ (x : UseAt). x.group) e ∙ is) (member_of G L (group_of G u.command u.unit) F.group u F.member)

  at : {a : UseAt} (h : OfUse a) → use_at G.groups h.0 ≡ a
  at (u, F, e) = e

  same_resource : (g : ℕ) (a b : UseAt) → OfUse a → OfUse b → a.group ≡ g → b.group ≡ g → a.resource ≡ b.resource
  same_resource g a b h k e f =
      let M = member g a h e in
      let N = member g b k f in
      let N' : IsMember G g k.0 = record { group = M.group; entry = N.entry; low = N.low; is = N.is } in
      sym (ap (λ (x : UseAt). x.resource) (at h)) ∙ unit_of G L g h.0 M ∙ sym (unit_of G L g k.0 N') ∙ ap (λ (x : UseAt). x.resource) (at k)

  never : (c i j g : ℕ) → i < j → slice_get (groups_used G c) i ≡ Some g → slice_get (groups_used G c) j ≡ Some g → ⊥
  never c i j g lt e f = go (entry_map (λ (u : UseAt). u.group) own i g e) (entry_map (λ (u : UseAt). u.group) own j g f)
    where
      own : List UseAt
      own = filter (λ u. u.command == c) (uses_at G)

      go : (a : UseAt) × (slice_get own i ≡ Some a) × (a.group ≡ g) → (b : UseAt) × (slice_get own j ≡ Some b) × (b.group ≡ g) → ⊥
      go (a, at, of) (b, there, also) = two (get_or own i a) (get_or own j a) (get_or_from_slice_get own i a a at) (get_or_from_slice_get own j b a there) (pairs i j a lt low)
        where
          pairs : AllPairs UnlikeAt own
          pairs = AllPairs-filter UnlikeAt (λ u. u.command == c) (uses_at G) (pairs_at G.groups (uses_in G) (unlike G.shapes (length G.sharings) 0 G.commands))

          low : j < length own
          low = slice_get_within own j b there

          uses : All OfUse own
          uses = All-filter (λ u. u.command == c) OfUse (uses_at G) of_uses

          command-of : (k : ℕ) (u : UseAt) → slice_get own k ≡ Some u → u.command ≡ c
          command-of k u h = eqb-true u.command c (subst (λ (x : UseAt). (x.command == c) ≡ true) (get_or_from_slice_get own k u u h) (filter_passes (λ (x : UseAt). x.command == c) (uses_at G) k u (slice_get_within own k u h)))

          use-of : (k : ℕ) (u : UseAt) → slice_get own k ≡ Some u → OfUse u
          use-of k u h = subst OfUse (get_or_from_slice_get own k u u h) (uses k u (slice_get_within own k u h))

          two : (x y : UseAt) → x ≡ a → y ≡ b → UnlikeAt x y → ⊥
          two x y p q h =
              h (ap (λ (z : UseAt). z.command) p ∙ command-of i a at ∙ sym (ap (λ (z : UseAt). z.command) q ∙ command-of j b there))
              (ap (λ (z : UseAt). z.resource) p ∙ same_resource g a b (use-of i a at) (use-of j b there) of also ∙ sym (ap (λ (z : UseAt). z.resource) q))

  pub used_once : (c i j g : ℕ) → slice_get (groups_used G c) i ≡ Some g → slice_get (groups_used G c) j ≡ Some g → i ≡ j
  used_once c i j g e f = ⊎_elim (λ lt. absurd (never c i j g lt e f)) (λ le. ⊎_elim (λ lt. absurd (never c j i g lt f e)) (λ ge. omega (arith, le, ge)) (cases_lt j i)) (cases_lt i j)
