-- Needs by pairs of groups that stand side by side.
use Rattle.std.proofs.Common.{◌≡◌, ℕ, zero, suc, ◌+◌, ◌<◌, ◌==◌, ◌&&◌, ◌||◌, Bool, true, false, List, [], ◌∷◌, length, map, get_or, refl, sym, ap, ap₂, subst, ◌∙◌, arith, eqb-true, eq-eqb, add-one}
use Rattle.std.specs.List.{All, Any, list_any, range_with_len}
use Rattle.std.proofs.lemmas.Bool.{and_from, and_parts}
use Rattle.std.proofs.lemmas.List.Elements.{All-head, All-tail}
use Rattle.std.proofs.lemmas.List.Folds.{Any-from_list_any, list_any_at}
use Rattle.std.specs.Cmp.{both_ways}
use Rattle.base.proofs.Lists.{any_mapped}
use Rattle.compile_groups.specs.Laws.{OfOne}
use Rattle.compile_groups.specs.Needs.{has_command, has_unit, needs, one_unit}
use Rattle.compile_groups.specs.declared.grouping.Grouping.{Grouping}
use Rattle.compile_groups.specs.declared.unit_use.Use.{Use}

-- the uses are of one unit, and by these commands
abbrev pub meets : ℕ → ℕ → Use → Use → Bool
meets c d u v = u.unit == v.unit && (u.command == c && v.command == d)

abbrev pub linked : ℕ → ℕ → List Use → List Use → Bool
linked c d A B = list_any (λ u. list_any (meets c d u) B) A

-- of two of these groups that stand side by side
abbrev pub linked_in : ℕ → ℕ → List (List Use) → Bool
linked_in c d [] = false
linked_in c d (A ∷ []) = false
linked_in c d (A ∷ (B ∷ groups)) = linked c d A B || linked_in c d (B ∷ groups)

-- ONE PAIR OF GROUPS

-- an element that passes
pub record Passes {X : Type 0} (test : X → Bool) (xs : List X) : Type 0 where
  pub place : ℕ
  pub it : X
  pub within : place < length xs
  pub is : get_or xs place it ≡ it
  pub passes : test it ≡ true

pub passes_in : {X : Type 0} (test : X → Bool) (xs : List X) → list_any test xs ≡ true → Passes test xs
passes_in test xs e = go (Any-from_list_any test xs e)
  where
    go : Any (λ x. test x ≡ true) xs → Passes test xs
    go (k, x, lt, at, is) = record { place = k; it = x; within = lt; is = at; passes = is }

pub any_by : {X : Type 0} (test more : X → Bool) (xs : List X) (P : Passes test xs) → more P.it ≡ true → list_any more xs ≡ true
any_by test more xs P holds = list_any_at more xs P.place P.it P.within (subst (λ x. more x ≡ true) (sym P.is) holds)

abbrev side_by_side : ℕ → ℕ → List Use → List Use → Bool
side_by_side c d A B = one_unit A B && (has_command c A && has_command d B)

of_it : (A : List Use) (one : OfOne A) (test : Use → Bool) (P : Passes test A) → P.it.unit ≡ one.0
of_it A one test P = subst (λ (u : Use). u.unit ≡ one.0) P.is (one.1 P.place P.it P.within)

module _ (c d : ℕ) (A B : List Use) (first : OfOne A) (second : OfOne B) where
  to_pair : side_by_side c d A B ≡ true → linked c d A B ≡ true
  to_pair e =
      let parts = and_parts (one_unit A B) (has_command c A && has_command d B) e in
      let by = and_parts (has_command c A) (has_command d B) parts.1 in
      let u = passes_in (λ w. has_unit w.unit B) A parts.0 in
      let v = passes_in (λ w. w.unit == u.it.unit) B u.passes in
      let x = passes_in (λ w. w.command == c) A by.0 in
      let y = passes_in (λ w. w.command == d) B by.1 in
      let same : x.it.unit ≡ y.it.unit =
      of_it A first (λ w. w.command == c) x ∙ sym (of_it A first (λ w. has_unit w.unit B) u)
      ∙ sym (eqb-true v.it.unit u.it.unit v.passes)
      ∙ of_it B second (λ w. w.unit == u.it.unit) v ∙ sym (of_it B second (λ w. w.command == d) y) in
      let meet : meets c d x.it y.it ≡ true = and_from (x.it.unit == y.it.unit) (x.it.command == c && y.it.command == d) (eq-eqb x.it.unit y.it.unit same) (and_from (x.it.command == c) (y.it.command == d) x.passes y.passes) in
      any_by (λ w. w.command == c) (λ w. list_any (meets c d w) B) A x (any_by (λ w. w.command == d) (meets c d x.it) B y meet)

  from_pair : linked c d A B ≡ true → side_by_side c d A B ≡ true
  from_pair e =
      let u = passes_in (λ w. list_any (meets c d w) B) A e in
      let v = passes_in (meets c d u.it) B u.passes in
      let parts = and_parts (u.it.unit == v.it.unit) (u.it.command == c && v.it.command == d) v.passes in
      let by = and_parts (u.it.command == c) (v.it.command == d) parts.1 in
      let turned : (v.it.unit == u.it.unit) ≡ true = eq-eqb v.it.unit u.it.unit (sym (eqb-true u.it.unit v.it.unit parts.0)) in
      and_from (one_unit A B) (has_command c A && has_command d B)
      (any_by (λ w. list_any (meets c d w) B) (λ w. has_unit w.unit B) A u (any_by (meets c d u.it) (λ w. w.unit == u.it.unit) B v turned))
      (and_from (has_command c A) (has_command d B) (any_by (λ w. list_any (meets c d w) B) (λ w. w.command == c) A u by.0) (any_by (meets c d u.it) (λ w. w.command == d) B v by.1))

  one_pair : side_by_side c d A B ≡ linked c d A B
  one_pair = both_ways (side_by_side c d A B) (linked c d A B) to_pair from_pair

-- ALL PAIRS

pub any_shifted : (p : ℕ → Bool) (a n : ℕ) → list_any p (range_with_len (a + 1) n) ≡ list_any (λ g. p (g + 1)) (range_with_len a n)
any_shifted p a zero = refl
any_shifted p a (suc n) = ap (λ b. p (a + 1) || b) (any_shifted p (a + 1) n)

any_same : {X : Type 0} (p q : X → Bool) (xs : List X) → ((x : X) → p x ≡ q x) → list_any p xs ≡ list_any q xs
any_same p q [] same = refl
any_same p q (x ∷ xs) same = ap₂ (λ a b. a || b) (same x) (any_same p q xs same)

none_after : (c d : ℕ) (A : List Use) → linked c d A [] ≡ false
none_after c d [] = refl
none_after c d (u ∷ A) = none_after c d A

abbrev at_pair : ℕ → ℕ → List (List Use) → ℕ → Bool
at_pair c d groups g = side_by_side c d (get_or groups g []) (get_or groups (suc g) [])

nothing : OfOne []
nothing = (0, λ k e lt. absurd (omega arith))

all_pairs : (c d : ℕ) (groups : List (List Use)) → All OfOne groups → list_any (at_pair c d groups) (range_with_len 0 (length groups)) ≡ linked_in c d groups
all_pairs c d [] one = refl
all_pairs c d (A ∷ []) one = ap (λ b. b || false) (one_pair c d A [] (All-head OfOne A [] one) nothing ∙ none_after c d A)
all_pairs c d (A ∷ (B ∷ groups)) one =
    let rest = All-tail OfOne A (B ∷ groups) one in
    ap₂ (λ a b. a || b) (one_pair c d A B (All-head OfOne A (B ∷ groups) one) (All-head OfOne B groups rest))
    (any_shifted (at_pair c d (A ∷ (B ∷ groups))) 0 (length (B ∷ groups)) ∙ any_same (λ g. at_pair c d (A ∷ (B ∷ groups)) (g + 1)) (at_pair c d (B ∷ groups)) (range_with_len 0 (length (B ∷ groups))) (λ g. ap (at_pair c d (A ∷ (B ∷ groups))) (add-one g)) ∙ all_pairs c d (B ∷ groups) rest)

pub needs_are : (G : Grouping) (c d : ℕ) → All OfOne G.groups → needs G c d ≡ linked_in c d G.groups
needs_are G c d one = all_pairs c d G.groups one

-- QUEUES ARE NOT LOOKED AT

module _ (f : Use → Use) (units : (u : Use) → (f u).unit ≡ u.unit) (commands : (u : Use) → (f u).command ≡ u.command) (c d : ℕ) where
  same_meets : (u v : Use) → meets c d (f u) (f v) ≡ meets c d u v
  same_meets u v = ap₂ (λ a b. a && b) (ap₂ (λ a b. a == b) (units u) (units v)) (ap₂ (λ a b. a == c && b == d) (commands u) (commands v))

  same_linked : (A B : List Use) → linked c d (map f A) (map f B) ≡ linked c d A B
  same_linked A B =
      any_mapped (λ u. list_any (meets c d u) (map f B)) f A
      ∙ any_same (λ u. list_any (meets c d (f u)) (map f B)) (λ u. list_any (meets c d u) B) A (λ u. any_mapped (meets c d (f u)) f B ∙ any_same (λ v. meets c d (f u) (f v)) (meets c d u) B (same_meets u))

  pub same_linked_in : (groups : List (List Use)) → linked_in c d (map (map f) groups) ≡ linked_in c d groups
  same_linked_in [] = refl
  same_linked_in (A ∷ []) = refl
  same_linked_in (A ∷ (B ∷ groups)) = ap₂ (λ a b. a || b) (same_linked A B) (same_linked_in (B ∷ groups))
