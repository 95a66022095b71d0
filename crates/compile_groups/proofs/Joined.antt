-- Each two uses of a group are reads that go together.
use Rattle.std.proofs.Common.{◌≡◌, ℕ, ◌==◌, ◌&&◌, ◌||◌, not, Bool, true, false, List, [], ◌∷◌, if◌then◌else◌, refl, sym, ap, ◌∙◌, subst, eqb-true, eq-eqb}
use Rattle.std.specs.List.{All, AllPairs, flat_map, range_with_len}
use Rattle.std.specs.Prelude.{Option, Some, None, length, slice_index_or}
use Rattle.std.proofs.lemmas.Bool.{and_parts, not-true}
use Rattle.std.proofs.lemmas.List.Elements.{All-nil, All-cons, All-head, All-tail, All-append, All-weaker}
use Rattle.std.proofs.lemmas.List.Kept.{AllPairs-cons}
use Rattle.base.specs.declared.shape.Family.{Family}
use Rattle.vk.specs.Families.{family_number}
use Rattle.vk.specs.Layouts.{layout_number}
use Rattle.vk.specs.Sharings.{is_shared}
use Rattle.vk.specs.declared.layout.Layout.{Layout}
use Rattle.vk.specs.declared.layout.Layout.TheVariants.{Undefined, General, ColorAttachment, ShaderReadOnly, TransferSrc, TransferDst}
use Rattle.vk.specs.declared.sharing.Sharing.{Sharing}
use Rattle.frame.specs.Numbered.{NumberedFrame}
use Rattle.compile_groups.proofs.InOrder.{of_one_unit}
use Rattle.compile_groups.proofs.Lists.{pairs_nil}
use Rattle.compile_groups.specs.Groups.{before_runs, runs, unit_uses, unit_groups, joins, same_layout, sharing_of, shares, same_family, family_of, all_uses, sharings_in, grouped}
use Rattle.compile_groups.specs.Laws.{AreTogether, AreJoined}
use Rattle.compile_groups.specs.Uses.{is_write}
use Rattle.compile_groups.specs.declared.command.Command.{Command}
use Rattle.compile_groups.specs.declared.unit_use.Use.{Use}

-- EQUAL LAYOUTS

layout_of : ℕ → Layout
layout_of n = if n == 0 then Undefined else if n == 1 then General else if n == 2 then ColorAttachment else if n == 5 then ShaderReadOnly else if n == 6 then TransferSrc else TransferDst

numbered : (layout : Layout) → layout_of (layout_number layout) ≡ layout
unfolding layout_of
numbered Undefined = refl
numbered General = refl
numbered ColorAttachment = refl
numbered ShaderReadOnly = refl
numbered TransferSrc = refl
numbered TransferDst = refl

layouts_same : (a b : Option Layout) → same_layout a b ≡ true → a ≡ b
layouts_same (Some a) (Some b) h = ap Some (sym (numbered a) ∙ ap layout_of (eqb-true (layout_number a) (layout_number b) h) ∙ numbered b)
layouts_same (Some a) None h = absurd cc
layouts_same None (Some b) h = absurd cc
layouts_same None None h = refl

-- NEIGHBOURS

-- each joins the one before it
abbrev Joined : (Use → Use → Bool) → List Use → Type 0
Joined joins [] = Unit {0}
Joined joins (u ∷ []) = Unit {0}
Joined joins (u ∷ v ∷ rest) = (joins u v ≡ true) × Joined joins (v ∷ rest)

before_joined : (joins : Use → Use → Bool) (u : Use) (R : List (List Use)) → All (Joined joins) R → All (Joined joins) (before_runs joins u R)
before_joined joins u [] h = All-cons (Joined joins) (u ∷ []) [] tt (All-nil (Joined joins))
before_joined joins u ([] ∷ runs) h = All-cons (Joined joins) (u ∷ []) ([] ∷ runs) tt h
before_joined joins u ((v ∷ run) ∷ runs) h = go (joins u v) refl
  where
    go : (b : Bool) → joins u v ≡ b → All (Joined joins) (if b then (u ∷ v ∷ run) ∷ runs else (u ∷ []) ∷ (v ∷ run) ∷ runs)
    go true e = All-cons (Joined joins) (u ∷ v ∷ run) runs (e, All-head (Joined joins) (v ∷ run) runs h) (All-tail (Joined joins) (v ∷ run) runs h)
    go false e = All-cons (Joined joins) (u ∷ []) ((v ∷ run) ∷ runs) tt h

runs_joined : (joins : Use → Use → Bool) (uses : List Use) → All (Joined joins) (runs joins uses)
runs_joined joins [] = All-nil (Joined joins)
runs_joined joins (u ∷ uses) = before_joined joins u (runs joins uses) (runs_joined joins uses)

-- ALL OF A GROUP

module _ (families : List Family) (sharings : List Sharing) where
  abbrev Together : Use → Use → Type 0
  Together = AreTogether families sharings

  together : (u v : Use) → joins families sharings u v ≡ true → Together u v
  together u v h =
      let first = and_parts (not (is_write u)) (not (is_write v) && (same_layout u.layout v.layout && shares families sharings u.unit u.queue v.queue)) h in
      let second = and_parts (not (is_write v)) (same_layout u.layout v.layout && shares families sharings u.unit u.queue v.queue) first.1 in
      let last = and_parts (same_layout u.layout v.layout) (shares families sharings u.unit u.queue v.queue) second.1 in
      record {
        first = not-true (is_write u) first.0;
        second = not-true (is_write v) second.0;
        layout = layouts_same u.layout v.layout last.0;
        shared = last.1;
      }

  share_on : (unit p q r : ℕ) → shares families sharings unit p q ≡ true → shares families sharings unit q r ≡ true → shares families sharings unit p r ≡ true
  share_on unit p q r a b = go (is_shared (sharing_of sharings unit)) a b
    where
      go : (s : Bool) → (s || same_family families p q) ≡ true → (s || same_family families q r) ≡ true → (s || same_family families p r) ≡ true
      go true x y = refl
      go false x y = eq-eqb (family_number (family_of families p)) (family_number (family_of families r)) (eqb-true (family_number (family_of families p)) (family_number (family_of families q)) x ∙ eqb-true (family_number (family_of families q)) (family_number (family_of families r)) y)

  then_on : (u v w : Use) → u.unit ≡ v.unit → Together u v → Together v w → Together u w
  then_on u v w e a b = record {
    first = a.first;
    second = b.second;
    layout = a.layout ∙ b.layout;
    shared = share_on u.unit u.queue v.queue w.queue a.shared (subst (λ k. shares families sharings k v.queue w.queue ≡ true) (sym e) b.shared);
  }

  -- the first use goes together with each later one
  from_first : (unit : ℕ) (u : Use) (rest : List Use) → All (λ x. x.unit ≡ unit) (u ∷ rest) → Joined (joins families sharings) (u ∷ rest) → All (Together u) rest
  from_first unit u [] one h = All-nil (Together u)
  from_first unit u (v ∷ rest) one h =
      let here : u.unit ≡ v.unit = All-head (λ x. x.unit ≡ unit) u (v ∷ rest) one ∙ sym (All-head (λ x. x.unit ≡ unit) v rest (All-tail (λ x. x.unit ≡ unit) u (v ∷ rest) one)) in
      All-cons (Together u) v rest (together u v h.0)
      (All-weaker (Together v) (Together u) (λ w k. then_on u v w here (together u v h.0) k) rest (from_first unit v rest (All-tail (λ x. x.unit ≡ unit) u (v ∷ rest) one) h.1))

  each_two : (unit : ℕ) (uses : List Use) → All (λ x. x.unit ≡ unit) uses → Joined (joins families sharings) uses → AllPairs Together uses
  each_two unit [] one h = pairs_nil Together
  each_two unit (u ∷ []) one h = AllPairs-cons Together u [] (All-nil (Together u)) (pairs_nil Together)
  each_two unit (u ∷ v ∷ rest) one h = AllPairs-cons Together u (v ∷ rest) (from_first unit u (v ∷ rest) one h) (each_two unit (v ∷ rest) (All-tail (λ x. x.unit ≡ unit) u (v ∷ rest) one) h.1)

  both_all : (unit : ℕ) (groups : List (List Use)) → All (λ A. All (λ x. x.unit ≡ unit) A) groups → All (Joined (joins families sharings)) groups → All (AllPairs Together) groups
  both_all unit groups one h = λ g d lt. each_two unit (slice_index_or groups g d) (one g d lt) (h g d lt)

  groups_together : (uses : List Use) (ks : List ℕ) → All (AllPairs Together) (flat_map (unit_groups (joins families sharings) uses) ks)
  groups_together uses [] = All-nil (AllPairs Together)
  groups_together uses (k ∷ ks) =
      All-append (AllPairs Together) (unit_groups (joins families sharings) uses k) (flat_map (unit_groups (joins families sharings) uses) ks)
      (both_all k (unit_groups (joins families sharings) uses k) (of_one_unit (joins families sharings) uses k) (runs_joined (joins families sharings) (unit_uses uses k)))
      (groups_together uses ks)

pub joined : (frame : NumberedFrame) (commands : List Command) → AreJoined (grouped frame commands)
joined frame commands = groups_together frame.queues (sharings_in frame) (all_uses frame commands) (range_with_len 0 (length frame.units))
