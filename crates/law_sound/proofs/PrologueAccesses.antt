-- The accesses of prologues by the kind of the prologue.
use Rattle.std.proofs.Common.{◌≡◌, ⊎_elim, ℕ, zero, suc, ◌<◌, ◌≤◌, ◌&&◌, Bool, true, false, List, [], length, get_or, slice_get, if◌then◌else◌, Some, refl, sym, ap, ◌∙◌, subst}
use Rattle.std.specs.List.{All, list_any}
use Rattle.std.specs.Prelude.{is_some}
use Rattle.std.proofs.lemmas.Bool.{and_from, and_parts, cases_lt, false≢true, lt-ltb, ltb-true}
use Rattle.std.proofs.lemmas.List.Folds.{list_any_at, Any-from_list_any}
use Rattle.std.proofs.lemmas.Option.{slice_get-get_or, slice_get_within, get_or_from_slice_get}
use Rattle.base.proofs.Lists.{entry_of}
use Rattle.law_sound.proofs.ExportGroups.{read_parts}
use Rattle.law_sound.proofs.Served.{copied_stands}
use Rattle.law_sound.proofs.Setting.{IsSet}
use Rattle.law_sound.proofs.Spots.{prologue_access, prologue_is, prologue_late, prologue_stands, has_prologue_is, has_prologue_late}
use Rattle.law_sound.specs.Nodes.{copied_node, copy_of, nodes_of, prologue_node, prologue_queue}
use Rattle.law_sound.specs.Plan.{export_at, is_of_unit, plan_of}
use Rattle.law_plan.specs.Nodes.{Nodes}
use Rattle.law_plan.specs.Plans.{Plan}
use Rattle.law_plan.specs.Spots.{OfPrologue}
use Rattle.compile_groups.specs.Needs.{group_at, goes_on}
use Rattle.compile_groups.specs.Placed.{is_import}
use Rattle.compile_groups.specs.declared.grouping.Grouping.{Grouping}
use Rattle.compile_groups.specs.declared.unit_use.Use.{Use}
use Rattle.compile_record.specs.Standing.{IsRecorded, prologue_item}
use Rattle.compile_record.specs.Wanted.{is_there}
use Rattle.compile_record.specs.declared.mark.Mark.TheVariants as marks
use Rattle.program.specs.Rules.{shapes_of}
use Rattle.program.specs.declared.program.Program.{Program}
use Rattle.compile_barriers.specs.Prologues.{earlier, first, first_kind, has_uses, next_kind, prologue_of}
use Rattle.compile_barriers.specs.Under.{Heap, place_of, uses_under}
use Rattle.compile_barriers.specs.declared.prologue.PrologueKind.{PrologueKind}
use Rattle.compile_barriers.specs.declared.prologue.PrologueKind.TheVariants as kinds
use Rattle.check_access.proofs.Endings.{nothing_there}
use Rattle.check_access.specs.Effects.{item_effect}
use Rattle.check_access.specs.ValidView.{Has}
use Rattle.check_access.specs.Views.{View, accesses_of, view_of}
use Rattle.check_access.specs.declared.access.Access.{Access}
use Rattle.check_access.specs.declared.access.AccessKind.{AccessKind}

-- WHICH KINDS STAND BETWEEN TWO GROUPS OF A UNIT

abbrev pub is_next : PrologueKind → Bool
is_next kinds.Barrier = true
is_next kinds.Transfer = true
is_next kind = false

first_no_next : (reused image : Bool) → is_next (first_kind reused image) ≡ false
first_no_next false false = refl
first_no_next false true = refl
first_no_next true false = refl
first_no_next true true = refl

-- group h comes after group g of its unit
pub record IsAfter (G : Grouping) (g h : ℕ) : Type 0 where
  pub number : h ≡ suc g
  pub goes : goes_on G g ≡ true

module _ (G : Grouping) (heap : Heap) where
  some_earlier : (h : ℕ) → is_next (prologue_of G heap h).kind ≡ true → has_uses (earlier G h) ≡ true
  some_earlier h e = go (has_uses (earlier G h)) (is_import G (first (group_at G h)).unit) e
    where
      B : List Use
      B = group_at G h

      go : (some im : Bool) → is_next (if some then next_kind G (earlier G h) B else if im then kinds.Nothing else first_kind (has_uses (uses_under G heap (place_of G (first B).unit))) (is_some (first B).layout)) ≡ true → some ≡ true
      go true im f = refl
      go false true f = absurd (false≢true f)
      go false false f = absurd (false≢true (sym (first_no_next (has_uses (uses_under G heap (place_of G (first B).unit))) (is_some (first B).layout)) ∙ f))

  after_earlier : (h : ℕ) → has_uses (earlier G h) ≡ true → (g : ℕ) × IsAfter G g h
  after_earlier zero e = absurd (false≢true e)
  after_earlier (suc g) e = (g, record { number = refl; goes = go (goes_on G g) e })
    where
      go : (b : Bool) → has_uses (if b then group_at G g else []) ≡ true → b ≡ true
      go true f = refl
      go false f = absurd (false≢true f)

  pub next_after : (h : ℕ) → is_next (prologue_of G heap h).kind ≡ true → (g : ℕ) × IsAfter G g h
  next_after h e = after_earlier h (some_earlier h e)

  -- it is told by the two groups
  pub next_kind_is : (h : ℕ) → is_next (prologue_of G heap h).kind ≡ true → (prologue_of G heap h).kind ≡ next_kind G (earlier G h) (group_at G h)
  next_kind_is h e = ap (λ b. if b then next_kind G (earlier G h) (group_at G h) else if is_import G (first (group_at G h)).unit then kinds.Nothing else first_kind (has_uses (uses_under G heap (place_of G (first (group_at G h)).unit))) (is_some (first (group_at G h)).layout)) (some_earlier h e)

-- AN ACCESS OF A TURN

module _ (G : Grouping) (heap : Heap) (P : Program) (S : IsSet G heap P) where
  abbrev F : Plan
  F = plan_of G heap

  abbrev V : View
  V = view_of P

  abbrev N : Nodes
  N = nodes_of G heap

  pub record IsOfPrologue (h : ℕ) (a : Access) : Type 0 where
    pub recorded : IsRecorded G heap (marks.Prologue h)
    pub has : Has V (prologue_node G heap h) a

  pub prologue_low : (h : ℕ) (a : Access) → OfPrologue F V N h a → IsOfPrologue h a
  prologue_low h a O = ⊎_elim
      (λ lt. record { recorded = (lt, sym (has_prologue_is G heap P S h lt) ∙ O.has_prologue); has = subst (λ n. Has V n a) (prologue_is G heap P S h lt) O.has })
      (λ le. absurd (none le (subst (λ n. Has V n a) (prologue_late G heap P S h le) O.has)))
      (cases_lt h (length G.groups))
    where
      none : length G.groups ≤ h → Has V (copied_node G heap (export_at G h)) a → ⊥
      none le (i, e) =
          let X = read_parts G h (sym (has_prologue_late G heap P S h le) ∙ O.has_prologue) in
          let C = S.copied.each (export_at G h) X.known in
          nothing_there i a (sym (ap (λ x. slice_get x.accesses i) (copied_stands G heap P S (export_at G h) (copy_of G (export_at G h)) C).effect) ∙ e)

  -- what holds of all accesses of its item
  pub prologue_all : (Q : Access → Type 0) (h : ℕ) (a : Access) → OfPrologue F V N h a → All Q (item_effect (shapes_of P) (prologue_queue G h) (prologue_item G heap h)).accesses → Q a
  prologue_all Q h a O all =
      let T = prologue_low h a O in
      let has = T.has in
      entry_of Q (item_effect (shapes_of P) (prologue_queue G h) (prologue_item G heap h)).accesses has.0 a all
      (sym (ap (λ x. slice_get x.accesses has.0) (prologue_stands G heap P S h T.recorded).effect) ∙ has.1)

-- WHICH TURNS DO SOMETHING

-- the prologue of group g has an access of such a kind
abbrev pub prologue_does : (G : Grouping) (heap : Heap) (P : Program) → (AccessKind → Bool) → ℕ → Bool
prologue_does G heap P p g = is_of_unit G g && (is_there (prologue_of G heap g).kind && list_any (λ a. p a.kind) (accesses_of (view_of P) (prologue_node G heap g)))

module _ (G : Grouping) (heap : Heap) (P : Program) (S : IsSet G heap P) (p : AccessKind → Bool) where
  pub does_there : (g : ℕ) → prologue_does G heap P p g ≡ true → (a : Access) × OfPrologue (plan_of G heap) (view_of P) (nodes_of G heap) g a × (p a.kind ≡ true)
  does_there g e = go (Any-from_list_any (λ (a : Access). p a.kind) (accesses_of (view_of P) (prologue_node G heap g)) inner.1)
    where
      outer : (is_of_unit G g ≡ true) × ((is_there (prologue_of G heap g).kind && list_any (λ a. p a.kind) (accesses_of (view_of P) (prologue_node G heap g))) ≡ true)
      outer = and_parts (is_of_unit G g) (is_there (prologue_of G heap g).kind && list_any (λ a. p a.kind) (accesses_of (view_of P) (prologue_node G heap g))) e

      inner : (is_there (prologue_of G heap g).kind ≡ true) × (list_any (λ a. p a.kind) (accesses_of (view_of P) (prologue_node G heap g)) ≡ true)
      inner = and_parts (is_there (prologue_of G heap g).kind) (list_any (λ a. p a.kind) (accesses_of (view_of P) (prologue_node G heap g))) outer.1

      go : (k : ℕ) × (a : Access) × (k < length (accesses_of (view_of P) (prologue_node G heap g))) × (get_or (accesses_of (view_of P) (prologue_node G heap g)) k a ≡ a) × (p a.kind ≡ true) → (a : Access) × OfPrologue (plan_of G heap) (view_of P) (nodes_of G heap) g a × (p a.kind ≡ true)
      go (k, a, lt, at, has) =
          (a, prologue_access G heap P S g (ltb-true g (length G.groups) outer.0, inner.0) a (k, slice_get-get_or (accesses_of (view_of P) (prologue_node G heap g)) k a lt ∙ ap (λ x. Some x) at), has)

  pub does_known : (g : ℕ) (a : Access) → OfPrologue (plan_of G heap) (view_of P) (nodes_of G heap) g a → p a.kind ≡ true → prologue_does G heap P p g ≡ true
  does_known g a O k =
      let T = prologue_low G heap P S g a O in
      let list : List Access = accesses_of (view_of P) (prologue_node G heap g) in
      let has = T.has in
      and_from (is_of_unit G g) (is_there (prologue_of G heap g).kind && list_any (λ x. p x.kind) list) (lt-ltb g (length G.groups) T.recorded.0)
      (and_from (is_there (prologue_of G heap g).kind) (list_any (λ x. p x.kind) list) T.recorded.1
      (list_any_at (λ (x : Access). p x.kind) list has.0 a (slice_get_within list has.0 a has.1) (ap (λ (x : Access). p x.kind) (get_or_from_slice_get list has.0 a a has.1) ∙ k)))

  -- by its item
  pub does_item : (g : ℕ) → IsRecorded G heap (marks.Prologue g) → prologue_does G heap P p g ≡ list_any (λ a. p a.kind) (item_effect (shapes_of P) (prologue_queue G g) (prologue_item G heap g)).accesses
  does_item g r =
      let list : List Access = accesses_of (view_of P) (prologue_node G heap g) in
      ap (λ b. b && (is_there (prologue_of G heap g).kind && list_any (λ a. p a.kind) list)) (lt-ltb g (length G.groups) r.0)
      ∙ ap (λ b. b && list_any (λ a. p a.kind) list) r.1
      ∙ ap (λ x. list_any (λ a. p a.kind) x.accesses) (prologue_stands G heap P S g r).effect
