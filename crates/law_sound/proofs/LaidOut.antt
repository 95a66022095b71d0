-- The layout of each group, and the prologues that set one.
use Rattle.std.proofs.Common.{◌≡◌, ℕ, zero, suc, ◌<◌, ◌==◌, ◌||◌, Bool, true, false, List, [], ◌∷◌, ◌++◌, length, if◌then◌else◌, Option, Some, None, refl, sym, ap, ap₂, ◌∙◌, subst, eqb-true, arith}
use Rattle.std.specs.List.{All, Contains, list_any}
use Rattle.std.specs.Option.{option_map_or}
use Rattle.std.specs.Prelude.{is_some, unwrap_or}
use Rattle.std.proofs.lemmas.Bool.{false≢true, or_parts}
use Rattle.std.proofs.lemmas.List.{get_or_default}
use Rattle.std.proofs.lemmas.List.Elements.{All-nil, All-append, All-contains, Contains-get_or}
use Rattle.std.proofs.lemmas.List.Folds.{list_any-append}
use Rattle.base.proofs.Absence.{none_some, some_same}
use Rattle.base.proofs.Lists.{one}
use Rattle.base.specs.Shapes.{is_image, shape_at}
use Rattle.base.specs.declared.role.Role.{Role}
use Rattle.base.specs.declared.shape.Shape.{Shape}
use Rattle.base.specs.declared.shape.Shape.TheVariants.{Buffer, Image}
use Rattle.vk.specs.Layouts.{is_undefined, layout_number}
use Rattle.vk.specs.Roles.{layout_wanted}
use Rattle.vk.specs.declared.layout.Layout.{Layout}
use Rattle.vk.specs.declared.layout.Layout.TheVariants.{Undefined, General, ColorAttachment, ShaderReadOnly, TransferSrc, TransferDst}
use Rattle.vk.specs.declared.masks.Masks.{Masks}
use Rattle.law_sound.proofs.Groups.{Member, some_use, sourced, unit_each}
use Rattle.law_sound.proofs.Uses.{sourced_use}
use Rattle.law_sound.specs.Plan.{unit_of}
use Rattle.compile_groups.specs.Laws.{IsGrouped}
use Rattle.compile_groups.specs.Needs.{group_at}
use Rattle.compile_groups.specs.Uses.{no_use}
use Rattle.compile_groups.specs.declared.grouping.Grouping.{Grouping}
use Rattle.compile_groups.specs.declared.unit_use.Use.{Use}
use Rattle.compile_record.specs.Items.{barrier, both, transfer}
use Rattle.compile_record.specs.Pieces.{piece_of}
use Rattle.compile_record.specs.Standing.{item_by}
use Rattle.check_state.specs.PieceStates.{layout_after}
use Rattle.compile_barriers.specs.Masks.{entry_masks}
use Rattle.compile_barriers.specs.Prologues.{first, last}
use Rattle.compile_barriers.specs.declared.prologue.Prologue.{Prologue}
use Rattle.compile_barriers.specs.declared.prologue.PrologueKind.{PrologueKind}
use Rattle.compile_barriers.specs.declared.prologue.PrologueKind.TheVariants as kinds
use Rattle.law_valid.proofs.Uses.{role-layout}
use Rattle.check_access.specs.AccessKinds.{sets_layout, wanted}
use Rattle.check_access.specs.Effects.{access, handover_of, item_effect, layout_change, same_layout, transition_through}
use Rattle.check_access.specs.declared.access.Access.{Access}
use Rattle.check_access.specs.declared.access.AccessKind.TheVariants as access_kinds
use Rattle.law_sound.proofs.PrologueAccesses.{is_next}

-- LAYOUTS

-- the layout of a number
abbrev numbered : ℕ → Layout
numbered n = if n == 1 then General else if n == 2 then ColorAttachment else if n == 5 then ShaderReadOnly else if n == 6 then TransferSrc else if n == 7 then TransferDst else Undefined

number_back : (l : Layout) → numbered (layout_number l) ≡ l
number_back Undefined = refl
number_back General = refl
number_back ColorAttachment = refl
number_back ShaderReadOnly = refl
number_back TransferSrc = refl
number_back TransferDst = refl

one_layout : (a b : Layout) → (layout_number a == layout_number b) ≡ true → a ≡ b
one_layout a b e = sym (number_back a) ∙ ap numbered (eqb-true (layout_number a) (layout_number b) e) ∙ number_back b

-- a layout for an image alone, and a known one
pub record IsKnownFor (shape : Shape) (layout : Option Layout) : Type 0 where
  pub image : is_some layout ≡ is_image shape
  pub known : (l : Layout) → layout ≡ Some l → is_undefined l ≡ false

for_role : (shape : Shape) (role : Role) → IsKnownFor shape (layout_wanted shape role)
for_role (Buffer size) role = record { image = refl; known = λ l e. absurd (none_some e) }
for_role (Image width height texel) role = record { image = refl; known = λ l e. ap is_undefined (sym (some_same e)) ∙ role-layout role }

-- GROUPS

module _ (G : Grouping) (L : IsGrouped G) where
  -- all uses of a group are in one layout
  pub group_layout : (g : ℕ) (u : Use) → g < length G.groups → Contains (group_at G g) u → u.layout ≡ (first (group_at G g)).layout
  group_layout g u lt (zero, l, at) = ap (λ (v : Use). v.layout) (sym at ∙ get_or_default (group_at G g) 0 u no_use l)
  group_layout g u lt (suc i, l, at) =
      let T = (L.joined g [] lt 0 (suc i) u (omega arith) l).layout in
      sym (ap (λ (v : Use). v.layout) (get_or_default (group_at G g) 0 no_use u (some_use G L g lt)) ∙ T ∙ ap (λ (v : Use). v.layout) at)

  -- an image is in a known one
  pub use_known : (g : ℕ) (u : Use) → g < length G.groups → Contains (group_at G g) u → IsKnownFor (shape_at G.shapes (unit_of G g)) u.layout
  use_known g u lt there =
      let M : Member G u.command g = record { one = u; there = there; command = refl } in
      let X = sourced G L u.command g lt M in
      let I = sourced_use G u X in
      let unit : I.touch.what ≡ unit_of G g = sym (ap (λ (v : Use). v.unit) I.is) ∙ All-contains (λ (v : Use). v.unit ≡ unit_of G g) (group_at G g) u (unit_each G L g lt) there in
      subst (λ r. IsKnownFor (shape_at G.shapes r) u.layout) unit (subst (λ l. IsKnownFor (shape_at G.shapes I.touch.what) l) (sym (ap (λ (v : Use). v.layout) I.is)) (for_role (shape_at G.shapes I.touch.what) I.touch.role))

  first_there : (g : ℕ) → g < length G.groups → Contains (group_at G g) (first (group_at G g))
  first_there g lt = Contains-get_or (group_at G g) 0 no_use (some_use G L g lt)

  pub first_known : (g : ℕ) → g < length G.groups → IsKnownFor (shape_at G.shapes (unit_of G g)) (first (group_at G g)).layout
  first_known g lt = use_known g (first (group_at G g)) lt (first_there g lt)

-- WHAT TURNS SET

-- what sets a layout sets that one, if there is one
pub record IsSetting (layout : Option Layout) (a : Access) : Type 0 where
  pub sets : sets_layout a.kind ≡ true → layout_after a.kind ≡ unwrap_or layout Undefined

through_setting : (p : ℕ) (from to : Layout) → All (IsSetting (Some to)) (transition_through p (record { from = from; to = to }))
through_setting p from to = go (is_undefined from || same_layout (record { from = from; to = to }))
  where
    go : (b : Bool) → All (IsSetting (Some to)) (if b then [] else access p (access_kinds.Transition (record { from = from; to = to })) ∷ [])
    go true = All-nil (IsSetting (Some to))
    go false = one (IsSetting (Some to)) (access p (access_kinds.Transition (record { from = from; to = to }))) (record { sets = λ e. refl })

change_setting : (p : ℕ) (from to : Layout) → All (IsSetting (Some to)) (layout_change p (record { from = from; to = to }))
change_setting p from to = go (is_undefined from)
  where
    go : (b : Bool) → All (IsSetting (Some to)) (if b then access p (access_kinds.Discard to) ∷ [] else transition_through p (record { from = from; to = to }))
    go true = one (IsSetting (Some to)) (access p (access_kinds.Discard to)) (record { sets = λ e. refl })
    go false = through_setting p from to

barrier_setting : (shapes : List Shape) (q p : ℕ) (x y : Option Layout) (masks : Masks) → All (IsSetting y) (item_effect shapes q (barrier p (both x y) masks)).accesses
barrier_setting shapes q p (Some from) (Some to) masks = change_setting p from to
barrier_setting shapes q p (Some from) None masks = All-nil (IsSetting None)
barrier_setting shapes q p None y masks = All-nil (IsSetting y)

acquire_setting : (p : ℕ) (x y : Option Layout) (last_one : Access) → sets_layout last_one.kind ≡ false → All (IsSetting y) (option_map_or (transition_through p) (both x y) [] ++ last_one ∷ [])
acquire_setting p x y last_one none = All-append (IsSetting y) (option_map_or (transition_through p) (both x y) []) (last_one ∷ []) (go x y) (one (IsSetting y) last_one (record { sets = λ e. absurd (false≢true (sym none ∙ e)) }))
  where
    go : (x y : Option Layout) → All (IsSetting y) (option_map_or (transition_through p) (both x y) [])
    go (Some from) (Some to) = through_setting p from to
    go (Some from) None = All-nil (IsSetting None)
    go None y = All-nil (IsSetting y)

pub prologue_setting : (shapes : List Shape) (q : ℕ) (kind : PrologueKind) (G : Grouping) (prologue : Prologue) (A B : List Use) → All (IsSetting (first B).layout) (item_effect shapes q (item_by kind G prologue A B)).accesses
prologue_setting shapes q kinds.Nothing G prologue A B = All-nil (IsSetting (first B).layout)
prologue_setting shapes q kinds.Barrier G prologue A B = barrier_setting shapes q (piece_of G (first B).unit) (last A).layout (first B).layout prologue.masks
prologue_setting shapes q kinds.Transfer G prologue A B = acquire_setting (piece_of G (first B).unit) (last A).layout (first B).layout (access (piece_of G (first B).unit) (access_kinds.Acquire (handover_of (transfer G A B prologue.masks)))) refl
prologue_setting shapes q kinds.Alias G prologue A B = All-nil (IsSetting (first B).layout)
prologue_setting shapes q kinds.Init G prologue A B = barrier_setting shapes q (piece_of G (first B).unit) (Some Undefined) (first B).layout (entry_masks B (first B).queue)
prologue_setting shapes q kinds.AliasInit G prologue A B = barrier_setting shapes q (piece_of G (first B).unit) (Some Undefined) (first B).layout (entry_masks B (first B).queue)

-- WHAT TURNS WANT

-- what wants a layout is between two groups, and wants that of the one before
pub record IsWanting (kind : PrologueKind) (layout : Option Layout) (a : Access) : Type 0 where
  pub wants : (l : Layout) → wanted a.kind ≡ Some l → (is_next kind ≡ true) × (layout ≡ Some l)

wants_none : (l : Layout) → None ≡ Some l → ⊥
wants_none l e = cc

module _ (kind : PrologueKind) where
  through_wanting : is_next kind ≡ true → (p : ℕ) (from to : Layout) → All (IsWanting kind (Some from)) (transition_through p (record { from = from; to = to }))
  through_wanting k p from to = go (is_undefined from || same_layout (record { from = from; to = to }))
    where
      go : (b : Bool) → All (IsWanting kind (Some from)) (if b then [] else access p (access_kinds.Transition (record { from = from; to = to })) ∷ [])
      go true = All-nil (IsWanting kind (Some from))
      go false = one (IsWanting kind (Some from)) (access p (access_kinds.Transition (record { from = from; to = to }))) (record { wants = λ l e. (k, e) })

  change_wanting : is_next kind ≡ true → (p : ℕ) (from to : Layout) → All (IsWanting kind (Some from)) (layout_change p (record { from = from; to = to }))
  change_wanting k p from to = go (is_undefined from)
    where
      go : (b : Bool) → All (IsWanting kind (Some from)) (if b then access p (access_kinds.Discard to) ∷ [] else transition_through p (record { from = from; to = to }))
      go true = one (IsWanting kind (Some from)) (access p (access_kinds.Discard to)) (record { wants = λ l e. absurd (wants_none l e) })
      go false = through_wanting k p from to

  barrier_wanting : is_next kind ≡ true → (shapes : List Shape) (q p : ℕ) (x y : Option Layout) (masks : Masks) → All (IsWanting kind x) (item_effect shapes q (barrier p (both x y) masks)).accesses
  barrier_wanting k shapes q p (Some from) (Some to) masks = change_wanting k p from to
  barrier_wanting k shapes q p (Some from) None masks = All-nil (IsWanting kind (Some from))
  barrier_wanting k shapes q p None y masks = All-nil (IsWanting kind None)

  init_wanting : (shapes : List Shape) (q p : ℕ) (x y : Option Layout) (masks : Masks) → All (IsWanting kind x) (item_effect shapes q (barrier p (both (Some Undefined) y) masks)).accesses
  init_wanting shapes q p x (Some to) masks = one (IsWanting kind x) (access p (access_kinds.Discard to)) (record { wants = λ l e. absurd (wants_none l e) })
  init_wanting shapes q p x None masks = All-nil (IsWanting kind x)

  acquire_wanting : is_next kind ≡ true → (p : ℕ) (x y : Option Layout) (last_one : Access) → wanted last_one.kind ≡ None → All (IsWanting kind x) (option_map_or (transition_through p) (both x y) [] ++ last_one ∷ [])
  acquire_wanting k p x y last_one none = All-append (IsWanting kind x) (option_map_or (transition_through p) (both x y) []) (last_one ∷ []) (go x y) (one (IsWanting kind x) last_one (record { wants = λ l e. absurd (wants_none l (sym none ∙ e)) }))
    where
      go : (x y : Option Layout) → All (IsWanting kind x) (option_map_or (transition_through p) (both x y) [])
      go (Some from) (Some to) = through_wanting k p from to
      go (Some from) None = All-nil (IsWanting kind (Some from))
      go None y = All-nil (IsWanting kind None)

pub prologue_wanting : (shapes : List Shape) (q : ℕ) (kind : PrologueKind) (G : Grouping) (prologue : Prologue) (A B : List Use) → All (IsWanting kind (last A).layout) (item_effect shapes q (item_by kind G prologue A B)).accesses
prologue_wanting shapes q kinds.Nothing G prologue A B = All-nil (IsWanting kinds.Nothing (last A).layout)
prologue_wanting shapes q kinds.Barrier G prologue A B = barrier_wanting kinds.Barrier refl shapes q (piece_of G (first B).unit) (last A).layout (first B).layout prologue.masks
prologue_wanting shapes q kinds.Transfer G prologue A B = acquire_wanting kinds.Transfer refl (piece_of G (first B).unit) (last A).layout (first B).layout (access (piece_of G (first B).unit) (access_kinds.Acquire (handover_of (transfer G A B prologue.masks)))) refl
prologue_wanting shapes q kinds.Alias G prologue A B = All-nil (IsWanting kinds.Alias (last A).layout)
prologue_wanting shapes q kinds.Init G prologue A B = init_wanting kinds.Init shapes q (piece_of G (first B).unit) (last A).layout (first B).layout (entry_masks B (first B).queue)
prologue_wanting shapes q kinds.AliasInit G prologue A B = init_wanting kinds.AliasInit shapes q (piece_of G (first B).unit) (last A).layout (first B).layout (entry_masks B (first B).queue)

-- WHETHER TURNS SET

abbrev pub any_set : List Access → Bool
any_set accesses = list_any (λ a. sets_layout a.kind) accesses

-- where none is set the layout stays
through_kept : (p : ℕ) (from to : Layout) → is_undefined from ≡ false → any_set (transition_through p (record { from = from; to = to })) ≡ false → from ≡ to
through_kept p from to known none = go (layout_number from == layout_number to) refl (ap (λ b. any_set (if b || (layout_number from == layout_number to) then [] else access p (access_kinds.Transition (record { from = from; to = to })) ∷ [])) (sym known) ∙ none)
  where
    go : (b : Bool) → (layout_number from == layout_number to) ≡ b → any_set (if b then [] else access p (access_kinds.Transition (record { from = from; to = to })) ∷ []) ≡ false → from ≡ to
    go true e n = one_layout from to e
    go false e n = absurd (false≢true (sym n))

change_kept : (p : ℕ) (from to : Layout) → is_undefined from ≡ false → any_set (layout_change p (record { from = from; to = to })) ≡ false → from ≡ to
change_kept p from to known none = through_kept p from to known (ap (λ b. any_set (if b then access p (access_kinds.Discard to) ∷ [] else transition_through p (record { from = from; to = to }))) (sym known) ∙ none)

acquire_kept : (p : ℕ) (from to : Layout) (last_one : Access) → is_undefined from ≡ false → any_set (transition_through p (record { from = from; to = to }) ++ last_one ∷ []) ≡ false → from ≡ to
acquire_kept p from to last_one known none = through_kept p from to known (or_parts (any_set (transition_through p (record { from = from; to = to }))) (any_set (last_one ∷ [])) (sym (list_any-append (λ (a : Access). sets_layout a.kind) (transition_through p (record { from = from; to = to })) (last_one ∷ [])) ∙ none)).0

-- between two groups of an image
pub next_kept : (shapes : List Shape) (q : ℕ) (kind : PrologueKind) (G : Grouping) (prologue : Prologue) (A B : List Use) (from to : Layout) → is_next kind ≡ true → (last A).layout ≡ Some from → (first B).layout ≡ Some to → is_undefined from ≡ false → any_set (item_effect shapes q (item_by kind G prologue A B)).accesses ≡ false → from ≡ to
next_kept shapes q kinds.Nothing G prologue A B from to k x y known none = absurd (false≢true k)
next_kept shapes q kinds.Barrier G prologue A B from to k x y known none = change_kept (piece_of G (first B).unit) from to known (sym (ap₂ (λ s t. any_set (item_effect shapes q (barrier (piece_of G (first B).unit) (both s t) prologue.masks)).accesses) x y) ∙ none)
next_kept shapes q kinds.Transfer G prologue A B from to k x y known none =
    let p = piece_of G (first B).unit in
    acquire_kept p from to (access p (access_kinds.Acquire (handover_of (transfer G A B prologue.masks)))) known
    (sym (ap₂ (λ s t. any_set (option_map_or (transition_through p) (both s t) [] ++ access p (access_kinds.Acquire (handover_of (transfer G A B prologue.masks))) ∷ [])) x y) ∙ none)
next_kept shapes q kinds.Alias G prologue A B from to k x y known none = absurd (false≢true k)
next_kept shapes q kinds.Init G prologue A B from to k x y known none = absurd (false≢true k)
next_kept shapes q kinds.AliasInit G prologue A B from to k x y known none = absurd (false≢true k)

abbrev pub is_init : PrologueKind → Bool
is_init kinds.Init = true
is_init kinds.AliasInit = true
is_init kind = false

-- out of UNDEFINED
pub init_sets : (shapes : List Shape) (q : ℕ) (kind : PrologueKind) (G : Grouping) (prologue : Prologue) (A B : List Use) (to : Layout) → is_init kind ≡ true → (first B).layout ≡ Some to → any_set (item_effect shapes q (item_by kind G prologue A B)).accesses ≡ true
init_sets shapes q kinds.Nothing G prologue A B to k y = absurd (false≢true k)
init_sets shapes q kinds.Barrier G prologue A B to k y = absurd (false≢true k)
init_sets shapes q kinds.Transfer G prologue A B to k y = absurd (false≢true k)
init_sets shapes q kinds.Alias G prologue A B to k y = absurd (false≢true k)
init_sets shapes q kinds.Init G prologue A B to k y = ap (λ t. any_set (item_effect shapes q (barrier (piece_of G (first B).unit) (both (Some Undefined) t) (entry_masks B (first B).queue))).accesses) y
init_sets shapes q kinds.AliasInit G prologue A B to k y = ap (λ t. any_set (item_effect shapes q (barrier (piece_of G (first B).unit) (both (Some Undefined) t) (entry_masks B (first B).queue))).accesses) y
