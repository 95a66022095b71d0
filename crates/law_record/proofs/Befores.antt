-- What stands before each group, and with which item.
use Rattle.std.proofs.Common.{◌≡◌, ◌⊎◌, inl, inr, ⊎_elim, ℕ, zero, suc, ◌-◌, ◌<◌, Bool, true, false, List, [], ◌∷◌, length, Option, Some, None, if◌then◌else◌, refl, sym, ap, ap₂, ◌∙◌, arith}
use Rattle.std.specs.Prelude.{slice_get, slice_index_or, is_some}
use Rattle.std.proofs.lemmas.Bool.{cases_Bool, cases_lt, and_from, and_parts, false≢true}
use Rattle.std.proofs.lemmas.List.{get_or_past}
use Rattle.base.specs.declared.op.Op.TheVariants.{CopyBuffer}
use Rattle.vk.specs.declared.layout.Layout.{Layout}
use Rattle.vk.specs.declared.layout.Layout.TheVariants.{Undefined}
use Rattle.vk.specs.declared.layout.Layouts.{Layouts}
use Rattle.vk.specs.declared.masks.Masks.{Masks}
use Rattle.compile_barriers.specs.Masks.{release_masks}
use Rattle.compile_barriers.specs.Prologues.{first, last, has_uses, earlier, next_kind, first_kind, kind_of, masks_of, is_transfer, prologue_between, prologue_of}
use Rattle.compile_barriers.specs.Under.{Heap}
use Rattle.compile_barriers.specs.declared.prologue.PrologueKind.{PrologueKind}
use Rattle.compile_barriers.specs.declared.prologue.PrologueKind.TheVariants as kinds
use Rattle.compile_groups.specs.Laws.{IsGrouped}
use Rattle.compile_groups.specs.Needs.{one_unit, group_at, goes_on}
use Rattle.compile_groups.specs.Placed.{is_import}
use Rattle.compile_groups.specs.declared.command.Command.{Command}
use Rattle.compile_groups.specs.declared.grouping.Grouping.{Grouping}
use Rattle.compile_groups.specs.declared.unit_use.Use.{Use}
use Rattle.compile_record.specs.Items.{both, barrier, transfer, init}
use Rattle.compile_record.specs.Pieces.{piece_of}
use Rattle.compile_record.specs.Script.{is_released, script}
use Rattle.compile_record.specs.Standing.{item_by, prologue_item, host_step, step, IsStanding}
use Rattle.compile_record.specs.Wanted.{is_there}
use Rattle.compile_record.specs.declared.mark.Mark.{Mark}
use Rattle.compile_record.specs.declared.mark.Mark.TheVariants as marks
use Rattle.compile_record.specs.declared.mark.Marked.TheVariants.{Does}
use Rattle.law_record.specs.Reasons.{Reason, Runs, Turn, Release, Acquire, Alias, Discard, Shows, stays, IsFirstPlaced, same_bytes, IsWanted, queue_for}
use Rattle.law_record.specs.Table.{turn_masks, leave_masks, enter_masks, pair, on_piece, hand_over, item_for}
use Rattle.program.specs.declared.program.Item.{Item}
use Rattle.program.specs.declared.program.Item.TheVariants as item

-- LAYOUTS

both_pair : (x y : Option Layout) → both x y ≡ pair x y
both_pair (Some from) (Some to) = refl
both_pair (Some from) None = refl
both_pair None (Some to) = refl
both_pair None None = refl

same_barrier : (piece : ℕ) (layouts : Option Layouts) (masks : Masks) → barrier piece layouts masks ≡ on_piece piece layouts masks
same_barrier piece (Some layouts) masks = refl
same_barrier piece None masks = refl

with_layouts : (piece : ℕ) (x y : Option Layout) (masks : Masks) → barrier piece (both x y) masks ≡ on_piece piece (pair x y) masks
with_layouts piece x y masks = same_barrier piece (both x y) masks ∙ ap (λ l. on_piece piece l masks) (both_pair x y)

pub has_some : (A : List Use) → 0 < length A → has_uses A ≡ true
has_some [] lt = absurd (omega (arith, lt))
has_some (u ∷ A) lt = refl

pub some_has : (A : List Use) → has_uses A ≡ true → 0 < length A
some_has [] e = absurd (false≢true e)
some_has (u ∷ A) e = omega arith

no_unit : (A : List Use) → one_unit A [] ≡ false
no_unit [] = refl
no_unit (u ∷ A) = no_unit A

chosen_false : {X : Type 0} (b : Bool) (x y : X) → b ≡ false → (if b then x else y) ≡ y
chosen_false b x y e = ap (λ c. if c then x else y) e

-- a command that is there
pub no_command : Command
no_command = record { queue = 0; op = CopyBuffer 0 0 0 0 0; export = None }

abbrev pub command_at : Grouping → ℕ → Command
command_at G c = slice_index_or G.commands c no_command

module _ (G : Grouping) (heap : Heap) (L : IsGrouped G) where
  -- GROUPS ONE AFTER ANOTHER

  pub next_low : (h : ℕ) → goes_on G h ≡ true → suc h < length G.groups
  next_low h goes = ⊎_elim (λ lt. lt) (λ ge. absurd (false≢true (sym (ap (λ B. one_unit (group_at G h) B) (get_or_past G.groups (suc h) [] ge) ∙ no_unit (group_at G h)) ∙ goes))) (cases_lt (suc h) (length G.groups))

  pub some_use : (g : ℕ) → g < length G.groups → 0 < length (group_at G g)
  some_use g lt = L.in_order.some g [] lt

  pub before_is : (h : ℕ) → goes_on G h ≡ true → earlier G (suc h) ≡ group_at G h
  before_is h goes = ap (λ b. if b then group_at G h else []) goes

  pub none_is : (g : ℕ) → ((h : ℕ) → suc h ≡ g → goes_on G h ≡ false) → earlier G g ≡ []
  none_is zero none = refl
  none_is (suc h) none = ap (λ b. if b then group_at G h else []) (none h refl)

  -- KINDS

  pub next_kind_is : (h : ℕ) → goes_on G h ≡ true → (prologue_of G heap (suc h)).kind ≡ (if stays G h then kinds.Barrier else kinds.Transfer)
  next_kind_is h goes =
      let low = next_low h goes in
      ap (λ A. kind_of G A (same_bytes G heap (suc h)) (group_at G (suc h))) (before_is h goes)
      ∙ ap (λ b. if b then next_kind G (group_at G h) (group_at G (suc h)) else if is_import G (first (group_at G (suc h))).unit then kinds.Nothing else first_kind (has_uses (same_bytes G heap (suc h))) (is_some (first (group_at G (suc h))).layout)) (has_some (group_at G h) (some_use h (omega (arith, low))))

  pub turn_kind : (h : ℕ) → goes_on G h ≡ true → stays G h ≡ true → (prologue_of G heap (suc h)).kind ≡ kinds.Barrier
  turn_kind h goes stay = next_kind_is h goes ∙ ap (λ b. if b then kinds.Barrier else kinds.Transfer) stay

  pub acquire_kind : (h : ℕ) → goes_on G h ≡ true → stays G h ≡ false → (prologue_of G heap (suc h)).kind ≡ kinds.Transfer
  acquire_kind h goes stay = next_kind_is h goes ∙ ap (λ b. if b then kinds.Barrier else kinds.Transfer) stay

  none_kind_is : (g : ℕ) → ((h : ℕ) → suc h ≡ g → goes_on G h ≡ false) → (prologue_of G heap g).kind ≡ (if is_import G (first (group_at G g)).unit then kinds.Nothing else first_kind (has_uses (same_bytes G heap g)) (is_some (first (group_at G g)).layout))
  none_kind_is g none = ap (λ A. kind_of G A (same_bytes G heap g) (group_at G g)) (none_is g none)

  pub first_kind_is : (g : ℕ) → IsFirstPlaced G g → (prologue_of G heap g).kind ≡ first_kind (has_uses (same_bytes G heap g)) (is_some (first (group_at G g)).layout)
  first_kind_is g F = none_kind_is g F.none_before ∙ chosen_false (is_import G (first (group_at G g)).unit) kinds.Nothing (first_kind (has_uses (same_bytes G heap g)) (is_some (first (group_at G g)).layout)) F.placed

  -- each group has something before it, or is the first one of an import, or of a placed buffer that has no byte of earlier ones
  pub data KindOf (g : ℕ) : Type 0 where
    after_turn : (h : ℕ) → suc h ≡ g → IsWanted G heap (Turn h) → (prologue_of G heap g).kind ≡ kinds.Barrier → KindOf g
    after_release : (h : ℕ) → suc h ≡ g → IsWanted G heap (Acquire h) → (prologue_of G heap g).kind ≡ kinds.Transfer → KindOf g
    of_import : (prologue_of G heap g).kind ≡ kinds.Nothing → KindOf g
    of_placed : IsFirstPlaced G g → (prologue_of G heap g).kind ≡ first_kind (has_uses (same_bytes G heap g)) (is_some (first (group_at G g)).layout) → KindOf g

  pub kind_at : (g : ℕ) → g < length G.groups → KindOf g
  kind_at zero low = alone zero low (λ h e. absurd (omega (arith, e)))
    where
      alone : (g : ℕ) → g < length G.groups → ((h : ℕ) → suc h ≡ g → goes_on G h ≡ false) → KindOf g
      alone g low none = ⊎_elim
          (λ t. of_import (none_kind_is g none ∙ ap (λ b. if b then kinds.Nothing else first_kind (has_uses (same_bytes G heap g)) (is_some (first (group_at G g)).layout)) t))
          (λ f. let F : IsFirstPlaced G g = record { group = low; none_before = none; placed = f } in of_placed F (first_kind_is g F))
          (cases_Bool (is_import G (first (group_at G g)).unit))
  kind_at (suc k) low = ⊎_elim after (λ f. alone (suc k) low (λ h e. let same : h ≡ k = omega (arith, e) in ap (goes_on G) same ∙ f)) (cases_Bool (goes_on G k))
    where
      alone : (g : ℕ) → g < length G.groups → ((h : ℕ) → suc h ≡ g → goes_on G h ≡ false) → KindOf g
      alone g low none = ⊎_elim
          (λ t. of_import (none_kind_is g none ∙ ap (λ b. if b then kinds.Nothing else first_kind (has_uses (same_bytes G heap g)) (is_some (first (group_at G g)).layout)) t))
          (λ f. let F : IsFirstPlaced G g = record { group = low; none_before = none; placed = f } in of_placed F (first_kind_is g F))
          (cases_Bool (is_import G (first (group_at G g)).unit))

      after : goes_on G k ≡ true → KindOf (suc k)
      after goes = ⊎_elim
          (λ t. after_turn k refl (goes, t) (turn_kind k goes t))
          (λ f. after_release k refl (goes, f) (acquire_kind k goes f))
          (cases_Bool (stays G k))

  -- of an image, of placed units' first groups
  pub alias_kind : (g : ℕ) (image : Bool) → IsWanted G heap (Alias g) → is_some (first (group_at G g)).layout ≡ image → (prologue_of G heap g).kind ≡ first_kind true image
  alias_kind g image (F, some) is = first_kind_is g F ∙ ap₂ (λ r i. first_kind r i) (has_some (same_bytes G heap g) some) is

  pub discard_kind : (g : ℕ) → IsWanted G heap (Discard g) → (prologue_of G heap g).kind ≡ first_kind (has_uses (same_bytes G heap g)) true
  discard_kind g (F, image) = first_kind_is g F ∙ ap (λ i. first_kind (has_uses (same_bytes G heap g)) i) image

  -- ITEMS

  abbrev made : PrologueKind → ℕ → List Use → Item
  made kind g A = item_by kind G (prologue_between kind g A (same_bytes G heap g) (group_at G g)) A (group_at G g)

  made_is : (g : ℕ) → prologue_item G heap g ≡ made (prologue_of G heap g).kind g (earlier G g)
  made_is g = refl

  turn_item : (h : ℕ) → IsWanted G heap (Turn h) → prologue_item G heap (suc h) ≡ item_for G heap (Turn h)
  turn_item h (goes, stay) =
      made_is (suc h) ∙ ap₂ (λ kind A. made kind (suc h) A) (turn_kind h goes stay) (before_is h goes)
      ∙ with_layouts (piece_of G (first (group_at G (suc h))).unit) (last (group_at G h)).layout (first (group_at G (suc h))).layout (turn_masks (group_at G h) (group_at G (suc h)) (first (group_at G (suc h))).queue)

  acquire_item : (h : ℕ) → IsWanted G heap (Acquire h) → prologue_item G heap (suc h) ≡ item_for G heap (Acquire h)
  acquire_item h (goes, stay) =
      made_is (suc h) ∙ ap₂ (λ kind A. made kind (suc h) A) (acquire_kind h goes stay) (before_is h goes)
      ∙ ap item.Acquire (handed (group_at G h) (group_at G (suc h)) (enter_masks (group_at G (suc h)) (first (group_at G (suc h))).queue))
    where
      handed : (A B : List Use) (masks : Masks) → transfer G A B masks ≡ hand_over G A B masks
      handed A B masks = ap (λ l. record { piece = piece_of G (first B).unit; from_family = (transfer G A B masks).from_family; to_family = (transfer G A B masks).to_family; layouts = l; masks = masks }) (both_pair (last A).layout (first B).layout)

  release_is : (g : ℕ) → item.Release (transfer G (group_at G g) (group_at G (suc g)) (release_masks (group_at G g) (last (group_at G g)).queue)) ≡ item_for G heap (Release g)
  release_is g = ap item.Release (handed (group_at G g) (group_at G (suc g)) (leave_masks (group_at G g) (last (group_at G g)).queue))
    where
      handed : (A B : List Use) (masks : Masks) → transfer G A B masks ≡ hand_over G A B masks
      handed A B masks = ap (λ l. record { piece = piece_of G (first B).unit; from_family = (transfer G A B masks).from_family; to_family = (transfer G A B masks).to_family; layouts = l; masks = masks }) (both_pair (last A).layout (first B).layout)

  alias_global : (g : ℕ) (image : Bool) → IsWanted G heap (Alias g) → is_some (first (group_at G g)).layout ≡ image → item.Global (prologue_of G heap g).masks ≡ item_for G heap (Alias g)
  alias_global g image (F, some) is =
      ap₂ (λ kind A. item.Global (masks_of kind A (same_bytes G heap g) (group_at G g) (first (group_at G g)).queue)) (alias_kind g image (F, some) is) (none_is g F.none_before)
      ∙ either image
    where
      either : (b : Bool) → item.Global (masks_of (first_kind true b) [] (same_bytes G heap g) (group_at G g) (first (group_at G g)).queue) ≡ item_for G heap (Alias g)
      either true = refl
      either false = refl

  discard_item : (g : ℕ) → IsWanted G heap (Discard g) → prologue_item G heap g ≡ item_for G heap (Discard g)
  discard_item g (F, image) =
      made_is g ∙ ap₂ (λ kind A. made kind g A) (discard_kind g (F, image)) (none_is g F.none_before)
      ∙ either (has_uses (same_bytes G heap g))
      ∙ with_layouts (piece_of G (first (group_at G g)).unit) (Some Undefined) (first (group_at G g)).layout (enter_masks (group_at G g) (first (group_at G g)).queue)
    where
      either : (b : Bool) → made (first_kind b true) g [] ≡ init G (group_at G g)
      either true = refl
      either false = refl

  there_discard : (g : ℕ) → IsWanted G heap (Discard g) → is_there (prologue_of G heap g).kind ≡ true
  there_discard g w = ap is_there (discard_kind g w) ∙ either (has_uses (same_bytes G heap g))
    where
      either : (b : Bool) → is_there (first_kind b true) ≡ true
      either true = refl
      either false = refl

  -- STEPS

  abbrev pub step_for : Reason → ℕ
  step_for (Runs c command) = step G heap (marks.Command c)
  step_for (Turn g) = step G heap (marks.Prologue (suc g))
  step_for (Release g) = step G heap (marks.Release g)
  step_for (Acquire g) = step G heap (marks.Prologue (suc g))
  step_for (Alias g) = if is_some (first (group_at G g)).layout then step G heap (marks.Prologue g) - 1 else step G heap (marks.Prologue g)
  step_for (Discard g) = step G heap (marks.Prologue g)
  step_for (Shows c command) = host_step G heap c command

  abbrev pub mark_for : Reason → Option Mark
  mark_for (Runs c command) = Some (marks.Command c)
  mark_for (Turn g) = Some (marks.Prologue (suc g))
  mark_for (Release g) = Some (marks.Release g)
  mark_for (Acquire g) = Some (marks.Prologue (suc g))
  mark_for (Alias g) = if is_some (first (group_at G g)).layout then None else Some (marks.Prologue g)
  mark_for (Discard g) = Some (marks.Prologue g)
  mark_for (Shows c command) = None

  pub released_is : (g : ℕ) → IsWanted G heap (Release g) → is_released G heap g ≡ true
  released_is g (goes, stay) = and_from (goes_on G g) (is_transfer (prologue_of G heap (suc g)).kind) goes (ap is_transfer (acquire_kind g goes stay))

  pub release_wanted : (g : ℕ) → is_released G heap g ≡ true → IsWanted G heap (Release g)
  release_wanted g e = go (cases_Bool (stays G g))
    where
      both-are : (goes_on G g ≡ true) × (is_transfer (prologue_of G heap (suc g)).kind ≡ true)
      both-are = and_parts (goes_on G g) (is_transfer (prologue_of G heap (suc g)).kind) e

      go : (stays G g ≡ true) ⊎ (stays G g ≡ false) → IsWanted G heap (Release g)
      go (inl t) = absurd (false≢true (sym (ap is_transfer (turn_kind g both-are.0 t)) ∙ both-are.1))
      go (inr f) = (both-are.0, f)

  module _ (S : IsStanding G heap) where
    abbrev Stands : ℕ → Reason → Type 0
    Stands i x = slice_get (script G heap) i ≡ Some (Does (queue_for G x) (mark_for x) (item_for G heap x))

    some_export : (o : Option ℕ) → is_some o ≡ true → (k : ℕ) × (o ≡ Some k)
    some_export None e = absurd (false≢true e)
    some_export (Some k) e = (k, refl)

    alias_stands : (g : ℕ) → IsWanted G heap (Alias g) → (image : Bool) → is_some (first (group_at G g)).layout ≡ image → slice_get (script G heap) (if image then step G heap (marks.Prologue g) - 1 else step G heap (marks.Prologue g)) ≡ Some (Does (first (group_at G g)).queue (if image then None else Some (marks.Prologue g)) (item_for G heap (Alias g)))
    alias_stands g (F, some) true is =
        let E = S.each_alias g F.group (alias_kind g true (F, some) is) in
        let at = E.1 in
        let number : step G heap (marks.Prologue g) - 1 ≡ E.0 = omega (arith, at) in
        ap (slice_get (script G heap)) number ∙ E.2 ∙ ap (λ it. Some (Does (first (group_at G g)).queue None it)) (alias_global g true (F, some) is)
    alias_stands g (F, some) false is =
        let kind = alias_kind g false (F, some) is in
        S.each_prologue g (F.group, ap is_there kind)
        ∙ ap (λ it. Some (Does (first (group_at G g)).queue (Some (marks.Prologue g)) it)) (made_is g ∙ ap (λ k. item_by k G (prologue_of G heap g) (earlier G g) (group_at G g)) kind ∙ alias_global g false (F, some) is)

    -- each item that is wanted is recorded
    pub stands : (x : Reason) → IsWanted G heap x → slice_get (script G heap) (step_for x) ≡ Some (Does (queue_for G x) (mark_for x) (item_for G heap x))
    stands (Runs c command) w = S.each_command c command w
    stands (Turn g) (goes, stay) = S.each_prologue (suc g) (next_low g goes, ap is_there (turn_kind g goes stay)) ∙ ap (λ it. Some (Does (first (group_at G (suc g))).queue (Some (marks.Prologue (suc g))) it)) (turn_item g (goes, stay))
    stands (Release g) w = S.each_release g ((let l = next_low g w.0 in omega (arith, l)), released_is g w) ∙ ap (λ it. Some (Does (last (group_at G g)).queue (Some (marks.Release g)) it)) (release_is g)
    stands (Acquire g) (goes, stay) = S.each_prologue (suc g) (next_low g goes, ap is_there (acquire_kind g goes stay)) ∙ ap (λ it. Some (Does (first (group_at G (suc g))).queue (Some (marks.Prologue (suc g))) it)) (acquire_item g (goes, stay))
    stands (Alias g) w = alias_stands g w (is_some (first (group_at G g)).layout) refl
    stands (Discard g) w = S.each_prologue g (w.0.group, there_discard g w) ∙ ap (λ it. Some (Does (first (group_at G g)).queue (Some (marks.Prologue g)) it)) (discard_item g w)
    stands (Shows c command) (there, export) = let E = some_export command.export export in S.each_copy c E.0 command there E.1
