-- The masks round groups name stages of roles.
use Rattle.std.proofs.Common.{◌≡◌, ◌⊎◌, ⊎_elim, inl, ℕ, zero, suc, ◌-◌, ◌<◌, ◌≤◌, ◌==◌, ◌++◌, not, Bool, true, false, List, [], ◌∷◌, length, get_or, if◌then◌else◌, Option, Some, None, refl, sym, ap, ◌∙◌, subst, bit_and, bit_or, eq-eqb, eqb-true, arith}
use Rattle.std.specs.List.{All, Contains}
use Rattle.std.specs.Prelude.{is_some}
use Rattle.std.proofs.lemmas.Bool.{cases_lt, false≢true}
use Rattle.std.proofs.lemmas.List.{get_or_past}
use Rattle.std.proofs.lemmas.List.Elements.{All-nil, All-append}
use Rattle.std.proofs.lemmas.List.Folds.{list_any_at}
use Rattle.std.proofs.lemmas.Nat.{and_assoc, and_or_self, or_comm}
use Rattle.std.specs.Int.Bits.{or_self}
use Rattle.base.proofs.Lists.{each_of, entry_of, one}
use Rattle.base.specs.declared.role.Role.{Role}
use Rattle.base.specs.declared.shape.Shape.{Shape}
use Rattle.base.specs.declared.touch.Touch.{Touch}
use Rattle.base.specs.Touches.{touches_of}
use Rattle.vk.specs.Roles.{role_stage}
use Rattle.vk.specs.Sets.{has, union_from, union_over}
use Rattle.vk.specs.Stages.{host}
use Rattle.vk.specs.declared.layout.Layout.TheVariants.{Undefined}
use Rattle.vk.specs.declared.layout.Layouts.{Layouts}
use Rattle.vk.specs.declared.masks.Masks.{Masks}
use Rattle.law_sound.proofs.Contained.{contains_at, contains_on}
use Rattle.law_schedule.specs.Opens.{HasRole}
use Rattle.compile_groups.specs.Groups.{shares}
use Rattle.compile_groups.specs.Laws.{IsGrouped, IsSourced}
use Rattle.compile_groups.specs.Needs.{group_at, goes_on, is_of}
use Rattle.compile_groups.specs.Placed.{is_import, unit_at}
use Rattle.compile_groups.specs.Uses.{no_use, command_uses, is_first_named, use_of, uses_from}
use Rattle.compile_groups.specs.declared.grouping.Grouping.{Grouping}
use Rattle.compile_groups.specs.declared.unit_use.Use.{Use}
use Rattle.compile_record.specs.Items.{barrier, both, init, layouts_between}
use Rattle.compile_record.specs.Pieces.{piece_of}
use Rattle.compile_record.specs.Standing.{item_by, prologue_item}
use Rattle.compile_record.specs.Wanted.{is_there}
use Rattle.program.specs.Barriers.{masks_of}
use Rattle.program.specs.declared.program.Item.{Item}
use Rattle.program.specs.declared.program.Item.TheVariants as item
use Rattle.compile_barriers.specs.Masks.{barrier_masks, entry_masks}
use Rattle.compile_barriers.specs.Prologues.{earlier, first, first_kind, has_uses, last, prologue_between, prologue_of}
use Rattle.compile_barriers.specs.Under.{Heap, last_below, last_uses, place_of, under, uses_under}
use Rattle.compile_barriers.specs.Unions.{is_elsewhere, on, stages_on}
use Rattle.compile_barriers.specs.declared.prologue.PrologueKind.{PrologueKind}
use Rattle.compile_barriers.specs.declared.prologue.PrologueKind.TheVariants.{Nothing, Barrier, Transfer}
use Rattle.law_valid.proofs.Prologues.{some_from}

-- SETS

has_first : (a b s : ℕ) → has a s ≡ true → has (bit_or a b) s ≡ true
has_first a b s h = eq-eqb (bit_and (bit_or a b) s) s same
  where
    own : bit_and a s ≡ s
    own = eqb-true (bit_and a s) s h

    whole : bit_and (bit_or a b) a ≡ a
    whole = ap (λ z. bit_and z a) (or_comm a b) ∙ and_or_self a b

    same : bit_and (bit_or a b) s ≡ s
    same = ap (λ z. bit_and (bit_or a b) z) (sym own) ∙ sym (and_assoc s (bit_or a b) a) ∙ ap (λ z. bit_and z s) whole ∙ own

has_second : (a b s : ℕ) → has b s ≡ true → has (bit_or a b) s ≡ true
has_second a b s h = ap (λ z. has z s) (or_comm a b) ∙ has_first b a s h

pub has_own : (s : ℕ) → has s s ≡ true
has_own s = eq-eqb (bit_and s s) s (ap (λ z. bit_and z s) (sym (or_self s)) ∙ and_or_self s s)

from_kept : {Row : Type 0} (gives : Row → ℕ) (s : ℕ) (rows : List Row) (set : ℕ) → has set s ≡ true → has (union_from set gives rows) s ≡ true
from_kept gives s [] set h = h
from_kept gives s (row ∷ rows) set h = from_kept gives s rows (bit_or set (gives row)) (has_first set (gives row) s h)

-- a union has what each row gives
over_has : {Row : Type 0} (gives : Row → ℕ) (rows : List Row) (row : Row) → Contains rows row → has (union_over gives rows) (gives row) ≡ true
over_has {Row} gives rows row h = go rows 0 h.0 h.1 h.2
  where
    go : (list : List Row) (set k : ℕ) → k < length list → get_or list k row ≡ row → has (union_from set gives list) (gives row) ≡ true
    go [] set k lt e = absurd (omega (arith, lt))
    go (x ∷ list) set zero lt e = from_kept gives (gives row) list (bit_or set (gives x)) (has_second set (gives x) (gives row) (ap (λ z. has (gives z) (gives row)) e ∙ has_own (gives row)))
    go (x ∷ list) set (suc k) lt e = go list (bit_or set (gives x)) k (omega (arith, lt)) e

role_first : (a b : ℕ) → HasRole a → HasRole (bit_or a b)
role_first a b R = (R.0, has_first a b (role_stage R.0) R.1)

role_second : (a b : ℕ) → HasRole b → HasRole (bit_or a b)
role_second a b R = (R.0, has_second a b (role_stage R.0) R.1)

-- USES

-- it is in the stage of a role
abbrev pub HasStage : Use → Type 0
HasStage u = (role : Role) × (u.stage.0 ≡ role_stage role)

from_stages : (shapes : List Shape) (units c q k : ℕ) (named : List ℕ) (touches : List Touch) → All HasStage (uses_from shapes units c q k named touches)
from_stages shapes units c q k named [] = All-nil HasStage
from_stages shapes units c q k named (touch ∷ touches) =
    All-append HasStage (if is_first_named units named touch.what then use_of shapes c q k touch ∷ [] else []) (uses_from shapes units c q (suc k) (named ++ touch.what ∷ []) touches)
    (own (is_first_named units named touch.what))
    (from_stages shapes units c q (suc k) (named ++ touch.what ∷ []) touches)
  where
    own : (b : Bool) → All HasStage (if b then use_of shapes c q k touch ∷ [] else [])
    own true = one HasStage (use_of shapes c q k touch) (touch.role, refl)
    own false = All-nil HasStage

-- those of a queue have the stage of each use on it
pub stages_role : (A : List Use) (u : Use) → Contains A u → HasStage u → HasRole (stages_on A u.queue)
stages_role A u h R = (R.0, subst (λ s. has (stages_on A u.queue) s ≡ true) R.1 (over_has (λ (v : Use). v.stage.0) (on u.queue A) u (contains_on A u h)))

pub first_stages : (B : List Use) → All HasStage B → 0 < length B → HasRole (stages_on B (first B).queue)
first_stages B all some = stages_role B (first B) (contains_at B 0 no_use some) (all 0 no_use some)

pub last_stages : (A : List Use) → All HasStage A → 0 < length A → HasRole (stages_on A (last A).queue)
last_stages A all some = stages_role A (last A) (contains_at A (length A - 1) no_use (omega (arith, some))) (all (length A - 1) no_use (omega (arith, some)))

-- where no use is elsewhere, the first one is on the queue
none_elsewhere : (A : List Use) (q : ℕ) → 0 < length A → is_elsewhere A q ≡ false → (first A).queue ≡ q
none_elsewhere A q some none = go ((first A).queue == q) refl
  where
    go : (b : Bool) → ((first A).queue == q) ≡ b → (first A).queue ≡ q
    go true e = eqb-true (first A).queue q e
    go false e = absurd (false≢true (sym none ∙ list_any_at (λ (u : Use). not (u.queue == q)) A 0 no_use some (ap not e)))

barrier_source : (A B : List Use) (q : ℕ) → All HasStage A → 0 < length A → HasRole (stages_on B q) → HasRole (bit_or (stages_on A q) (if is_elsewhere A q then stages_on B q else 0))
barrier_source A B q all some R = go (is_elsewhere A q) refl
  where
    go : (b : Bool) → is_elsewhere A q ≡ b → HasRole (bit_or (stages_on A q) (if b then stages_on B q else 0))
    go true e = role_second (stages_on A q) (stages_on B q) R
    go false e = role_first (stages_on A q) 0 (subst (λ p. HasRole (stages_on A p)) (none_elsewhere A q some e) (first_stages A all some))

-- ITEMS

-- a barrier from the stage of a role to that of one, or to the host
pub record OpensBy (it : Item) : Type 0 where
  pub masks : Masks
  pub is : masks_of it ≡ Some masks
  pub from : HasRole masks.src_stages.0
  pub to : HasRole masks.dst_stages.0 ⊎ (has masks.dst_stages.0 host ≡ true)

barrier_opens : (piece : ℕ) (layouts : Option Layouts) (masks : Masks) → HasRole masks.src_stages.0 → HasRole masks.dst_stages.0 → OpensBy (barrier piece layouts masks)
barrier_opens piece (Some layouts) masks from to = record { masks = masks; is = refl; from = from; to = inl to }
barrier_opens piece None masks from to = record { masks = masks; is = refl; from = from; to = inl to }

module _ (G : Grouping) (g : ℕ) (A L B : List Use) (stages-A : All HasStage A) (stages-L : All HasStage L) (stages-B : All HasStage B) (some-B : 0 < length B) where
  abbrev made : PrologueKind → Item
  made kind = item_by kind G (prologue_between kind g A L B) A B

  destination : HasRole (stages_on B (first B).queue)
  destination = first_stages B stages-B some-B

  pub after_opens : (C : List Use) → All HasStage C → has_uses C ≡ true → OpensBy (item.Global (barrier_masks C B (first B).queue))
  after_opens C all e = record { masks = barrier_masks C B (first B).queue; is = refl; from = barrier_source C B (first B).queue all (some_from C e) destination; to = inl destination }

  init_opens : OpensBy (init G B)
  init_opens = barrier_opens (piece_of G (first B).unit) (both (Some Undefined) (first B).layout) (entry_masks B (first B).queue) destination destination

  kinds : (a s i l y : Bool) → has_uses A ≡ a → has_uses L ≡ l → is_there (if a then (if s then Barrier else Transfer) else if i then Nothing else first_kind l y) ≡ true → OpensBy (made (if a then (if s then Barrier else Transfer) else if i then Nothing else first_kind l y))
  kinds true true i l y a h t = barrier_opens (piece_of G (first B).unit) (layouts_between A B) (barrier_masks A B (first B).queue) (barrier_source A B (first B).queue stages-A (some_from A a) destination) destination
  kinds true false i l y a h t = record { masks = entry_masks B (first B).queue; is = refl; from = destination; to = inl destination }
  kinds false s true l y a h t = absurd (false≢true t)
  kinds false s false false false a h t = absurd (false≢true t)
  kinds false s false false true a h t = init_opens
  kinds false s false true false a h t = after_opens L stages-L h
  kinds false s false true true a h t = init_opens

module _ (G : Grouping) (D : IsGrouped G) where
  pub use_stage : (u : Use) → IsSourced G u → HasStage u
  use_stage u S = entry_of HasStage (command_uses G.shapes (length G.sharings) u.command S.command) S.entry u (from_stages G.shapes (length G.sharings) u.command S.command.queue 0 [] (touches_of G.shapes S.command.op)) S.is

  pub group_stages : (g : ℕ) → All HasStage (group_at G g)
  group_stages g = ⊎_elim within past (cases_lt g (length G.groups))
    where
      within : g < length G.groups → All HasStage (group_at G g)
      within lt = λ k d l. use_stage (get_or (group_at G g) k d) (D.sourced g [] lt k d l)

      past : length G.groups ≤ g → All HasStage (group_at G g)
      past le = subst (All HasStage) (sym (get_or_past G.groups g [] le)) (All-nil HasStage)

  pub earlier_stages : (g : ℕ) → All HasStage (earlier G g)
  earlier_stages zero = All-nil HasStage
  earlier_stages (suc g) = go (goes_on G g)
    where
      go : (b : Bool) → All HasStage (if b then group_at G g else [])
      go true = group_stages g
      go false = All-nil HasStage

  below_stages : (unit n : ℕ) → All HasStage (last_below G unit n)
  below_stages unit zero = All-nil HasStage
  below_stages unit (suc n) = go (below_stages unit n) (is_of G unit n)
    where
      go : All HasStage (last_below G unit n) → (b : Bool) → All HasStage (if b then group_at G n else last_below G unit n)
      go rest true = group_stages n
      go rest false = rest

  pub under_stages : (heap : Heap) (b : ℕ) → All HasStage (uses_under G heap b)
  under_stages heap b = each_of HasStage (λ a. last_uses G (unit_at G a)) (under G heap b) (λ k d lt. below_stages (unit_at G (get_or (under G heap b) k d)) (length G.groups))

  pub prologue_opens : (heap : Heap) (g : ℕ) → g < length G.groups → is_there (prologue_of G heap g).kind ≡ true → OpensBy (prologue_item G heap g)
  prologue_opens heap g lt e =
      kinds G g (earlier G g) (uses_under G heap (place_of G (first (group_at G g)).unit)) (group_at G g) (earlier_stages g) (under_stages heap (place_of G (first (group_at G g)).unit)) (group_stages g) (D.in_order.some g [] lt)
      (has_uses (earlier G g)) (shares G.families G.sharings (first (group_at G g)).unit (first (earlier G g)).queue (first (group_at G g)).queue) (is_import G (first (group_at G g)).unit) (has_uses (uses_under G heap (place_of G (first (group_at G g)).unit))) (is_some (first (group_at G g)).layout) refl refl e
