-- What a prologue says of its group.
use Rattle.std.proofs.Common.{◌≡◌, ℕ, zero, suc, ◌+◌, ◌-◌, ◌<◌, ◌≤◌, ◌&&◌, Bool, true, false, List, [], length, get_or, Some, None, is_some, if◌then◌else◌, Option, refl, sym, ap, ◌∙◌, subst, arith}
use Rattle.std.specs.Prelude.{IfSome}
use Rattle.std.proofs.lemmas.Bool.{false≢true}
use Rattle.std.proofs.lemmas.List.Folds.{list_any_none}
use Rattle.std.proofs.lemmas.List.FromFn.{get_or-map-range_with_len, length-map-range_with_len}
use Rattle.std.proofs.lemmas.List.{get_or_past}
use Rattle.base.proofs.Absence.{is_there}
use Rattle.vk.specs.declared.masks.Masks.{Masks}
use Rattle.compile_groups.specs.Needs.{group_at, goes_on, has_unit, one_unit}
use Rattle.compile_groups.specs.Placed.{is_import}
use Rattle.compile_groups.specs.declared.grouping.Grouping.{Grouping}
use Rattle.compile_groups.specs.declared.unit_use.Use.{Use}
use Rattle.compile_record.specs.Internal.PrologueFacts.{IsNext, Stands, entered}
use Rattle.compile_record.specs.Script.{is_released}
use Rattle.compile_barriers.specs.Masks.{release_masks}
use Rattle.compile_barriers.specs.Prologues.{prologues, prologue_of, earlier, first, last, has_uses, next_kind, first_kind, kind_of, masks_of, is_transfer}
use Rattle.compile_barriers.specs.Under.{Heap, place_of, uses_under}
use Rattle.compile_barriers.specs.declared.prologue.Prologue.{Prologue}
use Rattle.compile_barriers.specs.declared.prologue.PrologueKind.{PrologueKind}
use Rattle.compile_barriers.specs.declared.prologue.PrologueKind.TheVariants.{Nothing, Barrier, Transfer, Alias, Init, AliasInit}

pub prologue_within : (G : Grouping) (heap : Heap) (list : List Prologue) (g : ℕ) → list ≡ prologues G heap → g < length G.groups → g < length list
prologue_within G heap list g e lt = subst (λ n. g < n) (sym (ap length e ∙ length-map-range_with_len (prologue_of G heap) 0 (length G.groups))) lt

pub prologue_got : (G : Grouping) (heap : Heap) (list : List Prologue) (g : ℕ) (prologue : Prologue) → list ≡ prologues G heap → g < length G.groups → get_or list g prologue ≡ prologue_of G heap g
prologue_got G heap list g prologue e lt = ap (λ l. get_or l g prologue) e ∙ get_or-map-range_with_len (prologue_of G heap) 0 (length G.groups) g g prologue lt (omega arith)

-- AFTER A GROUP OF THE SAME UNIT

abbrev follows : PrologueKind → Bool
follows Barrier = true
follows Transfer = true
follows Nothing = false
follows Alias = false
follows Init = false
follows AliasInit = false

-- what the first group of a unit has follows none
first_follows : (import reused image : Bool) → follows (if import then Nothing else first_kind reused image) ≡ false
first_follows true reused image = refl
first_follows false false false = refl
first_follows false false true = refl
first_follows false true false = refl
first_follows false true true = refl

has_earlier : (b import reused image : Bool) (next kind : PrologueKind) → (if b then next else if import then Nothing else first_kind reused image) ≡ kind → follows kind ≡ true → b ≡ true
has_earlier true import reused image next kind e f = refl
has_earlier false import reused image next kind e f = absurd (false≢true (sym (first_follows import reused image) ∙ ap follows e ∙ f))

is_next : (G : Grouping) (g : ℕ) → has_uses (earlier G g) ≡ true → IsNext G g
is_next G zero h = absurd (false≢true h)
is_next G (suc g) h = record { later = omega arith; is = go (goes_on G g) h }
  where
    go : (b : Bool) → has_uses (if b then group_at G g else []) ≡ true → (if b then group_at G g else []) ≡ group_at G (suc g - 1)
    go true u = let back : g ≡ suc g - 1 = omega arith in ap (group_at G) back
    go false u = absurd (false≢true u)

next_of : (G : Grouping) (heap : Heap) (g : ℕ) (kind : PrologueKind) → (prologue_of G heap g).kind ≡ kind → follows kind ≡ true → IsNext G g
next_of G heap g kind e f =
    let A = earlier G g in
    let B = group_at G g in
    let L = uses_under G heap (place_of G (first B).unit) in
    is_next G g (has_earlier (has_uses A) (is_import G (first B).unit) (has_uses L) (is_some (first B).layout) (next_kind G A B) kind e f)

pub stands : (G : Grouping) (heap : Heap) (g : ℕ) → g < length G.groups → Stands G (prologue_of G heap g)
stands G heap g lt =
    let A = earlier G g in
    let B = group_at G g in
    let L = uses_under G heap (place_of G (first B).unit) in
    record {
      group = lt;
      barrier = λ e. next_of G heap g Barrier e refl;
      transfer = λ e. next_of G heap g Transfer e refl;
      init = λ e. sym (ap (λ k. entered (masks_of k A L B (first B).queue)) e);
      alias_init = λ e. sym (ap (λ k. entered (masks_of k A L B (first B).queue)) e);
    }

pub stands_got : (G : Grouping) (heap : Heap) (list : List Prologue) (g : ℕ) (prologue : Prologue) → list ≡ prologues G heap → g < length G.groups → Stands G (get_or list g prologue)
stands_got G heap list g prologue e lt = subst (Stands G) (sym (prologue_got G heap list g prologue e lt)) (stands G heap g lt)

-- BEFORE A GROUP OF ANOTHER FAMILY

first_kept : (import reused image : Bool) → is_transfer (if import then Nothing else first_kind reused image) ≡ false
first_kept true reused image = refl
first_kept false false false = refl
first_kept false false true = refl
first_kept false true false = refl
first_kept false true true = refl

one_of : {X : Type 0} (b : Bool) (x y : X) → (if b then Some x else None) ≡ Some y → y ≡ x
one_of true x y h = cc
one_of false x y h = absurd (cc)

none_of : {X : Type 0} (b : Bool) (x y : X) → b ≡ false → (if b then Some x else None) ≡ Some y → ⊥
none_of true x y f h = cc
none_of false x y f h = cc

-- the uses A, if they are of the same unit
module _ (G : Grouping) (A L B : List Use) where
  only_after : (b : Bool) → is_transfer (kind_of G (if b then A else []) L B) ≡ (b && is_transfer (kind_of G (if b then A else []) L B))
  only_after true = refl
  only_after false = first_kept (is_import G (first B).unit) (has_uses L) (is_some (first B).layout)

  masks_after : (b : Bool) (masks : Masks) → (if is_transfer (kind_of G (if b then A else []) L B) then Some (release_masks (if b then A else []) (last (if b then A else [])).queue) else None) ≡ Some masks → masks ≡ release_masks A (last A).queue
  masks_after true masks e = one_of (is_transfer (kind_of G A L B)) (release_masks A (last A).queue) masks e
  masks_after false masks e = absurd (none_of (is_transfer (kind_of G [] L B)) (release_masks [] (last []).queue) masks (first_kept (is_import G (first B).unit) (has_uses L) (is_some (first B).layout)) e)

-- the release is there where it is wanted
module _ (G : Grouping) (heap : Heap) (g : ℕ) where
  pub released_is : (prologue : Prologue) → prologue ≡ prologue_of G heap (g + 1) → is_some prologue.release ≡ is_released G heap g
  released_is prologue e =
      let next : g + 1 ≡ suc g = omega arith in
      let B = group_at G (suc g) in
      let L = uses_under G heap (place_of G (first B).unit) in
      ap (λ t. is_some t.release) (e ∙ ap (prologue_of G heap) next)
      ∙ is_there (is_transfer (prologue_of G heap (suc g)).kind) (release_masks (earlier G (suc g)) (last (earlier G (suc g))).queue)
      ∙ only_after G (group_at G g) L B (goes_on G g)

  pub masks_are : (prologue : Prologue) (masks : Masks) → prologue ≡ prologue_of G heap (g + 1) → prologue.release ≡ Some masks → masks ≡ release_masks (group_at G g) (last (group_at G g)).queue
  masks_are prologue masks e is =
      let next : g + 1 ≡ suc g = omega arith in
      let B = group_at G (suc g) in
      let L = uses_under G heap (place_of G (first B).unit) in
      masks_after G (group_at G g) L B (goes_on G g) masks (sym (ap (λ t. t.release) (e ∙ ap (prologue_of G heap) next)) ∙ is)

  pub masks_given : (prologue : Prologue) → prologue ≡ prologue_of G heap (g + 1) → IfSome prologue.release (λ masks. masks ≡ release_masks (group_at G g) (last (group_at G g)).queue)
  masks_given prologue e = go prologue.release refl
    where
      go : (o : Option Masks) → prologue.release ≡ o → IfSome o (λ masks. masks ≡ release_masks (group_at G g) (last (group_at G g)).queue)
      go None h = tt
      go (Some masks) h = masks_are prologue masks e h

  -- nothing comes after the last group
  pub last_stays : length G.groups ≤ g + 1 → false ≡ is_released G heap g
  last_stays le = sym (ap (λ b. b && is_transfer (prologue_of G heap (suc g)).kind) (ap (one_unit (group_at G g)) (get_or_past G.groups (suc g) [] (omega (arith, le))) ∙ list_any_none (λ u. has_unit u.unit []) (group_at G g) (λ k d lt. refl)))
