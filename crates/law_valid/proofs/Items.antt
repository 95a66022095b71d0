-- Which items obey every rule.
use Rattle.std.proofs.Common.{◌≡◌, ◌==◌, ◌&&◌, ℕ, Bool, true, false, List, length, not, slice_get, Option, Some, None, refl, sym, ap, ◌∙◌, subst, eq-eqb}
use Rattle.std.specs.Option.{option_map_or}
use Rattle.std.specs.Prelude.{is_some}
use Rattle.std.proofs.lemmas.Bool.{and_from, lt-ltb}
use Rattle.std.proofs.lemmas.Option.{slice_get_within}
use Rattle.base.proofs.Booleans.{clash}
use Rattle.base.specs.Shapes.{is_buffer, is_image}
use Rattle.base.specs.declared.op.Op.{Op}
use Rattle.base.specs.declared.shape.Family.{Family}
use Rattle.base.specs.declared.shape.Shape.{Shape}
use Rattle.base.specs.declared.shape.Shape.TheVariants.{Buffer, Image}
use Rattle.vk.specs.Families.{family_number}
use Rattle.vk.specs.Layouts.{is_undefined}
use Rattle.vk.specs.declared.layout.Layout.{Layout}
use Rattle.vk.specs.declared.layout.Layouts.{Layouts}
use Rattle.vk.specs.declared.masks.Masks.{Masks}
use Rattle.compile_record.specs.Items.{both, barrier}
use Rattle.program.specs.Barriers.{masks_are, both_have_stages, nothing_ignored, both_supported, both_on_family}
use Rattle.program.specs.Numbers.{has_piece, item_known}
use Rattle.program.specs.Ranges.{is_so, layouts_defined, layouts_stand, item_in_range, transfer_in_range}
use Rattle.program.specs.Rules.{item_runs, item_obeys}
use Rattle.program.specs.declared.program.Item.{Item}
use Rattle.program.specs.declared.program.Item.TheVariants as item
use Rattle.program.specs.declared.program.Transfer as transfers
use Rattle.program.specs.declared.rule.Rule.{Rule}
use Rattle.program.specs.declared.rule.Rule.TheVariants as rules
use Rattle.law_valid.proofs.Masks.{AreGood}
use Rattle.law_valid.proofs.Uses.{IsLaidOut}

-- it obeys each rule, on a queue of the family
abbrev pub ObeysAll : List Shape → Family → Item → Type 0
ObeysAll shapes family item = (rule : Rule) → item_obeys rule shapes family item ≡ true

-- the piece with this number has the shape
abbrev pub HasShape : List Shape → ℕ → Shape → Type 0
HasShape shapes piece shape = slice_get shapes piece ≡ Some shape

-- what its masks are, and what it is on
record IsBarrier (shapes : List Shape) (family : Family) (it : Item) : Type 0 where
  range : item_in_range shapes family it ≡ true
  known : item_known shapes it ≡ true
  stages : masks_are both_have_stages it ≡ true
  ignored : nothing_ignored it ≡ true
  supported : masks_are both_supported it ≡ true
  on_family : masks_are (both_on_family family) it ≡ true
  runs : item_runs family it ≡ true

all_rules : (shapes : List Shape) (family : Family) (it : Item) → IsBarrier shapes family it → ObeysAll shapes family it
all_rules shapes family it B rules.Limits = refl
all_rules shapes family it B rules.Range = B.range
all_rules shapes family it B rules.Known = B.known
all_rules shapes family it B rules.Stages = B.stages
all_rules shapes family it B rules.Ignored = B.ignored
all_rules shapes family it B rules.Supported = B.supported
all_rules shapes family it B rules.OnQueue = B.on_family
all_rules shapes family it B rules.Runs = B.runs
all_rules shapes family it B rules.Timeline = refl

module _ (shapes : List Shape) (family : Family) where
  pub there : (piece : ℕ) (shape : Shape) → HasShape shapes piece shape → has_piece shapes piece ≡ true
  there piece shape is = lt-ltb piece (length shapes) (slice_get_within shapes piece shape is)

  pub so : (test : Shape → Bool) (piece : ℕ) (shape : Shape) → HasShape shapes piece shape → test shape ≡ true → is_so test shapes piece ≡ true
  so test piece shape is e = subst (λ o. option_map_or test o true ≡ true) (sym is) e

  pub global_obeys : (masks : Masks) → AreGood family masks → ObeysAll shapes family (item.Global masks)
  global_obeys masks good = all_rules shapes family (item.Global masks) (record { range = refl; known = refl; stages = good.stages; ignored = refl; supported = good.supported; on_family = good.on_family; runs = refl })

  pub buffer_obeys : (piece : ℕ) (shape : Shape) (masks : Masks) → HasShape shapes piece shape → is_buffer shape ≡ true → AreGood family masks → ObeysAll shapes family (item.BufferBarrier piece masks)
  buffer_obeys piece shape masks is buffer good = all_rules shapes family (item.BufferBarrier piece masks)
      (record { range = so is_buffer piece shape is buffer; known = there piece shape is; stages = good.stages; ignored = refl; supported = good.supported; on_family = good.on_family; runs = refl })

  pub image_obeys : (piece : ℕ) (shape : Shape) (layouts : Layouts) (masks : Masks) → HasShape shapes piece shape → is_image shape ≡ true → is_undefined layouts.to ≡ false → AreGood family masks → ObeysAll shapes family (item.ImageBarrier piece layouts masks)
  image_obeys piece shape layouts masks is image known good = all_rules shapes family (item.ImageBarrier piece layouts masks) (record {
    range = and_from (is_so is_image shapes piece) (not (is_undefined layouts.to)) (so is_image piece shape is image) (ap not known);
    known = there piece shape is;
    stages = good.stages;
    ignored = refl;
    supported = good.supported;
    on_family = good.on_family;
    runs = refl;
  })

  no_image : (shape : Shape) → is_image shape ≡ false → is_buffer shape ≡ true
  no_image (Buffer size) e = refl
  no_image (Image width height texel) e = absurd cc

  -- from a layout that may be unknown to a known one
  pub barrier_obeys : (piece : ℕ) (shape : Shape) (from to : Option Layout) (masks : Masks) → HasShape shapes piece shape → is_some from ≡ is_image shape → IsLaidOut shape to → AreGood family masks → ObeysAll shapes family (barrier piece (both from to) masks)
  barrier_obeys piece shape (Some from) (Some to) masks is image laid good = image_obeys piece shape (record { from = from; to = to }) masks is (sym image) laid.known good
  barrier_obeys piece shape (Some from) None masks is image laid good = absurd (clash (laid.image ∙ sym image))
  barrier_obeys piece shape None to masks is image laid good = buffer_obeys piece shape masks is (no_image shape (sym image)) good

  pub stand : (shape : Shape) (from to : Option Layout) → IsLaidOut shape from → IsLaidOut shape to → layouts_stand (both from to) shape ≡ true
  stand shape (Some from) (Some to) one two = sym one.image
  stand shape (Some from) None one two = absurd (clash (two.image ∙ sym one.image))
  stand shape None to one two = no_image shape (sym one.image)

  pub defined : (shape : Shape) (from to : Option Layout) → IsLaidOut shape from → IsLaidOut shape to → layouts_defined (both from to) ≡ true
  defined shape (Some from) (Some to) one two = and_from (not (is_undefined from)) (not (is_undefined to)) (ap not one.known) (ap not two.known)
  defined shape (Some from) None one two = refl
  defined shape None to one two = refl

-- half of a transfer between two families, on a queue of this one
pub record IsHalf (shapes : List Shape) (family : Family) (t : transfers.Transfer) : Type 0 where
  pub shape : Shape
  pub piece : HasShape shapes t.piece shape
  pub stand : layouts_stand t.layouts shape ≡ true
  pub defined : layouts_defined t.layouts ≡ true
  pub differ : (family_number t.from_family == family_number t.to_family) ≡ false
  pub masks : AreGood family t.masks

in_range : (shapes : List Shape) (family own : Family) (t : transfers.Transfer) → IsHalf shapes family t → family_number own ≡ family_number family → transfer_in_range shapes family own t ≡ true
in_range shapes family own t H same =
    let stands = is_so (layouts_stand t.layouts) shapes t.piece in
    let differ = not (family_number t.from_family == family_number t.to_family) in
    let on = family_number own == family_number family in
    and_from (stands && differ && on) (layouts_defined t.layouts)
    (and_from (stands && differ) on
    (and_from stands differ (so shapes family (layouts_stand t.layouts) t.piece H.shape H.piece H.stand) (ap not H.differ))
    (eq-eqb (family_number own) (family_number family) same))
    H.defined

pub release_obeys : (shapes : List Shape) (family : Family) (t : transfers.Transfer) → IsHalf shapes family t → family_number t.from_family ≡ family_number family → (t.masks.dst_accesses.0 == 0) ≡ true → ObeysAll shapes family (item.Release t)
release_obeys shapes family t H own ignored = all_rules shapes family (item.Release t) (record {
  range = in_range shapes family t.from_family t H own;
  known = there shapes family t.piece H.shape H.piece;
  stages = H.masks.stages;
  ignored = ignored;
  supported = H.masks.supported;
  on_family = H.masks.on_family;
  runs = refl;
})

pub acquire_obeys : (shapes : List Shape) (family : Family) (t : transfers.Transfer) → IsHalf shapes family t → family_number t.to_family ≡ family_number family → (t.masks.src_accesses.0 == 0) ≡ true → ObeysAll shapes family (item.Acquire t)
acquire_obeys shapes family t H own ignored = all_rules shapes family (item.Acquire t) (record {
  range = in_range shapes family t.to_family t H own;
  known = there shapes family t.piece H.shape H.piece;
  stages = H.masks.stages;
  ignored = ignored;
  supported = H.masks.supported;
  on_family = H.masks.on_family;
  runs = refl;
})

pub command_obeys : (shapes : List Shape) (family : Family) (op : Op ℕ) → item_in_range shapes family (item.Command op) ≡ true → item_known shapes (item.Command op) ≡ true → item_runs family (item.Command op) ≡ true → ObeysAll shapes family (item.Command op)
command_obeys shapes family op range known run = all_rules shapes family (item.Command op) (record { range = range; known = known; stages = refl; ignored = refl; supported = refl; on_family = refl; runs = run })
