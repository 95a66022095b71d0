-- The rules on masks.
use Rattle.std.specs.Prelude.{ℕ, ◌==◌, ◌&&◌, not, Bool, true, Option, Some, None}
use Rattle.std.specs.Option.{option_map_or}
use Rattle.base.specs.declared.shape.Family.{Family}
use Rattle.vk.specs.Families.{family_number, on_family}
use Rattle.vk.specs.Sets.{meets}
use Rattle.vk.specs.Stages.{host}
use Rattle.vk.specs.Support.{supports}
use Rattle.vk.specs.declared.masks.Masks.{Masks}
use Rattle.program.specs.declared.program.Item.{Item}
use Rattle.program.specs.declared.program.Item.TheVariants.{Command, Global, BufferBarrier, ImageBarrier, Release, Acquire}

-- a barrier's masks; release and acquire are barriers
abbrev pub masks_of : Item → Option Masks
masks_of (Command op) = None
masks_of (Global masks) = Some masks
masks_of (BufferBarrier piece masks) = Some masks
masks_of (ImageBarrier piece layouts masks) = Some masks
masks_of (Release t) = Some t.masks
masks_of (Acquire t) = Some t.masks

-- the masks of a barrier are so
abbrev pub masks_are : (Masks → Bool) → Item → Bool
masks_are test item = option_map_or test (masks_of item) true

abbrev pub has_stages : ℕ → Bool
has_stages stages = not (stages == 0)

abbrev pub both_have_stages : Masks → Bool
both_have_stages masks = has_stages masks.src_stages.0 && has_stages masks.dst_stages.0

-- what the standard ignores is empty: a release's destination accesses, an acquire's source accesses
abbrev pub nothing_ignored : Item → Bool
nothing_ignored (Release t) = t.masks.dst_accesses.0 == 0
nothing_ignored (Acquire t) = t.masks.src_accesses.0 == 0
nothing_ignored item = true

abbrev pub both_supported : Masks → Bool
both_supported masks = supports masks.src_stages.0 masks.src_accesses.0 && supports masks.dst_stages.0 masks.dst_accesses.0

abbrev pub both_on_family : Family → Masks → Bool
both_on_family family masks = on_family masks.src_stages.0 (family_number family) && on_family masks.dst_stages.0 (family_number family)

-- of a wait or a signal, which have no stage of the host
abbrev pub on_queue : Family → ℕ → Bool
on_queue family stages = on_family stages (family_number family) && not (meets stages host)
