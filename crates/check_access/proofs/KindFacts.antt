-- What kinds of accesses say of one another.
use Rattle.std.proofs.Common.{◌≡◌, true, false, Some, refl}
use Rattle.std.proofs.lemmas.Bool.{false≢true}
use Rattle.vk.specs.declared.layout.Layout.{Layout}
use Rattle.check_access.specs.AccessKinds.{changes, loads, sets_layout, transfers, wanted}
use Rattle.check_access.specs.declared.access.AccessKind.{AccessKind}
use Rattle.check_access.specs.declared.access.AccessKind.TheVariants.{Transition, Discard, Release, Acquire}

pub layout_changes : (d : AccessKind) → sets_layout d ≡ true → changes d ≡ true
layout_changes (Transition layouts) h = refl
layout_changes (Discard layout) h = refl
layout_changes d h = absurd (false≢true h)

pub load_keeps : (d : AccessKind) → loads d ≡ true → transfers d ≡ false
load_keeps (Release handover) h = absurd (false≢true h)
load_keeps (Acquire handover) h = absurd (false≢true h)
load_keeps d h = refl

pub wanting_keeps : (d : AccessKind) (layout : Layout) → wanted d ≡ Some layout → transfers d ≡ false
wanting_keeps (Release handover) layout h = absurd cc
wanting_keeps (Acquire handover) layout h = absurd cc
wanting_keeps d layout h = refl
