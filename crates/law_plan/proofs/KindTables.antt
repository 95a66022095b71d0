-- What kinds of accesses say of one another.
use Rattle.std.proofs.Common.{◌≡◌, true, false, ◌||◌, Option, Some, refl}
use Rattle.std.proofs.lemmas.Bool.{false≢true}
use Rattle.base.specs.declared.shape.Family.{Family}
use Rattle.vk.specs.declared.layout.Layout.{Layout}
use Rattle.law_plan.specs.Kinds.{is_plain, is_entry, is_release}
use Rattle.check_state.specs.PieceStates.{owner_after}
use Rattle.check_access.specs.AccessKinds.{changes, is_discard, sets_layout, sets_owner, stores, transfers, wanted}
use Rattle.check_access.specs.declared.access.AccessKind.{AccessKind}
use Rattle.check_access.specs.declared.access.AccessKind.TheVariants.{Load, Store, Transition, Discard, Release, Acquire}

-- WHOSE AN ACCESS IS

pub entry_not_plain : (d : AccessKind) → is_entry d ≡ true → is_plain d ≡ false
entry_not_plain (Load agent layout) h = absurd (false≢true h)
entry_not_plain (Store agent layout) h = absurd (false≢true h)
entry_not_plain (Transition layouts) h = refl
entry_not_plain (Discard layout) h = refl
entry_not_plain (Release handover) h = refl
entry_not_plain (Acquire handover) h = refl

pub release_not_plain : (d : AccessKind) → is_release d ≡ true → is_plain d ≡ false
release_not_plain (Load agent layout) h = absurd (false≢true h)
release_not_plain (Store agent layout) h = absurd (false≢true h)
release_not_plain (Transition layouts) h = refl
release_not_plain (Discard layout) h = refl
release_not_plain (Release handover) h = refl
release_not_plain (Acquire handover) h = refl

-- WHAT IT DOES

pub plain_keeps : (d : AccessKind) → is_plain d ≡ true → transfers d ≡ false
plain_keeps (Load agent layout) h = refl
plain_keeps (Store agent layout) h = refl
plain_keeps (Transition layouts) h = refl
plain_keeps (Discard layout) h = refl
plain_keeps (Release handover) h = absurd (false≢true h)
plain_keeps (Acquire handover) h = absurd (false≢true h)

pub plain_sets_none : (d : AccessKind) → is_plain d ≡ true → (sets_layout d || sets_owner d) ≡ true → ⊥
plain_sets_none (Load agent layout) h k = false≢true k
plain_sets_none (Store agent layout) h k = false≢true k
plain_sets_none (Transition layouts) h k = false≢true h
plain_sets_none (Discard layout) h k = false≢true h
plain_sets_none (Release handover) h k = false≢true h
plain_sets_none (Acquire handover) h k = false≢true h

pub release_changes_none : (d : AccessKind) → is_release d ≡ true → (changes d || sets_layout d) ≡ true → ⊥
release_changes_none (Load agent layout) h k = false≢true h
release_changes_none (Store agent layout) h k = false≢true h
release_changes_none (Transition layouts) h k = false≢true h
release_changes_none (Discard layout) h k = false≢true h
release_changes_none (Release handover) h k = false≢true k
release_changes_none (Acquire handover) h k = false≢true h

pub entry_change : (d : AccessKind) → is_entry d ≡ true → changes d ≡ true → sets_layout d ≡ true
entry_change (Load agent layout) h k = absurd (false≢true h)
entry_change (Store agent layout) h k = absurd (false≢true h)
entry_change (Transition layouts) h k = refl
entry_change (Discard layout) h k = refl
entry_change (Release handover) h k = absurd (false≢true h)
entry_change (Acquire handover) h k = absurd (false≢true k)

pub release_sets_owner : (d : AccessKind) → is_release d ≡ true → sets_owner d ≡ true
release_sets_owner (Load agent layout) h = absurd (false≢true h)
release_sets_owner (Store agent layout) h = absurd (false≢true h)
release_sets_owner (Transition layouts) h = absurd (false≢true h)
release_sets_owner (Discard layout) h = absurd (false≢true h)
release_sets_owner (Release handover) h = refl
release_sets_owner (Acquire handover) h = absurd (false≢true h)

pub entry_owner : (d : AccessKind) (family : Option Family) → is_entry d ≡ true → owner_after d family ≡ family
entry_owner (Load agent layout) family h = refl
entry_owner (Store agent layout) family h = refl
entry_owner (Transition layouts) family h = refl
entry_owner (Discard layout) family h = refl
entry_owner (Release handover) family h = absurd (false≢true h)
entry_owner (Acquire handover) family h = refl

pub owner_moves : (d : AccessKind) → sets_owner d ≡ true → (changes d || transfers d) ≡ true
owner_moves (Load agent layout) h = absurd (false≢true h)
owner_moves (Store agent layout) h = absurd (false≢true h)
owner_moves (Transition layouts) h = absurd (false≢true h)
owner_moves (Discard layout) h = refl
owner_moves (Release handover) h = refl
owner_moves (Acquire handover) h = refl

pub transfer_sets_owner : (d : AccessKind) → transfers d ≡ true → sets_owner d ≡ true
transfer_sets_owner (Load agent layout) h = absurd (false≢true h)
transfer_sets_owner (Store agent layout) h = absurd (false≢true h)
transfer_sets_owner (Transition layouts) h = absurd (false≢true h)
transfer_sets_owner (Discard layout) h = absurd (false≢true h)
transfer_sets_owner (Release handover) h = refl
transfer_sets_owner (Acquire handover) h = refl

pub release_wants_none : (d : AccessKind) (layout : Layout) → is_release d ≡ true → wanted d ≡ Some layout → ⊥
release_wants_none (Load agent at) layout h k = false≢true h
release_wants_none (Store agent at) layout h k = false≢true h
release_wants_none (Transition layouts) layout h k = false≢true h
release_wants_none (Discard to) layout h k = false≢true h
release_wants_none (Release handover) layout h k = cc
release_wants_none (Acquire handover) layout h k = false≢true h

pub change_stores : (d : AccessKind) → changes d ≡ true → (is_discard d ≡ true → ⊥) → stores d ≡ true
change_stores (Load agent layout) h n = absurd (false≢true h)
change_stores (Store agent layout) h n = refl
change_stores (Transition layouts) h n = refl
change_stores (Discard layout) h n = absurd (n refl)
change_stores (Release handover) h n = absurd (false≢true h)
change_stores (Acquire handover) h n = absurd (false≢true h)

-- a discard is what a prologue does
pub discard_entry : (d : AccessKind) → is_discard d ≡ true → (is_plain d ≡ false) × (is_release d ≡ false)
discard_entry (Load agent layout) h = absurd (false≢true h)
discard_entry (Store agent layout) h = absurd (false≢true h)
discard_entry (Transition layouts) h = absurd (false≢true h)
discard_entry (Discard layout) h = (refl, refl)
discard_entry (Release handover) h = absurd (false≢true h)
discard_entry (Acquire handover) h = absurd (false≢true h)
