-- Kinds of nodes and of accesses, case by case.
use Rattle.std.proofs.Common.{◌≡◌, ◌⊎◌, inl, inr, ℕ, ◌<◌, Bool, true, false, refl}
use Rattle.std.proofs.lemmas.Bool.{false≢true}
use Rattle.device_model.specs.Agents.{agent_at, agent_number}
use Rattle.device_model.specs.Ready.{is_command}
use Rattle.check_order.specs.Edges.{is_sync, is_host}
use Rattle.check_order.specs.declared.kind.Kind.{Kind}
use Rattle.check_order.specs.declared.kind.Kind.TheVariants as kinds
use Rattle.check_access.specs.AccessKinds.{changes, sets_layout, transfers, sets_owner, is_discard, is_acquire}
use Rattle.check_access.specs.ValidView.{IsByQueue, IsByBarrier}
use Rattle.check_access.specs.declared.access.AccessKind.{AccessKind}
use Rattle.check_access.specs.declared.access.AccessKind.TheVariants.{Load, Store, Discard, Release, Acquire}

abbrev pub is_store : AccessKind → Bool
is_store (Store agent layout) = true
is_store kind = false

-- the agent that loads or stores is one of so many with a number
abbrev pub IsNumbered : ℕ → AccessKind → Type 0
IsNumbered count (Load agent layout) = (agent_at (agent_number agent) ≡ agent) × (agent_number agent < count)
IsNumbered count (Store agent layout) = (agent_at (agent_number agent) ≡ agent) × (agent_number agent < count)
IsNumbered count kind = Unit {0}

-- KINDS OF NODES

pub command_is : (k : Kind) → is_command k ≡ true → k ≡ kinds.Command
command_is kinds.Command h = refl
command_is k h = absurd (false≢true h)

pub not_sync : (k : Kind) → is_command k ≡ true → is_sync k ≡ true → ⊥
not_sync kinds.Command h e = false≢true e
not_sync k h e = false≢true h

pub not_host : (k : Kind) → is_command k ≡ true → is_host k ≡ true → ⊥
not_host kinds.Command h e = false≢true e
not_host k h e = false≢true h

pub sync_not_host : (k : Kind) → is_sync k ≡ true → is_host k ≡ true → ⊥
sync_not_host kinds.Host h e = false≢true h
sync_not_host k h e = false≢true e

pub one_of_three : (k : Kind) → (is_command k ≡ true) ⊎ ((is_sync k ≡ true) ⊎ (is_host k ≡ true))
one_of_three kinds.Command = inl refl
one_of_three kinds.Host = inr (inr refl)
one_of_three k = inr (inl refl)

-- KINDS OF ACCESSES

pub store_changes : (d : AccessKind) → is_store d ≡ true → changes d ≡ true
store_changes (Store agent layout) h = refl
store_changes d h = absurd (false≢true h)

pub acquire_sets_owner : (d : AccessKind) → is_acquire d ≡ true → sets_owner d ≡ true
acquire_sets_owner (Acquire handover) h = refl
acquire_sets_owner d h = absurd (false≢true h)

pub discard_sets_owner : (d : AccessKind) → is_discard d ≡ true → sets_owner d ≡ true
discard_sets_owner (Discard layout) h = refl
discard_sets_owner d h = absurd (false≢true h)

-- what decides an owner is a discard or half of a transfer
pub owner_moves : (d : AccessKind) → sets_owner d ≡ true → (changes d ≡ true) ⊎ (transfers d ≡ true)
owner_moves (Discard layout) h = inl refl
owner_moves (Release handover) h = inr refl
owner_moves (Acquire handover) h = inr refl
owner_moves d h = absurd (false≢true h)

-- what a command does is no transition and no transfer
pub record IsPlain (d : AccessKind) : Type 0 where
  pub layouts : sets_layout d ≡ false
  pub owners : sets_owner d ≡ false
  pub discards : is_discard d ≡ false
  pub acquires : is_acquire d ≡ false
  pub store : changes d ≡ true → is_store d ≡ true

pub of_queue_plain : (q : ℕ) (d : AccessKind) → IsByQueue q d → IsPlain d
of_queue_plain q (Load agent layout) h = record { layouts = refl; owners = refl; discards = refl; acquires = refl; store = λ e. absurd (false≢true e) }
of_queue_plain q (Store agent layout) h = record { layouts = refl; owners = refl; discards = refl; acquires = refl; store = λ e. refl }
of_queue_plain q d h = absurd h

-- what a barrier changes it keeps or discards
pub barrier_no_store : (d : AccessKind) → IsByBarrier d → is_store d ≡ false
barrier_no_store (Store agent layout) (inl h) = absurd (false≢true h)
barrier_no_store (Store agent layout) (inr h) = absurd (false≢true h)
barrier_no_store d h = refl
