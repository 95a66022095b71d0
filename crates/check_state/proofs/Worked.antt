-- Worked rows: what accesses find on written-out lists.
use Rattle.std.proofs.Common.{◌≡◌, ℕ, List, [], ◌∷◌, true, false, Some, None, refl}
use Rattle.base.specs.declared.shape.Family.TheVariants.{Graphics, Compute}
use Rattle.base.specs.declared.shape.Shape.TheVariants.{Buffer}
use Rattle.vk.specs.declared.layout.Layout.TheVariants as layouts
use Rattle.vk.specs.declared.layout.Layouts.{Layouts}
use Rattle.vk.specs.declared.sharing.Sharing.TheVariants.{Exclusive}
use Rattle.check_order.specs.Nodes.{node, host_node}
use Rattle.check_order.specs.declared.kind.Kind.TheVariants.{Command, Barrier}
use Rattle.program.specs.declared.program.Piece.{Piece}
use Rattle.check_access.specs.Effects.{access, plain_effect}
use Rattle.check_access.specs.Views.{View, node_access}
use Rattle.check_access.specs.declared.access.Agent.TheVariants as agent
use Rattle.check_access.specs.declared.access.AccessKind.TheVariants.{Load, Store, Transition, Discard, Release, Acquire}
use Rattle.check_access.specs.declared.access.Handover.{Handover}
use Rattle.check_access.specs.declared.node_access.NodeAccess.{NodeAccess}
use Rattle.check_state.specs.PieceStates.{found_layout, found_owner, next_transfer, last_transfer, last_change}
use Rattle.check_state.specs.StateValid.{needs_owner}

-- 64 bytes of memory 0
abbrev piece : ℕ → Piece
piece offset = record { shape = Buffer 64; memory = 0; offset = offset; sharing = Exclusive }

abbrev handover : Handover
handover = record { from = Compute; to = Graphics; layouts = None }

-- a command and a release of a compute queue, an acquire and a command of a graphics queue, and a host read; pieces 0 and 1
-- have bytes in common, piece 2 has its own
abbrev view : View
view = record {
  nodes = node Command 0 0 0 ∷ node Barrier 0 0 0 ∷ node Barrier 1 0 0 ∷ node Command 1 0 0 ∷ host_node 2 ∷ [];
  effects = plain_effect [] ∷ plain_effect [] ∷ plain_effect (access 0 (Acquire handover) ∷ []) ∷ plain_effect [] ∷ plain_effect [] ∷ [];
  pieces = piece 0 ∷ piece 32 ∷ piece 96 ∷ [];
  imported = false ∷ false ∷ false ∷ [];
  families = Compute ∷ Graphics ∷ [];
}

abbrev store : ℕ → ℕ → NodeAccess
store n p = node_access n (access p (Store (agent.Of 0 1) None))

abbrev load : ℕ → ℕ → NodeAccess
load n p = node_access n (access p (Load (agent.Of 0 1) None))

abbrev to_source : Layouts
to_source = record { from = layouts.General; to = layouts.TransferSrc }

-- LAYOUTS

abbrev transitions : List NodeAccess
transitions = node_access 1 (access 0 (Discard layouts.General)) ∷ node_access 1 (access 0 (Transition to_source)) ∷ load 3 0 ∷ []

undefined_at_first : found_layout transitions 0 0 ≡ layouts.Undefined
undefined_at_first = refl

left_by_a_discard : found_layout transitions 1 0 ≡ layouts.General
left_by_a_discard = refl

-- it leaves the layout that it goes to
left_by_a_transition : found_layout transitions 2 0 ≡ layouts.TransferSrc
left_by_a_transition = refl

-- pieces have layouts of their own, also where they overlap
not_of_another : found_layout transitions 2 1 ≡ layouts.Undefined
not_of_another = refl

-- OWNERS AND TRANSFERS

-- a host read, a store, the two halves, a load
abbrev handed : List NodeAccess
handed = node_access 4 (access 0 (Load agent.Host None)) ∷ store 0 0 ∷ node_access 1 (access 0 (Release handover)) ∷ node_access 2 (access 0 (Acquire handover)) ∷ load 3 0 ∷ []

-- the first access but host reads owns it, also before it comes
first_but_host : found_owner view handed 0 0 ≡ Some Compute
first_but_host = refl

nobody_between : found_owner view handed 3 0 ≡ None
nobody_between = refl

acquired : found_owner view handed 4 0 ≡ Some Graphics
acquired = refl

-- a discard takes the piece
discarded : found_owner view (store 0 0 ∷ node_access 3 (access 0 (Discard layouts.General)) ∷ []) 2 0 ≡ Some Graphics
discarded = refl

-- the node is an acquire
acquire_needs_none : needs_owner view (node_access 2 (access 0 (Transition to_source))) ≡ false
acquire_needs_none = refl

store_needs_one : needs_owner view (store 0 0) ≡ true
store_needs_one = refl

comes_next : next_transfer handed 2 0 ≡ Some (Acquire handover)
comes_next = refl

came_last : last_transfer handed 3 0 ≡ Some (Release handover)
came_last = refl

of_no_other_piece : last_transfer handed 3 1 ≡ None
of_no_other_piece = refl

-- CHANGES

changed_through_another : last_change view (store 0 0 ∷ store 0 1 ∷ load 3 0 ∷ []) 2 0 ≡ Some (store 0 1)
changed_through_another = refl

not_through_one_apart : last_change view (store 0 0 ∷ store 0 2 ∷ load 3 0 ∷ []) 2 0 ≡ Some (store 0 0)
not_through_one_apart = refl

-- a discard leaves no bytes, and is a change
changed_by_a_discard : last_change view (store 0 0 ∷ node_access 1 (access 0 (Discard layouts.General)) ∷ []) 2 0 ≡ Some (node_access 1 (access 0 (Discard layouts.General)))
changed_by_a_discard = refl
