-- The nodes of a program by scopes: a source mask takes earlier stages of the pipelines in, a destination mask later ones.
use Rattle.std.specs.Prelude.{ℕ, List, [], ◌∷◌, map, length}
use Rattle.std.specs.Int.RustNames.{bit_or}
use Rattle.base.specs.declared.shape.Shape.{Shape}
use Rattle.vk.specs.Accesses.{memory_read, memory_write}
use Rattle.vk.specs.Stages.{host}
use Rattle.vk.specs.declared.masks.Masks.{Masks}
use Rattle.check_order.specs.Nodes.{node, item_node, host_node}
use Rattle.check_order.specs.declared.kind.Kind.TheVariants as kinds
use Rattle.check_order.specs.declared.node.Node.{Node}
use Rattle.check_scopes.specs.Scopes.{expanded, waited_for, waiting}
use Rattle.check_scopes.specs.WideAgents.{agents_in}
use Rattle.program.specs.Entries.{Entry, OfWait, OfItem, OfSignal, OfHost, entries_of}
use Rattle.program.specs.declared.program.Item.{Item}
use Rattle.program.specs.declared.program.Item.TheVariants.{Command, Global, BufferBarrier, ImageBarrier, Release, Acquire}
use Rattle.program.specs.declared.program.Program.{Program}
use Rattle.program.specs.Rules.{shapes_of}
use Rattle.check_access.specs.Effects.{access, layout_change, handover_of, acquire_accesses, item_effect, host_effect}
use Rattle.check_access.specs.Views.{View, view_of}
use Rattle.check_access.specs.declared.access.Access.{Access}
use Rattle.check_access.specs.declared.access.AccessKind.TheVariants as access_kinds
use Rattle.check_access.specs.declared.effect.Effect.{Effect}
use Rattle.check_access.specs.declared.effect.Scope.{Scope}
use Rattle.check_access.specs.declared.effect.Scope.TheVariants.{Everywhere, Piece}

abbrev pub barrier_scopes : ℕ → Masks → Node
barrier_scopes q masks = node kinds.Barrier q (waited_for masks.src_stages.0) (waiting masks.dst_stages.0)

abbrev pub item_scopes : ℕ → Item → Node
item_scopes q (Command op) = item_node q (Command op)
item_scopes q (Global masks) = barrier_scopes q masks
item_scopes q (BufferBarrier piece masks) = barrier_scopes q masks
item_scopes q (ImageBarrier piece layouts masks) = barrier_scopes q masks
item_scopes q (Release transfer) = barrier_scopes q transfer.masks
item_scopes q (Acquire transfer) = barrier_scopes q transfer.masks

abbrev pub entry_scopes : ℕ → Entry → Node
entry_scopes queues (OfWait q wait) = node (kinds.Wait wait.queue wait.value) q 0 (waiting wait.stages.0)
entry_scopes queues (OfItem q item) = item_scopes q item
entry_scopes queues (OfSignal q signal) = node (kinds.Signal signal.value) q (bit_or (waited_for signal.stages.0) host) 0
entry_scopes queues (OfHost piece) = host_node queues

abbrev pub program_scopes : Program → List Node
program_scopes program = map (entry_scopes (length program.queues)) (entries_of program)

-- EFFECTS

-- memory is made available and visible by the stages of masks alone
abbrev pub barrier_effects : List Access → Masks → Scope → Effect
barrier_effects accesses masks scope = record {
  accesses = accesses;
  available = agents_in (expanded masks.src_stages.0) masks.src_accesses.0;
  visible = agents_in (expanded masks.dst_stages.0) masks.dst_accesses.0;
  scope = scope;
}

abbrev pub item_effects : List Shape → ℕ → Item → Effect
item_effects shapes q (Command op) = item_effect shapes q (Command op)
item_effects shapes q (Global masks) = barrier_effects [] masks Everywhere
item_effects shapes q (BufferBarrier piece masks) = barrier_effects [] masks (Piece piece)
item_effects shapes q (ImageBarrier piece layouts masks) = barrier_effects (layout_change piece layouts) masks (Piece piece)
item_effects shapes q (Release t) = barrier_effects (access t.piece (access_kinds.Release (handover_of t)) ∷ []) t.masks (Piece t.piece)
item_effects shapes q (Acquire t) = barrier_effects (acquire_accesses t) t.masks (Piece t.piece)

abbrev pub all_memory : ℕ
all_memory = bit_or memory_read memory_write

-- and by scopes at waits and signals
abbrev pub entry_effects : List Shape → Entry → Effect
entry_effects shapes (OfWait q wait) = record { accesses = []; available = 0; visible = agents_in (waiting wait.stages.0) all_memory; scope = Everywhere }
entry_effects shapes (OfItem q item) = item_effects shapes q item
entry_effects shapes (OfSignal q signal) = record { accesses = []; available = agents_in (waited_for signal.stages.0) all_memory; visible = 0; scope = Everywhere }
entry_effects shapes (OfHost piece) = host_effect piece

-- the same pieces and families
abbrev pub scoped_view : Program → View
scoped_view program = record (view_of program) { nodes = program_scopes program; effects = map (entry_effects (shapes_of program)) (entries_of program) }
