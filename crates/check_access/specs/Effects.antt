-- What each node of a program does to memory.
use Rattle.std.specs.Prelude.{ℕ, List, [], ◌∷◌, ◌++◌, ◌==◌, ◌||◌, Bool, None, if◌then◌else◌}
use Rattle.std.specs.Int.RustNames.{bit_or}
use Rattle.std.specs.List.{flat_map}
use Rattle.std.specs.Option.{option_map_or}
use Rattle.base.specs.Shapes.{shape_at}
use Rattle.base.specs.Touches.{touches_of}
use Rattle.base.specs.declared.op.Op.{Op}
use Rattle.base.specs.declared.role.Role.{Role}
use Rattle.base.specs.declared.shape.Shape.{Shape}
use Rattle.base.specs.declared.touch.Touch.{Touch}
use Rattle.vk.specs.Accesses.{memory_read, memory_write}
use Rattle.vk.specs.Agents.{agents}
use Rattle.vk.specs.Layouts.{layout_number, is_undefined}
use Rattle.vk.specs.Roles.{role_stage, load_access, store_access, layout_wanted}
use Rattle.vk.specs.declared.layout.Layouts.{Layouts}
use Rattle.vk.specs.declared.masks.Masks.{Masks}
use Rattle.program.specs.Entries.{Entry, OfWait, OfItem, OfSignal, OfHost}
use Rattle.program.specs.declared.program.Item.{Item}
use Rattle.program.specs.declared.program.Item.TheVariants.{Command, Global, BufferBarrier, ImageBarrier, Release, Acquire}
use Rattle.program.specs.declared.program.Signal.{Signal}
use Rattle.program.specs.declared.program.Transfer.{Transfer}
use Rattle.program.specs.declared.program.WaitFor.{WaitFor}
use Rattle.check_access.specs.declared.access.Access.{Access}
use Rattle.check_access.specs.declared.access.Agent.{Agent}
use Rattle.check_access.specs.declared.access.Agent.TheVariants as agent
use Rattle.check_access.specs.declared.access.AccessKind.{AccessKind}
use Rattle.check_access.specs.declared.access.AccessKind.TheVariants as access_kinds
use Rattle.check_access.specs.declared.access.Handover.{Handover}
use Rattle.check_access.specs.declared.effect.Scope.{Scope}
use Rattle.check_access.specs.declared.effect.Scope.TheVariants.{Everywhere, Piece}
use Rattle.check_access.specs.declared.effect.Effect.{Effect}

abbrev pub access : ℕ → AccessKind → Access
access piece kind = record { piece = piece; kind = kind }

-- ACCESSES OF COMMANDS

-- the agent of a queue that makes such an access in the stage of the role
abbrev pub role_agent : ℕ → Role → ℕ → Agent
role_agent q role kind = agent.Of q (agents (role_stage role) kind)

abbrev pub touch_load : List Shape → ℕ → Touch → ℕ → List Access
touch_load shapes q touch kind = access touch.what (access_kinds.Load (role_agent q touch.role kind) (layout_wanted (shape_at shapes touch.what) touch.role)) ∷ []

abbrev pub touch_store : List Shape → ℕ → Touch → ℕ → List Access
touch_store shapes q touch kind = access touch.what (access_kinds.Store (role_agent q touch.role kind) (layout_wanted (shape_at shapes touch.what) touch.role)) ∷ []

-- a load, and then a store
abbrev pub touch_accesses : List Shape → ℕ → Touch → List Access
touch_accesses shapes q touch =
    option_map_or (touch_load shapes q touch) (load_access touch.role touch.whole) []
    ++ option_map_or (touch_store shapes q touch) (store_access touch.role) []

-- operand by operand
abbrev pub command_accesses : List Shape → ℕ → Op ℕ → List Access
command_accesses shapes q op = flat_map (touch_accesses shapes q) (touches_of shapes op)

-- ACCESSES OF BARRIERS

abbrev pub same_layout : Layouts → Bool
same_layout layouts = layout_number layouts.from == layout_number layouts.to

-- where the layouts differ and the old one is known, the texels are kept
abbrev pub transition_through : ℕ → Layouts → List Access
transition_through piece layouts = if is_undefined layouts.from || same_layout layouts then [] else access piece (access_kinds.Transition layouts) ∷ []

-- out of UNDEFINED they are let go
abbrev pub layout_change : ℕ → Layouts → List Access
layout_change piece layouts = if is_undefined layouts.from then access piece (access_kinds.Discard layouts.to) ∷ [] else transition_through piece layouts

abbrev pub handover_of : Transfer → Handover
handover_of t = record { from = t.from_family; to = t.to_family; layouts = t.layouts }

-- an acquire makes an image's transition, if there is one
abbrev pub acquire_accesses : Transfer → List Access
acquire_accesses t = option_map_or (transition_through t.piece) t.layouts [] ++ access t.piece (access_kinds.Acquire (handover_of t)) ∷ []

-- EFFECTS OF NODES

-- accesses alone
abbrev pub plain_effect : List Access → Effect
plain_effect accesses = record { accesses = accesses; available = 0; visible = 0; scope = Everywhere }

-- of a number that no node has
abbrev pub no_effect : Effect
no_effect = plain_effect []

abbrev pub barrier_effect : List Access → Masks → Scope → Effect
barrier_effect accesses masks scope = record {
  accesses = accesses;
  available = agents masks.src_stages.0 masks.src_accesses.0;
  visible = agents masks.dst_stages.0 masks.dst_accesses.0;
  scope = scope;
}

abbrev pub item_effect : List Shape → ℕ → Item → Effect
item_effect shapes q (Command op) = plain_effect (command_accesses shapes q op)
item_effect shapes q (Global masks) = barrier_effect [] masks Everywhere
item_effect shapes q (BufferBarrier piece masks) = barrier_effect [] masks (Piece piece)
item_effect shapes q (ImageBarrier piece layouts masks) = barrier_effect (layout_change piece layouts) masks (Piece piece)
item_effect shapes q (Release t) = barrier_effect (access t.piece (access_kinds.Release (handover_of t)) ∷ []) t.masks (Piece t.piece)
item_effect shapes q (Acquire t) = barrier_effect (acquire_accesses t) t.masks (Piece t.piece)

-- every agent of these stages
abbrev pub all_agents : ℕ → ℕ
all_agents stages = agents stages (bit_or memory_read memory_write)

-- a wait makes memory visible
abbrev pub wait_effect : WaitFor → Effect
wait_effect wait = record { accesses = []; available = 0; visible = all_agents wait.stages.0; scope = Everywhere }

-- a signal makes memory available
abbrev pub signal_effect : Signal → Effect
signal_effect signal = record { accesses = []; available = all_agents signal.stages.0; visible = 0; scope = Everywhere }

abbrev pub host_effect : ℕ → Effect
host_effect piece = plain_effect (access piece (access_kinds.Load agent.Host None) ∷ [])

-- OF EACH NODE

abbrev pub entry_effect : List Shape → Entry → Effect
entry_effect shapes (OfWait q wait) = wait_effect wait
entry_effect shapes (OfItem q item) = item_effect shapes q item
entry_effect shapes (OfSignal q signal) = signal_effect signal
entry_effect shapes (OfHost piece) = host_effect piece
