-- Worked rows: what the definitions come to on written-out operations, barriers and pieces. Agents are bits: 1 samples and 2
-- reads buffers in kernels, 4 stores there; 8 reads and 16 stores attachments; 32 reads and 64 stores in copies, 128 stores in
-- clears; 256 is the host.
use Rattle.std.proofs.Common.{◌≡◌, ℕ, List, [], ◌∷◌, true, false, Some, None, refl}
use Rattle.base.specs.declared.op.Fun.TheVariants.{Add}
use Rattle.base.specs.declared.op.Op.TheVariants.{FillBuffer, CopyBuffer, Map, Select, Draw}
use Rattle.base.specs.declared.shape.Family.TheVariants.{Graphics, Compute}
use Rattle.base.specs.declared.shape.Shape.{Shape}
use Rattle.base.specs.declared.shape.Shape.TheVariants.{Buffer, Image}
use Rattle.base.specs.declared.shape.Texel.TheVariants.{R32}
use Rattle.vk.specs.Accesses.{transfer_read, transfer_write}
use Rattle.vk.specs.Stages.{all_commands, copy, clear}
use Rattle.vk.specs.declared.layout.Layout.{Layout}
use Rattle.vk.specs.declared.layout.Layout.TheVariants.{Undefined, General, ColorAttachment, ShaderReadOnly, TransferSrc}
use Rattle.vk.specs.declared.layout.Layouts.{Layouts}
use Rattle.vk.specs.declared.masks.Masks.{Masks}
use Rattle.vk.specs.declared.sharing.Sharing.TheVariants.{Exclusive}
use Rattle.program.specs.declared.program.Item.TheVariants as items
use Rattle.program.specs.declared.program.Piece.{Piece}
use Rattle.program.specs.declared.program.Transfer.{Transfer}
use Rattle.check_access.specs.Effects.{access, command_accesses, layout_change, handover_of, acquire_accesses, item_effect, all_agents}
use Rattle.check_access.specs.Views.{View, pieces_overlap, clash}
use Rattle.check_access.specs.declared.access.Access.{Access}
use Rattle.check_access.specs.declared.access.Agent.TheVariants.{Of}
use Rattle.check_access.specs.declared.access.AccessKind.TheVariants.{Load, Store, Transition, Discard, Release, Acquire}
use Rattle.check_access.specs.declared.effect.Scope.TheVariants.{Everywhere}
use Rattle.check_access.specs.declared.effect.Effect.{Effect}

-- COMMANDS

abbrev buffers : List Shape
buffers = Buffer 16 ∷ Buffer 16 ∷ []

abbrev image : Shape
image = Image 4 4 R32

abbrev images : List Shape
images = image ∷ image ∷ image ∷ image ∷ []

whole_copy : command_accesses buffers 0 (CopyBuffer 0 1 0 0 16) ≡ access 0 (Load (Of 0 32) None) ∷ access 1 (Store (Of 0 64) None) ∷ []
whole_copy = refl

-- it leaves old bytes, and so loads them
fill_of_a_part : command_accesses buffers 3 (FillBuffer 0 4 8 7) ≡ access 0 (Load (Of 3 128) None) ∷ access 0 (Store (Of 3 128) None) ∷ []
fill_of_a_part = refl

draw_that_clears : command_accesses images 0 (Draw 2 (Some 5) []) ≡ access 2 (Store (Of 0 16) (Some ColorAttachment)) ∷ []
draw_that_clears = refl

draw_on_old_texels : command_accesses images 0 (Draw 2 None []) ≡ access 2 (Load (Of 0 8) (Some ColorAttachment)) ∷ access 2 (Store (Of 0 16) (Some ColorAttachment)) ∷ []
draw_on_old_texels = refl

-- an image is sampled, and a buffer is read as storage
map_of_an_image : command_accesses images 0 (Map 0 1 Add 1) ≡ access 0 (Load (Of 0 1) (Some ShaderReadOnly)) ∷ access 1 (Store (Of 0 4) (Some General)) ∷ []
map_of_an_image = refl

map_of_a_buffer : command_accesses buffers 0 (Map 0 1 Add 1) ≡ access 0 (Load (Of 0 2) None) ∷ access 1 (Store (Of 0 4) None) ∷ []
map_of_a_buffer = refl

select_of_three : command_accesses images 1 (Select 0 1 2 3) ≡ access 0 (Load (Of 1 1) (Some ShaderReadOnly)) ∷ access 1 (Load (Of 1 1) (Some ShaderReadOnly)) ∷ access 2 (Load (Of 1 1) (Some ShaderReadOnly)) ∷ access 3 (Store (Of 1 4) (Some General)) ∷ []
select_of_three = refl

-- BARRIERS

abbrev between : Layout → Layout → Layouts
between from to = record { from = from; to = to }

out_of_undefined : layout_change 3 (between Undefined General) ≡ access 3 (Discard General) ∷ []
out_of_undefined = refl

same_layouts : layout_change 3 (between General General) ≡ []
same_layouts = refl

other_layout : layout_change 3 (between General TransferSrc) ≡ access 3 (Transition (between General TransferSrc)) ∷ []
other_layout = refl

-- from clears to copies
abbrev cleared : Masks
cleared = record { src_stages = record { 0 = clear }; src_accesses = record { 0 = transfer_write }; dst_stages = record { 0 = copy }; dst_accesses = record { 0 = transfer_read } }

abbrev handed : Layout → Layout → Transfer
handed from to = record { piece = 2; from_family = Compute; to_family = Graphics; layouts = Some (between from to); masks = cleared }

abbrev handed_buffer : Transfer
handed_buffer = record { piece = 2; from_family = Compute; to_family = Graphics; layouts = None; masks = cleared }

-- the transition is made by the acquire
release_alone : (item_effect images 0 (items.Release (handed General ShaderReadOnly))).accesses ≡ access 2 (Release (handover_of (handed General ShaderReadOnly))) ∷ []
release_alone = refl

acquire_with_a_transition : acquire_accesses (handed General ShaderReadOnly) ≡ access 2 (Transition (between General ShaderReadOnly)) ∷ access 2 (Acquire (handover_of (handed General ShaderReadOnly))) ∷ []
acquire_with_a_transition = refl

acquire_without : acquire_accesses (handed General General) ≡ access 2 (Acquire (handover_of (handed General General))) ∷ []
acquire_without = refl

acquire_of_a_buffer : acquire_accesses handed_buffer ≡ access 2 (Acquire (handover_of handed_buffer)) ∷ []
acquire_of_a_buffer = refl

abbrev only_clears : Effect
only_clears = record { accesses = []; available = 128; visible = 32; scope = Everywhere }

global_barrier : item_effect buffers 0 (items.Global cleared) ≡ only_clears
global_barrier = refl

-- all but the host
agents_of_all_commands : all_agents all_commands ≡ 255
agents_of_all_commands = refl

-- PIECES

abbrev piece : ℕ → ℕ → ℕ → Piece
piece memory offset size = record { shape = Buffer size; memory = memory; offset = offset; sharing = Exclusive }

side_by_side : pieces_overlap (piece 0 0 256) (piece 0 256 16) ≡ false
side_by_side = refl

one_common_byte : pieces_overlap (piece 0 256 16) (piece 0 0 257) ≡ true
one_common_byte = refl

other_memories : pieces_overlap (piece 0 0 16) (piece 1 0 16) ≡ false
other_memories = refl

-- CLASHES

-- pieces 0 and 1 are the same bytes
abbrev aliased : View
aliased = record { nodes = []; effects = []; pieces = piece 0 0 16 ∷ piece 0 0 16 ∷ []; imported = []; families = [] }

abbrev loaded : ℕ → Access
loaded p = access p (Load (Of 0 32) None)

abbrev stored : ℕ → Access
stored p = access p (Store (Of 0 64) None)

abbrev given : ℕ → Access
given p = access p (Release (handover_of handed_buffer))

two_loads : clash aliased (loaded 0) (loaded 0) ≡ false
two_loads = refl

load_and_store : clash aliased (loaded 0) (stored 1) ≡ true
load_and_store = refl

transfer_and_load : clash aliased (given 0) (loaded 0) ≡ true
transfer_and_load = refl

-- a transfer is of its own piece, whatever else has its bytes
transfer_and_other_piece : clash aliased (given 0) (loaded 1) ≡ false
transfer_and_other_piece = refl
