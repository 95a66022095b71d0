-- The item for each reason, with its masks: a row each. A are the uses before it and B those after it, on queue q.
use Rattle.std.specs.Prelude.{ℕ, List, Option, Some, None, if◌then◌else◌}
use Rattle.std.specs.Int.RustNames.{bit_or}
use Rattle.base.specs.Operands.{mapped, destination_of}
use Rattle.vk.specs.Accesses.{transfer_write, host_read}
use Rattle.vk.specs.Stages.{copy, host}
use Rattle.vk.specs.declared.layout.Layout.{Layout}
use Rattle.vk.specs.declared.layout.Layout.TheVariants.{Undefined}
use Rattle.vk.specs.declared.layout.Layouts.{Layouts}
use Rattle.vk.specs.declared.masks.Masks.{Masks}
use Rattle.compile_barriers.specs.Prologues.{first, last}
use Rattle.compile_barriers.specs.Under.{Heap}
use Rattle.compile_barriers.specs.Unions.{stages_on, accesses_on, writes_on, is_elsewhere}
use Rattle.compile_groups.specs.Groups.{family_of}
use Rattle.compile_groups.specs.Needs.{group_at}
use Rattle.compile_groups.specs.declared.grouping.Grouping.{Grouping}
use Rattle.compile_groups.specs.declared.unit_use.Use.{Use}
use Rattle.compile_record.specs.Pieces.{piece_of}
use Rattle.law_record.specs.Reasons.{Reason, Runs, Turn, Release, Acquire, Alias, Discard, Shows, next_group, same_bytes, queue_for}
use Rattle.program.specs.declared.program.Item.{Item}
use Rattle.program.specs.declared.program.Item.TheVariants as item
use Rattle.program.specs.declared.program.Transfer.{Transfer}

-- MASKS

-- source stages and accesses, then destination stages and accesses
abbrev pub four : ℕ → ℕ → ℕ → ℕ → Masks
four from_stages from_accesses to_stages to_accesses = record {
  src_stages = record { 0 = from_stages };
  src_accesses = record { 0 = from_accesses };
  dst_stages = record { 0 = to_stages };
  dst_accesses = record { 0 = to_accesses };
}

-- of a turn within a family and of an alias barrier: where A has a member on another queue, B's stages are source stages too
abbrev pub turn_masks : List Use → List Use → ℕ → Masks
turn_masks A B q = four (bit_or (stages_on A q) (if is_elsewhere A q then stages_on B q else 0)) (writes_on A q) (stages_on B q) (accesses_on B q)

-- of a release
abbrev pub leave_masks : List Use → ℕ → Masks
leave_masks A q = four (stages_on A q) (writes_on A q) (stages_on A q) 0

-- of an acquire and of a barrier from UNDEFINED
abbrev pub enter_masks : List Use → ℕ → Masks
enter_masks B q = four (stages_on B q) 0 (stages_on B q) (accesses_on B q)

-- ITEMS

-- an image has both layouts, a buffer has none
abbrev pub pair : Option Layout → Option Layout → Option Layouts
pair (Some from) (Some to) = Some (record { from = from; to = to })
pair (Some from) None = None
pair None (Some to) = None
pair None None = None

-- a barrier on one piece
abbrev pub on_piece : ℕ → Option Layouts → Masks → Item
on_piece piece (Some layouts) masks = item.ImageBarrier piece layouts masks
on_piece piece None masks = item.BufferBarrier piece masks

-- of a unit's piece, from the family and layout of the last member of A to those of the first member of B
abbrev pub hand_over : Grouping → List Use → List Use → Masks → Transfer
hand_over G A B masks = record {
  piece = piece_of G (first B).unit;
  from_family = family_of G.families (last A).queue;
  to_family = family_of G.families (first B).queue;
  layouts = pair (last A).layout (first B).layout;
  masks = masks;
}

abbrev pub item_for : Grouping → Heap → Reason → Item
item_for G heap (Runs c command) = item.Command (mapped (piece_of G) command.op)
item_for G heap (Turn g) = on_piece (piece_of G (first (next_group G g)).unit) (pair (last (group_at G g)).layout (first (next_group G g)).layout) (turn_masks (group_at G g) (next_group G g) (queue_for G (Turn g)))
item_for G heap (Release g) = item.Release (hand_over G (group_at G g) (next_group G g) (leave_masks (group_at G g) (queue_for G (Release g))))
item_for G heap (Acquire g) = item.Acquire (hand_over G (group_at G g) (next_group G g) (enter_masks (next_group G g) (queue_for G (Acquire g))))
item_for G heap (Alias g) = item.Global (turn_masks (same_bytes G heap g) (group_at G g) (queue_for G (Alias g)))
item_for G heap (Discard g) = on_piece (piece_of G (first (group_at G g)).unit) (pair (Some Undefined) (first (group_at G g)).layout) (enter_masks (group_at G g) (queue_for G (Discard g)))
item_for G heap (Shows c command) = item.BufferBarrier (piece_of G (destination_of command.op)) (four copy transfer_write host host_read)
