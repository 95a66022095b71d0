-- What each resource has in the submissions, looked up.
use Rattle.std.specs.Prelude.{◌≡◌, ℕ, List, ◌+◌, ◌≤◌, ◌&&◌, map, not, length, slice_index_or, Bool, false, if◌then◌else◌}
use Rattle.std.specs.List.{count_by, range_with_len}
use Rattle.frame.specs.Numbered.{NumberedFrame}
use Rattle.compile_groups.specs.Commands.{all_shapes}
use Rattle.compile_groups.specs.Groups.{sharings_in, imports_in}
use Rattle.compile_groups.specs.Needs.{is_touched}
use Rattle.compile_groups.specs.declared.grouping.Grouping.{Grouping}
use Rattle.compile_record.specs.Pieces.{resources, has_piece, has_memory, piece_of, memory_of}
use Rattle.compile_record.specs.declared.resource.Assigned.{Assigned}
use Rattle.compile_record.specs.declared.resource.Resource.{Resource}

-- a grouping of a frame has its units and queues, whatever is kept
pub record IsOf (frame : NumberedFrame) (G : Grouping) : Type 0 where
  pub shapes : G.shapes ≡ all_shapes frame
  pub sharings : G.sharings ≡ sharings_in frame
  pub imports : G.imports ≡ imports_in frame
  pub families : G.families ≡ frame.queues

-- for each unit it is told whether a command uses it
pub record AreTouched (G : Grouping) (touched : List Bool) : Type 0 where
  pub count : length touched ≡ length G.imports
  pub told : (unit : ℕ) → slice_index_or touched unit false ≡ is_touched G unit

-- it lies in the heap
abbrev pub is_placed : Grouping → ℕ → Bool
is_placed G r = has_piece G r && not (has_memory G r)

abbrev pub resource_at : Grouping → ℕ → Resource
resource_at G r = record {
  has_piece = has_piece G r;
  has_memory = has_memory G r;
  piece = piece_of G r;
  memory = memory_of G r;
  place = count_by (is_placed G) (range_with_len 0 r);
}

abbrev pub all_resources : Grouping → List Resource
all_resources G = map (resource_at G) (resources G)

-- NUMBERS GIVEN OUT

-- to the resources below number r
abbrev pub assigned_below : Grouping → ℕ → Assigned
assigned_below G r = record {
  pieces = piece_of G r;
  memories = count_by (has_memory G) (range_with_len 0 r);
  places = count_by (is_placed G) (range_with_len 0 r);
}

pub record AreFew (assigned : Assigned) : Type 0 where
  pub pieces : assigned.pieces ≤ 288
  pub memories : assigned.memories ≤ 288
  pub places : assigned.places ≤ 288

-- what the next resource gets
abbrev pub next_resource : Assigned → (has_piece has_memory : Bool) → Resource
next_resource assigned has_piece has_memory = record {
  has_piece = has_piece;
  has_memory = has_memory;
  piece = assigned.pieces;
  memory = if has_memory then 1 + assigned.memories else 0;
  place = assigned.places;
}

abbrev pub one_if : Bool → ℕ
one_if b = if b then 1 else 0

-- with that resource
abbrev pub next_assigned : Assigned → (has_piece has_memory : Bool) → Assigned
next_assigned assigned has_piece has_memory = record {
  pieces = assigned.pieces + one_if has_piece;
  memories = assigned.memories + one_if has_memory;
  places = assigned.places + one_if (has_piece && not has_memory);
}
