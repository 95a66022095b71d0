-- What is recorded for each command, one after another.
use Rattle.std.specs.Prelude.{ℕ, suc, List, [], ◌∷◌, ◌++◌, ◌==◌, ◌&&◌, map, Bool, Option, Some, None, if◌then◌else◌}
use Rattle.std.specs.List.{filter, flat_map}
use Rattle.base.specs.Operands.{mapped, destination_of}
use Rattle.compile_groups.specs.Needs.{group_at, goes_on, uses_at}
use Rattle.compile_groups.specs.declared.command.Command.{Command}
use Rattle.compile_groups.specs.declared.grouping.Grouping.{Grouping}
use Rattle.compile_groups.specs.declared.unit_use.Use.{Use}
use Rattle.compile_record.specs.Items.{prologue_items, release_item}
use Rattle.compile_record.specs.Pieces.{piece_of}
use Rattle.compile_record.specs.Wanted.{wanted_first, wanted_further, wanted_release}
use Rattle.compile_record.specs.declared.mark.Mark.{Mark}
use Rattle.compile_record.specs.declared.mark.Mark.TheVariants as marks
use Rattle.compile_record.specs.declared.mark.Marked.{Marked}
use Rattle.compile_record.specs.declared.mark.Marked.TheVariants.{Does, Needs}
use Rattle.program.specs.declared.program.Item.TheVariants as item
use Rattle.compile_barriers.specs.Masks.{host_masks}
use Rattle.compile_barriers.specs.Prologues.{prologue_of, earlier, first, last, is_transfer}
use Rattle.compile_barriers.specs.Under.{Heap}
use Rattle.compile_barriers.specs.Unions.{on}

abbrev pub is_command : ℕ → Use → Bool
is_command c u = u.command == c

-- BEFORE A COMMAND

-- the first member of a group brings what stands before it; the first one on another queue needs that
abbrev pub use_needs : Grouping → Heap → ℕ → ℕ → ℕ → List Mark
use_needs G heap q c g =
    if is_command c (first (group_at G g)) then wanted_first G (prologue_of G heap g) (earlier G g)
    else if is_command c (first (on q (group_at G g))) then wanted_further (prologue_of G heap g)
    else []

abbrev pub use_prologues : Grouping → Heap → ℕ → ℕ → List Marked
use_prologues G heap c g = if is_command c (first (group_at G g)) then prologue_items G (prologue_of G heap g) (earlier G g) (group_at G g) else []

-- AFTER A COMMAND

-- the next group of the unit is of another family
abbrev pub is_released : Grouping → Heap → ℕ → Bool
is_released G heap g = goes_on G g && is_transfer (prologue_of G heap (suc g)).kind

-- the last member of a group brings the release after it
abbrev pub use_releases : Grouping → Heap → ℕ → ℕ → ℕ → List Marked
use_releases G heap q c g =
    let A = group_at G g in
    if is_command c (last A) && is_released G heap g then map (Needs q) (wanted_release G A) ++ release_item G g A (group_at G (suc g)) ∷ [] else []

-- the host may read the copy of an export
abbrev pub host_barrier : Grouping → Command → Option ℕ → List Marked
host_barrier G command None = []
host_barrier G command (Some k) = Does command.queue None (item.BufferBarrier (piece_of G (destination_of command.op)) host_masks) ∷ []

-- ONE COMMAND

-- the groups of its uses, in the order of operands
abbrev pub groups_used : Grouping → ℕ → List ℕ
groups_used G c = map (λ u. u.group) (filter (λ u. u.command == c) (uses_at G))

abbrev pub does_command : Grouping → ℕ → Command → Marked
does_command G c command = Does command.queue (Some (marks.Command c)) (item.Command (mapped (piece_of G) command.op))

abbrev pub block : Grouping → Heap → ℕ → Command → List Marked
block G heap c command =
    map (Needs command.queue) (flat_map (use_needs G heap command.queue c) (groups_used G c))
    ++ flat_map (use_prologues G heap c) (groups_used G c)
    ++ does_command G c command
    ∷ flat_map (use_releases G heap command.queue c) (groups_used G c)
    ++ host_barrier G command command.export

-- ALL COMMANDS

-- from number c on
abbrev pub blocks : Grouping → Heap → ℕ → List Command → List Marked
blocks G heap c [] = []
blocks G heap c (command ∷ rest) = block G heap c command ++ blocks G heap (suc c) rest

abbrev pub script : Grouping → Heap → List Marked
script G heap = blocks G heap 0 G.commands
