-- What a program that breaks no rule says of its pieces, its memories and its nodes.
use Rattle.std.proofs.Common.{◌≡◌, ℕ, zero, suc, ◌+◌, ◌%◌, ◌==◌, ◌<◌, ◌≤◌, nat_le, nat_lt, true, List, [], ◌∷◌, length, map, get_or, slice_get, Some, sym, ap, subst, ⊎_elim, arith}
use Rattle.std.specs.List.{All}
use Rattle.std.specs.Option.{option_map_or}
use Rattle.std.proofs.lemmas.Bool.{and_parts, cases_lt, leb-true, ltb-true}
use Rattle.std.proofs.lemmas.List.{get_or-map, get_or_past, length-map}
use Rattle.std.proofs.lemmas.Option.{slice_get-get_or}
use Rattle.base.specs.Maxima.{max_size}
use Rattle.base.specs.Shapes.{bytes_of}
use Rattle.device.specs.Internal.Opened.{piece_in}
use Rattle.device.specs.Internal.Syncs.{IsThere}
use Rattle.device.proofs.Starting.{Lies}
use Rattle.device_model.specs.Agents.{piece_range}
use Rattle.program.specs.Entries.{Entry, OfWait, OfItem, OfSignal, OfHost, entries_of}
use Rattle.program.specs.Limits.{memory_bytes, all_bytes}
use Rattle.program.specs.Numbers.{item_known}
use Rattle.program.specs.Obeys.{Obeys, EntryObeys, IsSmall}
use Rattle.program.specs.Ranges.{lies_in}
use Rattle.program.specs.Rules.{shapes_of}
use Rattle.program.specs.declared.program.Item as items
use Rattle.program.specs.declared.program.Item.TheVariants as items_are
use Rattle.program.specs.declared.program.Memory.{Memory}
use Rattle.program.specs.declared.program.Memory.TheVariants.{Plain}
use Rattle.program.specs.declared.program.Program.{Program}
use Rattle.program.specs.declared.rule.Rule.{Rule}
use Rattle.program.specs.declared.rule.Rule.TheVariants as rules
use Rattle.check_access.specs.Effects.{no_effect, item_effect, entry_effect}
use Rattle.check_access.specs.Views.{view_of, effect_at, no_piece}

-- each piece lies in a memory
pub lies : (program : Program) → ((rule : Rule) → Obeys rule program) → Lies program
lies program O p lt =
    let piece = piece_in program.pieces p in
    let known : piece.memory < length program.memories = ltb-true piece.memory (length program.memories) ((O rules.Known).pieces p no_piece lt) in
    let memory = get_or program.memories piece.memory (Plain 0) in
    let there : slice_get program.memories piece.memory ≡ Some memory = slice_get-get_or program.memories piece.memory (Plain 0) known in
    let inside : lies_in piece memory ≡ true = subst (λ o. option_map_or (lies_in piece) o true ≡ true) there ((O rules.Range).pieces p no_piece lt) in
    let fits = leb-true (piece.offset + bytes_of piece.shape) (memory_bytes memory) (and_parts (piece.offset % 256 == 0) (nat_le (piece.offset + bytes_of piece.shape) (memory_bytes memory)) inside).1 in
    (known, subst (λ o. piece.offset + bytes_of piece.shape ≤ option_map_or memory_bytes o 0) (sym there) fits)

-- and is no longer than 16 MiB
pub piece_small : (program : Program) → IsSmall program → (p : ℕ) → p < length program.pieces → (piece_range (view_of program) p).len ≤ 16777216
piece_small program S p lt =
    let piece = piece_in program.pieces p in
    leb-true (bytes_of piece.shape) max_size (and_parts (nat_le 1 (bytes_of piece.shape)) (nat_le (bytes_of piece.shape) max_size) (S.sizes p no_piece lt)).1

one_of_all : (memories : List Memory) (m : ℕ) (memory : Memory) → slice_get memories m ≡ Some memory → memory_bytes memory ≤ all_bytes memories
one_of_all [] m memory e = cc
one_of_all (first ∷ rest) zero memory e = let same : first ≡ memory = cc in omega (arith, ap memory_bytes same)
one_of_all (first ∷ rest) (suc m) memory e = omega (arith, one_of_all rest m memory e)

-- no memory is larger than all of them may be together
pub memory_small : (program : Program) → IsSmall program → (m : ℕ) → m < length program.memories → memory_bytes (get_or program.memories m (Plain 0)) ≤ 805306368
memory_small program S m lt = omega (arith, S.bytes, one_of_all program.memories m (get_or program.memories m (Plain 0)) (slice_get-get_or program.memories m (Plain 0) lt))

-- NODES

pub within_shapes : (program : Program) (p : ℕ) → nat_lt p (length (shapes_of program)) ≡ true → p < length program.pieces
within_shapes program p e = omega (arith, ltb-true p (length (shapes_of program)) e, length-map program.pieces (λ piece. piece.shape))

item_there : (program : Program) (q : ℕ) (item : items.Item) → item_known (shapes_of program) item ≡ true → IsThere (view_of program) (item_effect (shapes_of program) q item).scope
item_there program q (items_are.Command op) e = tt
item_there program q (items_are.Global masks) e = tt
item_there program q (items_are.BufferBarrier p masks) e = within_shapes program p e
item_there program q (items_are.ImageBarrier p layouts masks) e = within_shapes program p e
item_there program q (items_are.Release t) e = within_shapes program t.piece e
item_there program q (items_are.Acquire t) e = within_shapes program t.piece e

entry_there : (program : Program) (entry : Entry) → EntryObeys rules.Known program entry → IsThere (view_of program) (entry_effect (shapes_of program) entry).scope
entry_there program (OfWait q wait) h = tt
entry_there program (OfItem q item) h = item_there program q item h.2
entry_there program (OfSignal q signal) h = tt
entry_there program (OfHost piece) h = tt

-- a node works in memory that is there
pub scope_there : (program : Program) → ((rule : Rule) → All (EntryObeys rule program) (entries_of program)) → (n : ℕ) → IsThere (view_of program) (effect_at (view_of program) n).scope
scope_there program obeys n = ⊎_elim
    (λ (lt : n < length (entries_of program)).
    subst (λ e. IsThere (view_of program) e.scope) (sym (get_or-map (entry_effect (shapes_of program)) (entries_of program) n (OfHost 0) no_effect lt)) (entry_there program (get_or (entries_of program) n (OfHost 0)) (obeys rules.Known n (OfHost 0) lt)))
    (λ (ge : length (entries_of program) ≤ n).
    subst (λ e. IsThere (view_of program) e.scope) (sym (get_or_past (map (entry_effect (shapes_of program)) (entries_of program)) n no_effect (omega (arith, ge, length-map (entries_of program) (entry_effect (shapes_of program)))))) tt)
    (cases_lt n (length (entries_of program)))
