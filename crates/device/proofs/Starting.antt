-- A device as it is opened.
use Rattle.std.proofs.Common.{◌≡◌, ℕ, ◌+◌, ◌*◌, ◌/◌, ◌%◌, ◌^◌, ◌<◌, ◌≤◌, true, List, [], ◌∷◌, length, map, get_or, slice_get, Option, Some, None, refl, sym, ap, ◌∙◌, subst, ⊎_elim, arith}
use Rattle.std.specs.Prelude.{slice_index, slice_index_or, replicate}
use Rattle.std.specs.List.{All, sum_by}
use Rattle.std.specs.Option.{option_map_or}
use Rattle.std.proofs.lemmas.Bool.{false≢true, cases_lt, cases_eq}
use Rattle.std.proofs.lemmas.List.{get_or_default, get_or_past, get_or-map, get_or-replicate, length-map, length-replicate}
use Rattle.std.proofs.lemmas.List.Sums.{sum_by-cons}
use Rattle.std.proofs.lemmas.Option.{slice_get-get_or, slice_get_past, slice_get_within, get_or_from_slice_get}
use Rattle.base.specs.Shapes.{bytes_of}
use Rattle.device_cache.specs.Effects.{Caches}
use Rattle.device_cache.specs.Effects as effects
use Rattle.device_cache.specs.Tables.{Table, is_cut, slot_at, caches_of, size_of, IsMade}
use Rattle.device_nodes.specs.Controls.{Control, Agrees}
use Rattle.device.specs.Internal.Loads.{HasPending, pending_at}
use Rattle.device.specs.Internal.Opened.{opened_memory, room_of, piece_in, piece_end, HasCuts}
use Rattle.device.specs.Internal.Fields.{HasState, HasRoom, node_count}
use Rattle.device.specs.declared.pending.Pending.{Pending}
use Rattle.device.specs.Internal.Tables.{memory_size, FitsProgram, HasBytes}
use Rattle.device.proofs.Fitting.{none_missing}
use Rattle.device.proofs.Lefts.{first_events, first_stores}
use Rattle.device_model.specs.Devices.{opening, opening_byte}
use Rattle.device_model.specs.States.{opened}
use Rattle.program.specs.Limits.{memory_bytes, all_bytes}
use Rattle.program.specs.declared.program.Memory.{Memory}
use Rattle.program.specs.declared.program.Memory.TheVariants.{Plain, Import}
use Rattle.program.specs.declared.program.Program.{Program}
use Rattle.check_access.specs.Views.{view_of, piece_at}

opened_long : (fill : ℕ) (memory : Memory) → length (opened_memory fill memory) ≡ memory_bytes memory
opened_long fill (Plain size) = length-replicate size fill
opened_long fill (Import bytes) = refl

-- all memories together
pub opened_sum : (fill : ℕ) (memories : List Memory) → sum_by length (map (opened_memory fill) memories) ≡ all_bytes memories
opened_sum fill [] = refl
opened_sum fill (memory ∷ rest) = sum_by-cons length (opened_memory fill memory) (map (opened_memory fill) rest) ∙ omega (arith, opened_long fill memory, opened_sum fill rest)

-- each memory has as many bytes as it says
pub opened_size : (program : Program) (fill m : ℕ) → length (slot_at (map (opened_memory fill) program.memories) m) ≡ memory_size program m
opened_size program fill m = ⊎_elim
    (λ (lt : m < length program.memories).
    ap length (get_or-map (opened_memory fill) program.memories m (Plain 0) [] lt) ∙ opened_long fill (get_or program.memories m (Plain 0))
    ∙ sym (ap (λ o. option_map_or memory_bytes o 0) (slice_get-get_or program.memories m (Plain 0) lt)))
    (λ (ge : length program.memories ≤ m).
    ap length (get_or_past (map (opened_memory fill) program.memories) m [] (omega (arith, ge, length-map program.memories (opened_memory fill))))
    ∙ sym (ap (λ o. option_map_or memory_bytes o 0) (slice_get_past program.memories m ge)))
    (cases_lt m (length program.memories))

opened_byte : (fill i : ℕ) (memory : Memory) → i < memory_bytes memory → slice_index (opened_memory fill memory) i ≡ opening_byte fill i memory
opened_byte fill i (Plain size) lt = get_or-replicate size i fill 0 lt
opened_byte fill i (Import bytes) lt = get_or_default bytes i 0 fill lt

-- the table has the opening bytes, and no lines
pub opens_with : (program : Program) (fill : ℕ) (c : Caches) → c ≡ effects.opened (map (opened_memory fill) program.memories) → HasBytes program c (opened (opening program fill))
opens_with program fill c is = subst (λ c. HasBytes program c (opened (opening program fill))) (sym is) (record { main = main; line = λ g m i. refl })
  where
    main : (m i : ℕ) → i < memory_size program m → slice_index (slice_index_or (map (opened_memory fill) program.memories) m []) i ≡ opening program fill m i
    main m i lt = ⊎_elim
        (λ (in_list : m < length program.memories).
        let memory = get_or program.memories m (Plain 0) in
        let there : slice_get program.memories m ≡ Some memory = slice_get-get_or program.memories m (Plain 0) in_list in
        let inside : i < memory_bytes memory = subst (λ o. i < option_map_or memory_bytes o 0) there lt in
        ap (λ l. slice_index l i) (get_or-map (opened_memory fill) program.memories m (Plain 0) [] in_list)
        ∙ opened_byte fill i memory inside ∙ sym (ap (λ o. option_map_or (opening_byte fill i) o fill) there))
        (λ (ge : length program.memories ≤ m). absurd (omega (arith, lt, ap (λ o. option_map_or memory_bytes o 0) (slice_get_past program.memories m ge))))
        (cases_lt m (length program.memories))

-- CUTS

-- each piece lies in its memory
abbrev pub Lies : Program → Type 0
Lies program = (p : ℕ) → p < length program.pieces → ((piece_in program.pieces p).memory < length program.memories) × (piece_end (piece_in program.pieces p) ≤ memory_size program (piece_in program.pieces p).memory)

module _ (program : Program) (fill : ℕ) (cuts : List (ℕ × ℕ)) (C : HasCuts program.pieces (length program.pieces) cuts) (L : Lies program) where
  abbrev P : ℕ × ℕ → Type 0
  P c = (c.0 < length program.memories) × (c.1 ≤ memory_size program c.0)

  even : (n : ℕ) → n < length program.pieces → P (slice_index_or cuts (2 * n) (0, 0))
  even n lt = let l = L n lt in subst P (sym (C.starts n lt)) (l.0, omega (arith, l.1))

  odd : (n : ℕ) → n < length program.pieces → P (slice_index_or cuts (2 * n + 1) (0, 0))
  odd n lt = subst P (sym (C.ends n lt)) (L n lt)

  -- each cut lies in its memory
  pub cuts_within : (k : ℕ) (d : ℕ × ℕ) → k < length cuts → ((slice_index_or cuts k d).0 < length program.memories) × ((slice_index_or cuts k d).1 ≤ memory_size program (slice_index_or cuts k d).0)
  cuts_within k d lt =
      let n = k / 2 in
      let inside : n < length program.pieces = omega (arith, lt, C.many) in
      let Q : ℕ → Type 0 = λ j. P (slice_index_or cuts j (0, 0)) in
      subst P (get_or_default cuts k (0, 0) d lt) (⊎_elim
      (λ (e : k % 2 ≡ 0). let is : 2 * n ≡ k = omega (arith, e) in subst Q is (even n inside))
      (λ ne. let is : 2 * n + 1 ≡ k = omega (arith, ne) in subst Q is (odd n inside))
      (cases_eq (k % 2) 0))

  -- the table that is made of all that is the program's
  pub opens_fitting : (t : Table) (junk : List ℕ) → IsMade t (8 * length program.queues) (map (opened_memory fill) program.memories) junk → All (λ c. is_cut t c.0 c.1 ≡ true) cuts → ((k : ℕ) → k < length junk → slice_index junk k ≡ fill) → ((p : ℕ) → p < length program.pieces → bytes_of (piece_in program.pieces p).shape ≤ length junk) → ((p : ℕ) → p < length program.pieces → bytes_of (piece_in program.pieces p).shape < 2 ^ 32) → FitsProgram t program fill
  opens_fitting t junk M A same long short =
      let R : ℕ × ℕ → Type 0 = λ c. is_cut t c.0 c.1 ≡ true in
      let sizes : (m : ℕ) → size_of t m ≡ memory_size program m = λ m. M.sizes m ∙ opened_size program fill m in
      let many : length (map (opened_memory fill) program.memories) ≡ length program.memories = length-map program.memories (opened_memory fill) in
      record {
        agents = M.agents;
        memories = M.memories ∙ many;
        sizes = sizes;
        cuts = record {
          pieces = λ p lt.
              let piece = piece_in program.pieces p in
              let l = L p lt in
              record {
                within = record { there = omega (arith, l.0, M.memories, many); within = omega (arith, l.1, sizes piece.memory) };
                cut = none_missing t piece.memory piece.offset (bytes_of piece.shape) (subst R (C.starts p lt) (A (2 * p) (0, 0) (omega (arith, lt, C.many)))) (subst R (C.ends p lt) (A (2 * p + 1) (0, 0) (omega (arith, lt, C.many))));
              };
          junk = λ p lt. subst (λ junk. bytes_of (piece_in program.pieces p).shape ≤ length junk) (sym M.junk) (long p lt);
          short = short;
        };
        junk = subst (λ (junk : List ℕ). (k : ℕ) → k < length junk → slice_index junk k ≡ fill) (sym M.junk) same;
      }

-- THE FIELDS

abbrev none_pending : ℕ → List (Option Pending)
none_pending count = replicate count None

pub none_at : (count n : ℕ) → pending_at (replicate count None) n ≡ None
none_at count n =
    let many : length (none_pending count) ≡ count = length-replicate count None in
    ⊎_elim
    (λ (lt : n < count). get_or-replicate count n None None lt)
    (λ (ge : count ≤ n). get_or_past (none_pending count) n None (omega (arith, ge, many)))
    (cases_lt n count)

-- nothing is pending, nothing has been read, and all is still to come
pub opens_state : (program : Program) (fill : ℕ) (control : Control) (table : Table) (pending : List (Option Pending)) (reads : List (List ℕ)) → Agrees control (opened (opening program fill)) → caches_of table ≡ effects.opened (map (opened_memory fill) program.memories) → ((n : ℕ) → pending_at pending n ≡ None) → reads ≡ map (room_of (view_of program)) program.readbacks → HasState program control table pending reads (opened (opening program fill))
opens_state program fill control table pending reads agrees bytes none rooms = record {
  agrees = agrees;
  bytes = opens_with program fill (caches_of table) bytes;
  holds = λ n. subst (HasPending program (opened (opening program fill)) n) (sym (none n)) refl;
  has_read = record {
    count = ap length rooms ∙ length-map program.readbacks (room_of (view_of program));
    each = λ k p e.
        let lt : k < length program.readbacks = slice_get_within program.readbacks k p e in
        record {
          room = ap (λ l. length (get_or l k [])) rooms ∙ ap length (get_or-map (room_of (view_of program)) program.readbacks k p [] lt) ∙ length-replicate (bytes_of (piece_at (view_of program) (get_or program.readbacks k p)).shape) 0 ∙ ap (λ z. bytes_of (piece_at (view_of program) z).shape) (get_or_from_slice_get program.readbacks k p p e);
          bytes = λ d. absurd (false≢true d);
        };
  };
}

pub opens_room : (program : Program) (fill moves cuts stores used capacity : ℕ) → 2 * moves ≤ cuts → stores ≡ node_count program → 2 * node_count program + moves + used ≤ capacity → HasRoom program (opened (opening program fill)) moves cuts stores used capacity
opens_room program fill moves cuts stores used capacity c s u = record {
  for_moves = omega (arith, c);
  for_stores = omega (arith, first_stores (node_count program), s);
  for_events = omega (arith, first_events (node_count program), u);
}
