-- A program that breaks no rule can be opened.
use Rattle.std.proofs.Common.{◌≡◌, ℕ, ◌*◌, ◌^◌, ◌<◌, ◌≤◌, List, length, map, get_or, sym, ap, subst, arith}
use Rattle.std.specs.List.{All, sum_by}
use Rattle.std.specs.Option.{option_map_or}
use Rattle.std.specs.Prelude.{slice_index_or, replicate, true, Result, Ok, Err, IfOk}
use Rattle.std.proofs.lemmas.List.{get_or_default, get_or-replicate, length-map, length-replicate}
use Rattle.std.proofs.lemmas.Option.{slice_get-get_or}
use Rattle.base.specs.Maxima.{max_memories, max_memory_bytes}
use Rattle.base.specs.Shapes.{bytes_of}
use Rattle.check_program.specs.Sound.{IsSound}
use Rattle.device_cache.specs.Tables.{Table, is_cut, slot_at, IsMade}
use Rattle.device.proofs.Facts.{lies, piece_small, memory_small, within_shapes}
use Rattle.device.proofs.Starting.{opened_sum, opened_size, cuts_within, opens_fitting}
use Rattle.device.specs.Internal.Opened.{opened_memory, piece_in, piece_end, HasCuts}
use Rattle.device.specs.Internal.Tables.{memory_size, FitsProgram}
use Rattle.device_model.specs.Devices.{Device, fresh}
use Rattle.program.specs.Limits.{memory_bytes}
use Rattle.program.specs.Obeys.{Obeys, IsSmall}
use Rattle.program.specs.declared.program.Memory.TheVariants.{Plain}
use Rattle.program.specs.declared.program.Piece.{Piece}
use Rattle.program.specs.declared.program.Program.{Program}
use Rattle.program.specs.declared.rule.Rule.{Rule}
use Rattle.program.specs.declared.rule.Rule.TheVariants as rules
use Rattle.check_access.specs.Views.{no_piece}

-- no piece is longer than a number of four bytes says
pub sizes_small : (program : Program) → IsSmall program → (p : ℕ) → p < length program.pieces → bytes_of (piece_in program.pieces p).shape < 2 ^ 32
sizes_small program S p lt = omega (arith, piece_small program S p lt)

module _ (program : Program) (S : IsSmall program) (O : (rule : Rule) → Obeys rule program) (fill : ℕ) where
  size_small : (m : ℕ) → m < length program.memories → memory_size program m ≤ 805306368
  size_small m lt = subst (λ o. option_map_or memory_bytes o 0 ≤ 805306368) (sym (slice_get-get_or program.memories m (Plain 0) lt)) (memory_small program S m lt)

  -- places of memories are numbers of four bytes
  pub ends_small : All (λ piece. piece_end piece < 2 ^ 32) program.pieces
  ends_small p d lt =
      let l = lies program O p lt in
      subst (λ (piece : Piece). piece_end piece < 2 ^ 32) (get_or_default program.pieces p no_piece d lt) (omega (arith, l.1, size_small (piece_in program.pieces p).memory l.0))

  module _ (opening : List (List ℕ)) (is : opening ≡ map (opened_memory fill) program.memories) where
    pub few_memories : length opening ≤ max_memories
    few_memories = omega (arith, ap length is, length-map program.memories (opened_memory fill), S.memories)

    pub few_bytes : sum_by length opening ≤ max_memory_bytes
    few_bytes = omega (arith, ap (λ (list : List (List ℕ)). sum_by length list) is, opened_sum fill program.memories, S.bytes)

    -- the ends of pieces are places of their memories
    pub cuts_there : (cuts : List (ℕ × ℕ)) → HasCuts program.pieces (length program.pieces) cuts → All (λ c. (c.0 < length opening) × (c.1 ≤ length (slot_at opening c.0))) cuts
    cuts_there cuts C k d lt =
        let w = cuts_within program fill cuts C (lies program O) k d lt in
        let m = (slice_index_or cuts k d).0 in
        (omega (arith, w.0, ap length is, length-map program.memories (opened_memory fill)), omega (arith, w.1, ap (λ (list : List (List ℕ)). length (slot_at list m)) is, opened_size program fill m))

    -- the table that is made fits the program
    pub fits_made : {E : Type 0} (result : Result Table E) (cuts : List (ℕ × ℕ)) → HasCuts program.pieces (length program.pieces) cuts → (agents longest : ℕ) → agents ≡ 8 * length program.queues → All (λ piece. bytes_of piece.shape ≤ longest) program.pieces → IfOk result (λ t. IsMade t agents opening (replicate longest fill)) → IfOk result (λ t. All (λ c. is_cut t c.0 c.1 ≡ true) cuts) → IfOk result (λ t. FitsProgram t program fill)
    fits_made (Ok t) cuts C agents longest known long made cut =
        let M : IsMade t (8 * length program.queues) (map (opened_memory fill) program.memories) (replicate longest fill) = subst (λ a. IsMade t a (map (opened_memory fill) program.memories) (replicate longest fill)) known (subst (λ (o : List (List ℕ)). IsMade t agents o (replicate longest fill)) is made) in
        opens_fitting program fill cuts C (lies program O) t (replicate longest fill) M cut (λ k lt. get_or-replicate longest k fill 0 (omega (arith, lt, length-replicate longest fill))) (λ p lt. omega (arith, long p no_piece lt, length-replicate longest fill)) (sizes_small program S)
    fits_made (Err e) cuts C agents longest known long made cut = tt

-- each piece that is read back is there
pub read_there : (program : Program) → ((rule : Rule) → Obeys rule program) → All (λ p. p < length program.pieces) program.readbacks
read_there program obeys = λ k d lt. within_shapes program (get_or program.readbacks k d) ((obeys rules.Known).readbacks k d lt)

-- a device of a sound program is one of a sound program
pub is_sound : {E : Type 0} (result : Result Device E) (program : Program) (fill moves : ℕ) → IsSound program → IfOk result (λ d. d ≡ fresh program fill moves) → IfOk result (λ d. IsSound d.program)
is_sound (Ok d) program fill moves sound e = subst IsSound (sym (ap (λ (d : Device). d.program) e)) sound
is_sound (Err error) program fill moves sound e = tt
